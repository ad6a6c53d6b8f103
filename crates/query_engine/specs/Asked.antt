-- The ways to ask for an entry (DWARF 5, 6.1.1: look-up by name).
use Rattle.std.specs.Prelude.{ℕ, ◌-◌, ◌≤◌, Bool, true, not, ◌&&◌, List, length, drop, All, bytes_eq}
use Rattle.index_model.specs.declared.entry.Entry.{Entry}
use Rattle.query_engine.specs.declared.way.Way.{Way}
use Rattle.query_engine.specs.declared.way.Way.TheVariants.{ByName, BySimple}

-- whether entries can be found this way that are linkage entries or not
abbrev pub counts_by : Way → Bool → Bool
counts_by ByName linkage = true
counts_by BySimple linkage = not linkage

-- the text by which they are found, by their name and the length of the simple name at its end
abbrev pub text_by : Way → Bool → ℕ → List ℕ → List ℕ
text_by ByName linkage tail name = name
text_by BySimple linkage tail name = drop (length name - tail) name

-- whether the entry can be found this way
abbrev pub is_counted : Way → Entry → Bool
is_counted way e = counts_by way e.linkage

-- the text by which it is found
abbrev pub text_of : Way → Entry → List ℕ
text_of way e = text_by way e.linkage e.tail e.name

-- the entry can be found this way by the asked text
abbrev pub is_asked : Way → List ℕ → Entry → Bool
is_asked way asked e = is_counted way e && bytes_eq (text_of way e) asked

-- no entry's tail is above the length of its name
abbrev pub TailsFit : List Entry → Type 0
TailsFit es = All (λ e. e.tail ≤ length e.name) es
