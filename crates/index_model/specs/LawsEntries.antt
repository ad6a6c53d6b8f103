-- The law of the list of entries (DWARF 5, 6.1.1.1).
use Rattle.std.specs.Prelude.{◌≡◌, ℕ, ◌-◌, ◌<◌, true, false, List, [], option_map, unwrap_or, length, AllPairs, slice_index_or, Ok}
use mathlib.Core.Logic.{◌⊎◌}
use Rattle.index_model.specs.declared.entry.Entry.{Entry}
use Rattle.index_model.specs.Names.{simple_name}
use Rattle.index_model.specs.Links.{Link, name_in}
use Rattle.index_model.specs.Entries.{entry_of, simple_of}
use Rattle.index_model.specs.Faults.{Built, built_of}
use Rattle.index_model.specs.Answers.{entries_in}

-- an entry comes before another by its unit, or within a unit by its offset
abbrev pub ComesBefore : Entry → Entry → Type 0
ComesBefore e n = (e.unit < n.unit) ⊎ ((e.unit ≡ n.unit) × (e.offset < n.offset))

-- an entry and its linkage entry: they differ in their names alone
pub record IsLinkageEntryOf (e n : Entry) : Type 0 where
  pub own : e.linkage ≡ false
  pub same : n ≡ record e { linkage = true; name = n.name; tail = 0 }

-- the entries of one item: at most one of each
abbrev pub AreApart : Entry → Entry → Type 0
AreApart e n = (e.unit ≡ n.unit) → (e.offset ≡ n.offset) → (e.linkage ≡ n.linkage) → ⊥

-- Of two entries the earlier comes before the later, or the later is its linkage entry. A linkage entry stands at once behind its own.
pub record AreInOrder (es : List Entry) : Type 0 where
  pub rise : AllPairs (λ e n. ComesBefore e n ⊎ IsLinkageEntryOf e n) es
  pub once : AllPairs AreApart es
  pub linkage : (k : ℕ) (d : Entry) → k < length es → (slice_index_or es k d).linkage ≡ true → (0 < k) × IsLinkageEntryOf (slice_index_or es (k - 1) d) (slice_index_or es k d)

-- the entries of a file without a fault
abbrev pub EntriesAreInOrder : Type 0
EntriesAreInOrder = (f : List ℕ) (b : Built) → built_of f ≡ Ok b → AreInOrder (entries_in b)

-- the simple name of an item's entry is that of the item: its qualified name ends with it
abbrev pub SimpleNameIsTheEnd : Type 0
SimpleNameIsTheEnd = (k : Link) → simple_of (entry_of k) ≡ unwrap_or (option_map (simple_name k.class) (name_in k)) []
