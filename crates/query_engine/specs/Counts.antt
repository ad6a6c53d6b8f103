-- How many names there are.
use Rattle.std.specs.Prelude.{ℕ, Bool, not, List, map, filter, bytes_eq, slice_get, option_map, unwrap_or, false}
use Rattle.std.specs.Set.{distinct_count}
use Rattle.index_model.specs.declared.entry.Entry.{Entry}
use Rattle.index_model.specs.Entries.{simple_of}
use Rattle.query_engine.specs.declared.way.Way.{Way}
use Rattle.query_engine.specs.Asked.{is_counted, text_of}

-- the entries that aren't linkage entries
abbrev pub without_linkage : List Entry → List Entry
without_linkage es = filter (λ e. not e.linkage) es

-- how many distinct names these entries have
abbrev pub name_count : List Entry → ℕ
name_count es = distinct_count bytes_eq (map (λ e. e.name) es)

-- how many distinct simple names these entries have
abbrev pub simple_count : List Entry → ℕ
simple_count es = distinct_count bytes_eq (map simple_of es)

-- how many distinct texts the entries have that can be found this way
abbrev pub text_count : Way → List Entry → ℕ
text_count way es = distinct_count bytes_eq (map (text_of way) (filter (is_counted way) es))

-- whether the entry at the place isn't a linkage entry
abbrev pub is_plain : List Entry → ℕ → Bool
is_plain es place = unwrap_or (option_map (λ e. not e.linkage) (slice_get es place)) false
