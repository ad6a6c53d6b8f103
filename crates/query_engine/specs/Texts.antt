-- The distinct names of entries (DWARF 5, 6.1.1: look-up by name).
use Rattle.std.specs.Prelude.{List, ℕ, map, filter}
use Rattle.index_model.specs.declared.entry.Entry.{Entry}
use Rattle.index_model.specs.Ordered.{ascending, bytes_lt}
use Rattle.query_engine.specs.declared.way.Way.{Way}
use Rattle.query_engine.specs.Asked.{is_counted, text_of}

-- the distinct names of the entries, in byte order
abbrev pub table_names : List Entry → List (List ℕ)
table_names es = ascending bytes_lt (map (λ e. e.name) es)

-- the distinct texts of the entries that can be found this way, in byte order
abbrev pub texts_in : Way → List Entry → List (List ℕ)
texts_in way es = ascending bytes_lt (map (text_of way) (filter (is_counted way) es))
