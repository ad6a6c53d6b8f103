-- What contracts see of names and vectors.
use Rattle.std.specs.Prelude.{ℕ, List, map}
use Rattle.index_model.specs.GdbIndex.{Pool}
use Rattle.gdbindex_write.specs.declared.symbols.Symbol.{Symbol}
use Rattle.gdbindex_write.specs.Symbols.{names_of}
use denote.Ref.{Bor}

-- the vectors behind references
abbrev pub vectors_seen : List (Bor (List ℕ)) → List (List ℕ)
vectors_seen vectors = map (λ v. v.now) vectors

-- the names and the distinct vectors as the constant pool
abbrev pub pool_seen : List Symbol → List (Bor (List ℕ)) → Pool
pool_seen symbols vectors = record { names = names_of symbols; vectors = vectors_seen vectors }
