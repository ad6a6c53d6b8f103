-- What is written before the answer of an index that is kept, or is to be kept.
use Rattle.std.specs.Prelude.{ℕ, List, [], ◌∷◌, decimal, codes, Option, Some, None}
use Rattle.ix_base.specs.declared.fault.Fault.{Fault}
use Rattle.index_model.specs.Texts.{hex, line}

-- the kept index answered
abbrev pub text_of_hit : List ℕ
text_of_hit = line (codes "hit" ∷ [])

-- the fault of what was kept: code and place; nothing, where nothing was read
abbrev pub text_of_stale : Option Fault → List ℕ
text_of_stale None = []
text_of_stale (Some f) = line (codes "stale" ∷ decimal f.code ∷ hex f.at ∷ [])

-- the index was built, and is kept now
abbrev pub text_of_stored : List ℕ
text_of_stored = line (codes "stored" ∷ [])

-- the index was built, and isn't kept
abbrev pub text_of_unsaved : List ℕ
text_of_unsaved = line (codes "unsaved" ∷ [])
