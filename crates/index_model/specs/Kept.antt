-- How a name's bytes are kept.
use Rattle.std.specs.Prelude.{ℕ, List}
use Rattle.index_model.specs.declared.text.TextBytes.{TextBytes}
use Rattle.index_model.specs.declared.text.TextBytes.TheVariants.{Lent, Owned}

-- the bytes, borrowed or owned
abbrev pub bytes_kept : TextBytes → List ℕ
bytes_kept (Lent bytes) = bytes.now
bytes_kept (Owned bytes) = bytes.items
