-- A value as the definitions see it.
use Rattle.index_model.specs.declared.value.Value.{Value}
use Rattle.index_model.specs.declared.value.Value.TheVariants as read
use Rattle.index_model.specs.Forms as meant

-- the same value, with the bytes that it refers to
abbrev pub seen : Value → meant.Value
seen (read.Addr n) = meant.Addr n
seen (read.Unsigned n) = meant.Unsigned n
seen (read.Signed z) = meant.Signed z
seen read.Wide = meant.Wide
seen (read.Flag b) = meant.Flag b
seen (read.Inline bytes) = meant.Inline bytes.now
seen (read.Str n) = meant.Str n
seen (read.LineStr n) = meant.LineStr n
seen (read.StrIndex n) = meant.StrIndex n
seen (read.AddrIndex n) = meant.AddrIndex n
seen (read.Near n) = meant.Near n
seen (read.Far n) = meant.Far n
seen (read.Signature n) = meant.Signature n
seen (read.Offset n) = meant.Offset n
seen (read.RangeIndex n) = meant.RangeIndex n
seen (read.ListIndex n) = meant.ListIndex n
seen (read.Block bytes) = meant.Block bytes.now
