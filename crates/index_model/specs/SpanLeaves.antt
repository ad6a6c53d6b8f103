-- What a leaf says of a span.
use Rattle.std.specs.Prelude.{◌≡◌, ◌<◌, true, if◌then◌else◌, List, length, slice_get, unwrap_or}
use Rattle.index_model.specs.declared.shard.Span.{Span}
use Rattle.index_model.specs.declared.span_leaf.SpanLeaf.{SpanLeaf}

-- what a leaf says by itself
abbrev pub span_alone : SpanLeaf → Span
span_alone l = record { unit = l.unit; entry = l.entry; depth = l.depth; from = l.from; to = l.to }

-- the span of a leaf, where these are kept whole
unfoldable pub span_in : List Span → SpanLeaf → Span
span_in whole l = if l.aside then unwrap_or (slice_get whole l.entry) (span_alone l) else span_alone l

-- where its span is kept whole, it is among these
abbrev pub IsSpanInside : List Span → SpanLeaf → Type 0
IsSpanInside whole l = l.aside ≡ true → l.entry < length whole
