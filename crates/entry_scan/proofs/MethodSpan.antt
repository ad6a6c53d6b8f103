-- The span of the root of a small unit, computed.
use Rattle.std.proofs.Common.{◌≡◌, ℕ, false, List, [], ◌∷◌, Option, Some, None, refl, subst, arith}
use Rattle.std.specs.Prelude.{Contains, IfSome}
use Rattle.ix_base.specs.Reading.{unsigned_leb, signed_leb}
use Rattle.index_model.specs.declared.unit.Part.TheVariants.{Info}
use Rattle.index_model.specs.declared.unit.UnitSort.TheVariants.{Compile}
use Rattle.index_model.specs.declared.unit.Unit.{Unit as UnitHeader}
use Rattle.index_model.specs.declared.shard.Span.{Span}
use Rattle.index_model.specs.Abbreviations.{Abbrev, table, spec_at, specs_at, abbrev_with, abbrevs_at}
use Rattle.index_model.specs.Forms.{indirect, value_at}
use Rattle.index_model.specs.Walk.{values, entry_at, token_at, tail_of, walk_from}
use Rattle.index_model.specs.ShardParts.{spans_of, span_of}
use Rattle.entry_scan.specs.Inside.{walked_of}

abbrev table_bytes : List ℕ
table_bytes = 1 ∷ 17 ∷ 1 ∷ 3 ∷ 8 ∷ 19 ∷ 11 ∷ 0 ∷ 0 ∷ 2 ∷ 46 ∷ 0 ∷ 17 ∷ 1 ∷ 18 ∷ 6 ∷ 49 ∷ 16 ∷ 0 ∷ 0 ∷ 3 ∷ 46 ∷ 0 ∷ 71 ∷ 16 ∷ 0 ∷ 0 ∷ 4 ∷ 57 ∷ 1 ∷ 3 ∷ 8 ∷ 0 ∷ 0 ∷ 5 ∷ 2 ∷ 1 ∷ 3 ∷ 8 ∷ 0 ∷ 0 ∷ 6 ∷ 46 ∷ 0 ∷ 3 ∷ 8 ∷ 63 ∷ 25 ∷ 60 ∷ 25 ∷ 0 ∷ 0 ∷ 0 ∷ []

abbrev unit_bytes : List ℕ
unit_bytes = 28 ∷ 0 ∷ 0 ∷ 0 ∷ 5 ∷ 0 ∷ 1 ∷ 8 ∷ 0 ∷ 0 ∷ 0 ∷ 0 ∷ 1 ∷ 110 ∷ 46 ∷ 99 ∷ 99 ∷ 0 ∷ 33 ∷ 4 ∷ 110 ∷ 115 ∷ 0 ∷ 5 ∷ 67 ∷ 0 ∷ 6 ∷ 102 ∷ 0 ∷ 0 ∷ 0 ∷ 0 ∷ []

abbrev unit : UnitHeader
unit = record { start = 62; part = Info; length = 32; version = 5; wide = false; sort = Compile; «abbrev» = 0; body = 12; signature = 0; type_offset = 0 }

abbrev span : Span
span = record { unit = 2; entry = 74; depth = 0; from = 81; to = 94 }

abbrev HasSpan : List Abbrev → Type 0
HasSpan t = Contains (spans_of (walked_of unit t unit_bytes 2)) span

has_span : IfSome (table table_bytes 0) HasSpan
unfolding unsigned_leb signed_leb spec_at specs_at abbrev_with abbrevs_at indirect value_at values entry_at token_at tail_of walk_from span_of
has_span = (0, omega arith, refl)

same : (x t : List Abbrev) → Some x ≡ Some t → x ≡ t
same x t e = cc

of_table : (o : Option (List Abbrev)) (t : List Abbrev) → o ≡ Some t → IfSome o HasSpan → HasSpan t
of_table (Some x) t e h = subst HasSpan (same x t e) h
of_table None t e h = absurd cc

pub method_span : (t : List Abbrev) → table table_bytes 0 ≡ Some t → HasSpan t
method_span t e = of_table (table table_bytes 0) t e has_span
