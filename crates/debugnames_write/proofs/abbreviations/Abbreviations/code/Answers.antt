use Rattle.std.proofs.Common.{◌≡◌, ◌+◌, ◌∙◌, ℕ, map, sym, ap}
use Rattle.std.specs.Prelude.{Contains}
use Rattle.index_model.specs.NameIndex.{row_lt, row_eq}
use Rattle.index_model.specs.Ordered.{place_of}
use Rattle.index_model.specs.Order.{Rises}
use Rattle.debugnames_write.specs.Rows.{row_seen}
use Rattle.debugnames_write.proofs.RowLaws.{row_place}
use Rattle.debugnames_write.proofs.abbreviations.Abbreviations.code.Goals as goal

pub returns : goal.returns
returns c =
    let rows = c.deref.result.now in
    let view : map row_seen c.deref.result.now ≡ c.args.self.now = ap (map row_seen) c.deref.ensures.value ∙ c.self.view_is in
    let rises : Rises row_lt (map row_seen c.deref.result.now) = rw c.deref.ensures.value c.self.invariant in
    let own : Contains (map row_seen c.deref.result.now) (row_seen c.args.row) = rw view c.requires in
    let place = row_place c.deref.result.now c.args.row c.place_of.result c.place_of.ensures.within c.place_of.ensures.parts rises own in
    ap (λ (n : ℕ). n + 1) (sym place ∙ ap (place_of row_eq (row_seen c.args.row)) view)
