use Rattle.std.proofs.Common.{◌≡◌, ◌+◌, ◌-◌, ℕ, List, [], ◌∷◌, ◌++◌, get_or, length, inl, inr, ap, sym, ◌∙◌, arith}
use Rattle.std.proofs.lemmas.Bool.{cases_lt}
use Rattle.std.proofs.lemmas.List.{get_or_append_left, get_or_push, length_push}
use Rattle.index_model.specs.Layout.{nth}
use Rattle.debugnames_read.specs.Names.{tables_of}
use Rattle.debugnames_read.proofs.Counted.{string_total}
use Rattle.debugnames_read.proofs.names.IndexTables.offsets.Goals as goal

pub get-requires : goal.get-requires
get-requires c = omega (arith, string_total c.args.self.now.tables, c.len-number-end.ensures, c.loop-number-test.true)

pub loop-number-preserved : goal.loop-number-preserved
loop-number-preserved c =
    let inv = c.loop-number.invariant in
    let old = c.loop-number.offsets.items in
    let n = c.loop-number.number in
    let new = c.saturating_sub-offset.result in
    let items = c.in-Ok.ensures.items in
    record {
      size = ap (λ (xs : List ℕ). length xs) items ∙ length_push old new ∙ ap (λ (m : ℕ). m + 1) inv.size;
      each = λ k lt. ap (λ (xs : List ℕ). get_or xs k 0) items ∙ elim (cases_lt k n) as (λ _. get_or (old ++ new ∷ []) k 0 ≡ nth (tables_of c.args.self.now).strings.numbers k - c.args.self.now.base) [
        | inl before ↦ get_or_append_left old (new ∷ []) 0 k (omega (arith, before, inv.size)) ∙ inv.each k before
        | inr behind ↦
            let same : k ≡ n = omega (arith, behind, lt) in
            get_or_push old new 0 k (inv.size ∙ sym same) ∙ c.saturating_sub-offset.ensures ∙ ap (λ (m : ℕ). m - c.args.self.now.base) (c.get.ensures ∙ ap (nth (tables_of c.args.self.now).strings.numbers) (sym same))
      ];
    }
