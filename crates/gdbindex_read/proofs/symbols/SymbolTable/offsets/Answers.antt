use Rattle.std.proofs.Common.{◌≡◌, ◌+◌, ℕ, [], ◌∷◌, ◌++◌, List, get_or, length, inl, inr, ap, sym, ◌∙◌, arith}
use Rattle.std.proofs.lemmas.Bool.{cases_lt}
use Rattle.std.proofs.lemmas.List.{get_or_append_left, get_or_push, length_push}
use Rattle.gdbindex_read.specs.Areas.{item}
use Rattle.gdbindex_read.specs.Slots.{slot_in, table_of}
use Rattle.gdbindex_read.proofs.symbols.SymbolTable.offsets.Goals as goal

pub loop-place-preserved : goal.loop-place-preserved
loop-place-preserved c =
    let inv = c.loop-place.invariant in
    let old = c.loop-place.offsets.items in
    let n = c.loop-place.place in
    let new = c.offset.result in
    record {
      size = ap (λ (xs : List ℕ). length xs) c.in-Ok.ensures.items ∙ length_push old new ∙ ap (λ (m : ℕ). m + 1) inv.size;
      names = λ k slot lt is. ap (λ (xs : List ℕ). get_or xs k 0) c.in-Ok.ensures.items ∙ elim (cases_lt k n) as (λ _. get_or (old ++ new ∷ []) k 0 ≡ slot.name) [
        | inl before ↦ get_or_append_left old (new ∷ []) 0 k (omega (arith, before, inv.size)) ∙ inv.names k slot before is
        | inr behind ↦
            let same : k ≡ n = omega (arith, behind, lt) in
            get_or_push old new 0 k (inv.size ∙ sym same) ∙ c.offset.ensures slot (ap (λ (j : ℕ). slot_in (item 8 (table_of c.args.self.now) j).rest) (sym same) ∙ is)
      ];
    }

pub returns-clause-names : goal.returns-clause-names
returns-clause-names c k slot lt is = c.loop-place.invariant.names k slot (omega (arith, lt, c.len-place-end.ensures, c.loop-place-test.false)) is
