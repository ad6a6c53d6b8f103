use Rattle.std.proofs.Common.{◌≡◌, ◌⊎◌, ℕ, ◌<◌, List, length, get_or, inl, inr, ⊎_elim, subst, arith, ◌∙◌}
use Rattle.std.specs.Prelude.{Contains}
use Rattle.std.proofs.lemmas.List.Elements.{Contains-get_or}
use Rattle.range_lists.specs.declared.found.RangeList.{RangeList}
use Rattle.range_lists.proofs.found.FoundRanges.note_all.Goals as goal

-- what was noted is the list at the index
noted : (lists earlier : List RangeList) (k : ℕ) (d other : RangeList) → k < length lists → (get_or lists k d ≡ other) ⊎ Contains earlier other → Contains lists other ⊎ Contains earlier other
noted lists earlier k d other lt h = ⊎_elim
    (λ (one : get_or lists k d ≡ other). inl (subst (Contains lists) one (Contains-get_or lists k d lt)))
    (λ (before : Contains earlier other). inr before)
    h

pub loop-list-preserved : goal.loop-list-preserved
loop-list-preserved c = record {
  ranges = c.in_ok-note.ensures.ranges ∙ c.loop-list.invariant.ranges;
  lists = λ other m. ⊎_elim
      (λ (now : Contains c.args.lists.now other). inl now)
      (λ (before : Contains c.loop-list.self.lists.keys other). c.loop-list.invariant.lists other before)
      (noted c.args.lists.now c.loop-list.self.lists.keys c.loop-list.list-index _ other (omega arith) (c.in_ok-note.ensures.lists other m));
}
