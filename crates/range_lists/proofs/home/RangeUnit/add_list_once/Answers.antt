use Rattle.std.proofs.Common.{◌≡◌, ◌⊎◌, inl, inr, List, ⊎_elim, subst, refl, ◌∙◌}
use Rattle.std.specs.Prelude.{Contains}
use Rattle.range_lists.specs.declared.found.RangeList.{RangeList}
use Rattle.range_lists.specs.Homes.{unit_with}
use Rattle.range_lists.proofs.Once.{read_before, read_now}
use Rattle.range_lists.proofs.Roots.{addresses_at}
use Rattle.range_lists.proofs.home.RangeUnit.add_list_once.Goals as goal

pub returns-then-has : goal.returns-then-has
returns-then-has c read =
    let list : RangeList = record { format = c.args.format; place = c.args.place; base = c.args.first_base; addr_base = c.args.self.now.addr_base } in
    read_before c.args.self.now.sections.now (unit_with c.args.self.now) c.args.self.now.number list (addresses_at c.args.self.now) c.args.found.now read (c.has.ensures c.if-has.true)

pub returns : goal.returns
returns c read =
    let list : RangeList = record { format = c.args.format; place = c.args.place; base = c.args.first_base; addr_base = c.args.self.now.addr_base } in
    let now = c.add_list_at.new.found in
    let ends = c.in_ok-ends.ends.items in
    let keys : (other : RangeList) → Contains c.note.new.self.lists.keys other → (list ≡ other) ⊎ (Contains ends other ⊎ Contains now.lists.keys other) = λ other m. ⊎_elim
    (λ (one : list ≡ other). inl one)
    (λ (earlier : Contains c.note_all.new.self.lists.keys other). inr (subst (λ (es : List RangeList). Contains es other ⊎ Contains now.lists.keys other) c.as_slice.ensures.value (rw c.count.ensures.lists at (c.in_ok-note_all.ensures.lists other earlier))))
    (c.in_ok-note.ensures.lists other m) in
    read_now c.args.self.now.sections.now (unit_with c.args.self.now) c.args.self.now.number list (addresses_at c.args.self.now) c.args.found.now read now c.note.new.self ends (c.in_ok-note.ensures.ranges ∙ c.in_ok-note_all.ensures.ranges ∙ c.count.ensures.ranges) keys (c.in_ok-ends.ensures read refl)
