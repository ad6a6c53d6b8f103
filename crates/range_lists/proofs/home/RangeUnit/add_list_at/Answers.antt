use Rattle.std.proofs.Common.{Vec, Global, ◌≡◌, ℕ, ◌+◌, ◌<◌, ◌≤◌, ◌∷◌, ◌++◌, [], List, length, Err, refl, ap, sym, subst, ◌∙◌, arith}
use Rattle.std.specs.Prelude.{Contains}
use Rattle.std.proofs.lemmas.Result.{err_from_is_err_and}
use Rattle.ix_base.specs.Reading.{input}
use Rattle.range_lists.specs.declared.found.RangeList.{RangeList}
use Rattle.range_lists.specs.declared.found.FoundRanges.{FoundRanges}
use Rattle.range_lists.specs.Homes.{unit_with}
use Rattle.range_lists.specs.Same.{of_unit}
use Rattle.index_model.specs.declared.range.Range.{Range}
use Rattle.range_lists.specs.Lists.{entry_seen, kept, lists_in}
use Rattle.range_lists.proofs.Reading.{list_past}
use Rattle.range_lists.proofs.Refusals.{code_refused}
use Rattle.range_lists.proofs.Rests.{IsReading, at_first, at_last, known, one_end, one_on, was_cut, was_out}
use Rattle.range_lists.proofs.Roots.{addresses_at}
use Rattle.range_lists.proofs.home.RangeUnit.add_list_at.Goals as goal
use Rattle.range_lists.proofs.home.RangeUnit.add_list_at.Goals.{then-number+else-has+in_ok-push, else-number}

pub returns-then-list-bytes : goal.returns-then-list-bytes
returns-then-list-bytes c read own =
    let list = c.args.list in
    let past : length (lists_in list.format c.args.self.now.sections.now) < list.place = omega (arith, c.if-list-bytes.true, ap (λ (bs : List ℕ). length bs) c.lists_in-bytes.ensures.value) in
    ap kept (list_past list.format c.args.self.now.sections.now (unit_with c.args.self.now) list.base (lists_in list.format c.args.self.now.sections.now) list.place past)

pub entries-init : goal.entries-init
entries-init c =
    let list = c.args.list in
    let bytes = lists_in list.format c.args.self.now.sections.now in
    let within : list.place ≤ length bytes = omega (arith, c.if-list-bytes.false, ap (λ (bs : List ℕ). length bs) c.lists_in-bytes.ensures.value) in
    let cursor : input bytes list.place ≡ c.new-cursor.result = ap (λ (bs : List ℕ). input bs list.place) (sym c.lists_in-bytes.ensures.value) ∙ sym c.new-cursor.ensures in
    let first = at_first c.args.self.now.sections.now (unit_with c.args.self.now) c.args.self.now.number list c.args.found.now within in
    rw c.new-ends.ensures.items (rw cursor at first)

pub returns-in_err-entry : goal.returns-in_err-entry
returns-in_err-entry c read own =
    let wrong = was_cut c.args.self.now.sections.now (unit_with c.args.self.now) c.args.self.now.number c.args.list c.args.found.now c.entries.found c.entries.ends.items c.entries.number c.entries.base c.entries.cursor c.entries.invariant c.in_err-entry.field-0.0 (omega (arith, c.entries-test.true, ap (λ (bs : List ℕ). length bs) c.lists_in-bytes.ensures.value)) c.in_err-entry.ensures in
    let p = err_from_is_err_and c.from_residual.result c.from_residual.ensures.1 in
    code_refused _ _ _ c.in_err-entry.field-0.0 (p.1 ∙ ap Err p.2) wrong

pub returns-in_default : goal.returns-in_default
returns-in_default c read own = at_last c.args.self.now.sections.now (unit_with c.args.self.now) c.args.self.now.number c.args.list c.args.found.now c.entries.found c.entries.ends.items c.entries.number c.entries.base c.entries.cursor c.entries.invariant (addresses_at c.args.self.now ∙ sym own) (entry_seen c.in_ok-entry.entry) c.read_entry.new.cursor (omega (arith, c.entries-test.true, ap (λ (bs : List ℕ). length bs) c.lists_in-bytes.ensures.value)) c.in_ok-entry.ensures (sym c.base_behind.ensures ∙ c.in_default.is)

pub returns-then-has : goal.returns-then-has
returns-then-has c read own =
    let ss = c.args.self.now.sections.now in
    let w = unit_with c.args.self.now in
    let unit = c.args.self.now.number in
    let list = c.args.list in
    let old = c.args.found.now in
    let now : FoundRanges = record { ranges = c.add_range.new.ranges; lists = c.entries.found.lists; from_lists = c.entries.found.from_lists } in
    let i = c.read_entry.new.cursor in
    let base = c.in-Some.next in
    let more : c.entries.number < length (lists_in list.format ss) = omega (arith, c.entries-test.true, ap (λ (bs : List ℕ). length bs) c.lists_in-bytes.ensures.value) in
    let on = one_on ss w unit list old c.entries.found c.entries.ends.items c.entries.number c.entries.base c.entries.cursor c.entries.invariant (entry_seen c.in_ok-entry.entry) i base now more c.in_ok-entry.ensures (sym c.base_behind.ensures ∙ c.in-Some.is) refl
    (c.in_ok-add_range.ensures ∙ ap (λ (rs : List Range). c.entries.found.ranges.items ++ of_unit unit rs) c.range.ensures) in
    known ss w unit list old now c.entries.ends.items (c.entries.number + 1) base i on (addresses_at c.args.self.now ∙ sym own) read
    (subst (λ (place : ℕ). Contains now.lists.keys (record list { place = place; base = base })) c.at.ensures (c.has.ensures c.if-has.true))

pub entries-preserved : goal.entries-preserved
entries-preserved c =
    let ss = c.args.self.now.sections.now in
    let w = unit_with c.args.self.now in
    let unit = c.args.self.now.number in
    let list = c.args.list in
    let old = c.args.found.now in
    let now : FoundRanges = record { ranges = c.add_range.new.ranges; lists = c.entries.found.lists; from_lists = c.entries.found.from_lists } in
    let i = c.read_entry.new.cursor in
    let base = c.in-Some.next in
    let more : c.entries.number < length (lists_in list.format ss) = omega (arith, c.entries-test.true, ap (λ (bs : List ℕ). length bs) c.lists_in-bytes.ensures.value) in
    let on = one_on ss w unit list old c.entries.found c.entries.ends.items c.entries.number c.entries.base c.entries.cursor c.entries.invariant (entry_seen c.in_ok-entry.entry) i base now more c.in_ok-entry.ensures (sym c.base_behind.ensures ∙ c.in-Some.is) refl
    (c.in_ok-add_range.ensures ∙ ap (λ (rs : List Range). c.entries.found.ranges.items ++ of_unit unit rs) c.range.ensures) in
    elim c.if-number.branch [
      | then-number+else-has+in_ok-push b ↦
          let ends : c.entries.ends.items ++ (record list { place = i.at; base = base } ∷ []) ≡ c.if-number.ends.items =
          ap (λ (place : ℕ). c.entries.ends.items ++ (record list { place = place; base = base } ∷ [])) (sym b.at.ensures) ∙ sym b.in_ok-push.ensures.items ∙ ap (λ (v : Vec RangeList Global). v.items) (sym b.ends-is) in
          subst (λ (ends : List RangeList). IsReading ss w unit list old now ends (c.entries.number + 1) base i) ends (one_end ss w unit list old now c.entries.ends.items (c.entries.number + 1) base i on)
      | else-number b ↦ subst (λ (v : Vec RangeList Global). IsReading ss w unit list old now v.items (c.entries.number + 1) base i) (sym b.ends-is) on
    ]

pub returns : goal.returns
returns c read own =
    was_out c.args.self.now.sections.now (unit_with c.args.self.now) c.args.self.now.number c.args.list c.args.found.now c.entries.found c.entries.ends.items c.entries.number c.entries.base c.entries.cursor c.entries.invariant (omega (arith, c.entries-test.false, ap (λ (bs : List ℕ). length bs) c.lists_in-bytes.ensures.value))
