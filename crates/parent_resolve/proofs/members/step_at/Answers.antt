use Rattle.std.proofs.Common.{ℕ, None, Result, refl, sym, ap, subst, ◌∙◌}
use Rattle.std.specs.Prelude.{is_some}
use Rattle.common_laws.proofs.Options.{none_from}
use Rattle.index_model.specs.Faults.{program_of}
use Rattle.index_model.specs.Gives.{GivesFor}
use Rattle.index_model.specs.Meaning.{at_place}
use Rattle.index_model.specs.Parents.{parent_offset}
use Rattle.index_model.specs.Program.{item_with_offset}
use Rattle.shard_build.specs.Entries.{EntriesOf}
use Rattle.parent_resolve.specs.declared.members.Step.{Step}
use Rattle.parent_resolve.specs.Scopes.{Passed, IsStep, passed_at, root_passed}
use Rattle.parent_resolve.proofs.Entries.{found_entry}
use Rattle.parent_resolve.proofs.NodeLaws.{node_parts}
use Rattle.parent_resolve.proofs.Outwards.{gives_ok}
use Rattle.parent_resolve.proofs.Steps.{node_there, nothing_there, passed_below, passed_root, root_step, root_gives_none}
use Rattle.parent_resolve.proofs.members.step_at.Goals as goal
use Rattle.parent_resolve.proofs.members.step_at.Goals.{in_default-via-in-Some+else-is_some, in_default-via-in_default}

pub returns-in-Some-clause-value : goal.returns-in-Some-clause-value
returns-in-Some-clause-value c p file m found =
    let there = (found_entry p c.args.offset m found).0 in
    let node = node_there p.sections c.in_ok-member.field-0 (item_with_offset p c.args.offset) c.in-Some.member m (c.in_ok-member.ensures.value p file) c.in-Some.is found in
    let below = passed_below c.args.references.now.image.file p file m there (ap is_some (sym (node_parts p.sections c.in-Some.member m node).1) ∙ sym c.is_some.ensures ∙ c.if-is_some.true) in
    let behind = ap (λ (e : EntriesOf). program_of e.image.file) c.at.ensures.kept ∙ file in
    subst (λ (r : Result Passed ℕ). GivesFor (IsStep p) c.step_over.result (at_place c.args.at r)) (sym below) (c.step_over.ensures.value p behind m there node)

pub returns-in_default-clause-value : goal.returns-in_default-clause-value
returns-in_default-clause-value c p file m found =
    let there = (found_entry p c.args.offset m found).0 in
    elim c.in_default.branch [
      | in_default-via-in-Some+else-is_some w ↦
          let node = node_there p.sections c.in_ok-member.field-0 (item_with_offset p c.args.offset) w.in-Some.member m (c.in_ok-member.ensures.value p file) w.in-Some.is found in
          let top = passed_root c.args.references.now.image.file p file m there (none_from (parent_offset m) (ap is_some (sym (node_parts p.sections w.in-Some.member m node).1) ∙ sym w.is_some.ensures ∙ w.if-is_some.false)) in
          let s : Step = record { component = None; around = None } in
          gives_ok (IsStep p s) c.args.at (passed_at p m) (root_passed m) top (root_step p m s refl refl (root_gives_none m))
      | in_default-via-in_default w ↦ absurd (nothing_there p.sections c.in_ok-member.field-0 (item_with_offset p c.args.offset) m (c.in_ok-member.ensures.value p file) w.in_default.is found)
    ]
