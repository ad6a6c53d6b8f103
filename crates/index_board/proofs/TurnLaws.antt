-- What enter and leave do, as one turn.
use Rattle.std.proofs.Common.{◌≡◌, ◌+◌, true, false, Some, ap, subst, ◌∙◌}
use Rattle.index_model.specs.LawsCore.{IsState}
use Rattle.index_model.specs.Outputs.{Subject}
use Rattle.index_model.specs.Stages.{IsReachable}
use Rattle.index_model.proofs.StageLaws.{closure}
use Rattle.stage_core.specs.Machines.{Machine, stage_of}
use Rattle.stage_lock.specs.Seen.{Lock, Seen}
use Rattle.index_board.specs.Turns.{Turn}

abbrev Pass : Type 0
Pass = Seen Machine Subject

-- the pass once it has taken the machine out, and once it has put one back
abbrev entered_pass : Pass → Machine → Pass
entered_pass p m = record p { holding = true; turns = p.turns + 1; floor = stage_of m; value_out = Some m }

abbrev left_pass : Pass → Machine → Pass
left_pass p m = record p { holding = false; floor = stage_of m; value_back = Some m }

pub turn_is : (board : Lock Subject) (old within new : Pass) (taken put after : Machine) → taken.subject ≡ board.subject → IsState taken.subject taken.state →
    IsReachable old.floor (stage_of taken) → within ≡ entered_pass old taken → IsReachable within.floor (stage_of put) → new ≡ left_pass within put → put ≡ after → Turn board old new taken after
turn_is board old within new taken put after subject state enters within_is leaves new_is put_is = record {
  subject = subject;
  state = state;
  entered = enters;
  left = closure.onwards old.floor (stage_of taken) (stage_of after) enters (subst (λ (m : Machine). IsReachable (stage_of taken) (stage_of m)) put_is (subst (λ (p : Pass). IsReachable p.floor (stage_of put)) within_is leaves));
  pass = new_is ∙ (ap (λ (m : Machine). left_pass within m) put_is ∙ ap (λ (p : Pass). left_pass p after) within_is);
}
