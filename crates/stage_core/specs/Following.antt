-- What follows a machine by one event.
use Rattle.std.proofs.Common.{◌≡◌, refl}
use Rattle.index_model.specs.LawsCore.{IsState}
use Rattle.index_model.specs.MachineEvents.{Draw, Finish}
use Rattle.index_model.specs.Stages.{IsReachable, same as same_stage}
use Rattle.index_model.proofs.CoreRight.{states_go_on, stages_follow}
use Rattle.stage_core.specs.Machines.{Machine, ByOneEvent, same, draws, finishes, Follows, stage_of}

pub stays : (m n : Machine) → Follows m n → n.subject ≡ m.subject
stays m n follows = by n follows.event
  where
    by : (n : Machine) → ByOneEvent m n → n.subject ≡ m.subject
    by n same = refl
    by n draws = refl
    by n (finishes job output refused is) = refl

pub goes_on : (m n : Machine) → Follows m n → IsReachable (stage_of m) (stage_of n)
goes_on m n follows = by n follows.event
  where
    by : (n : Machine) → ByOneEvent m n → IsReachable (stage_of m) (stage_of n)
    by n same = same_stage
    by n draws = stages_follow m.subject m.state (Draw 0) follows.reached tt
    by n (finishes job output refused is) = stages_follow m.subject m.state (Finish 0 job output refused) follows.reached (is, tt)

-- what comes after an event is a state again
pub after_event_state : (m n : Machine) → Follows m n → IsState n.subject n.state
after_event_state m n follows = by n follows.event
  where
    by : (n : Machine) → ByOneEvent m n → IsState n.subject n.state
    by n same = follows.reached
    by n draws = states_go_on m.subject m.state (Draw 0) follows.reached tt
    by n (finishes job output refused is) = states_go_on m.subject m.state (Finish 0 job output refused) follows.reached (is, tt)
