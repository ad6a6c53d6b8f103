-- Where the floor of a pass goes.
use Rattle.std.proofs.Common.{◌≡◌, ◌++◌, ◌∷◌, [], ℕ, ap, sym, subst}
use Rattle.index_model.specs.Outputs.{Subject}
use Rattle.index_model.specs.Stages.{IsReachable}
use Rattle.index_model.proofs.StageLaws.{closure}
use Rattle.stage_core.specs.Machines.{Machine}
use Rattle.stage_lock.specs.Seen.{Lock, Seen}
use Rattle.index_board.specs.Turns.{Turn}

abbrev Pass : Type 0
Pass = Seen Machine Subject

pub by_mark : (start : ℕ) (old new : Pass) (s : ℕ) → IsReachable start old.floor → IsReachable old.floor s → new ≡ record old { marks = old.marks ++ s ∷ []; floor = s } →
    IsReachable start new.floor
by_mark start old new s before reach is = subst (λ (x : ℕ). IsReachable start x) (sym (ap (λ (p : Pass). p.floor) is)) (closure.onwards start old.floor s before reach)

pub by_turn : (board : Lock Subject) (old new : Pass) (taken put : Machine) → Turn board old new taken put → IsReachable old.floor new.floor
by_turn board old new taken put turn = subst (λ (x : ℕ). IsReachable old.floor x) (sym (ap (λ (p : Pass). p.floor) turn.pass)) turn.left
