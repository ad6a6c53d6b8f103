-- What a reader keeps of a board's file.
use Rattle.std.proofs.Common.{◌≡◌, Option, Some, subst}
use Rattle.std.specs.Prelude.{IfSome}
use Rattle.ix_base.specs.declared.fault.Fault.{Fault}
use Rattle.index_model.specs.Faults.{first_fault}
use Rattle.index_board.specs.Kept.{AreOf}
use Rattle.index_board.specs.Readers.{Reader}

-- a fault that is kept is the first of the file
pub fault_of : (r : Reader) → AreOf r.board.subject r.kept → (f : Fault) → r.kept.fault ≡ Some f → first_fault r.board.subject.file ≡ Some f
fault_of r right f is = subst (λ (o : Option Fault). IfSome o (λ f. first_fault r.board.subject.file ≡ Some f)) is right.fault
