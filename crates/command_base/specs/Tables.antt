-- What a command says of a table of a program that has no fault otherwise.
use Rattle.std.specs.Prelude.{◌≡◌, ◌⊎◌, ℕ, List, Some, Result, Ok, Err, ⊤}
use Rattle.ix_base.specs.declared.fault.Fault.{Fault}
use Rattle.index_model.specs.Faults.{Built, built_of, first_fault}
use Rattle.command_base.specs.Replies.{CausesOfResult}
use Rattle.command_base.specs.declared.status.Status.{Status}
use Rattle.command_base.specs.declared.status.Status.TheVariants.{TableRefused}

-- what holds of these bytes, which have no fault
pub record ForBuilt (file : List ℕ) (P : Built → Type 0) : Type 0 where
  pub built : Built
  pub accepted : built_of file ≡ Ok built
  pub holds : P built

-- the text says this of what the table is read as
abbrev pub SaysTable : {X : Type 0} → List ℕ → (Built → Result X Fault) → (Built → X → List ℕ → Type 0) → List ℕ → Type 0
SaysTable {X = X} file read Says text = ForBuilt file (λ b. (x : X) × (read b ≡ Ok x) × Says b x text)

-- the text is that of the first fault of the table
abbrev pub SaysTableFault : {X : Type 0} → List ℕ → (Built → Result X Fault) → (Fault → List ℕ) → List ℕ → Type 0
SaysTableFault file read text_of text = ForBuilt file (λ b. (fault : Fault) × (read b ≡ Err fault) × (text ≡ text_of fault))

-- the cause of a status, by whether a write failed
abbrev pub CausesOfTable : Type 0 → Status → Type 0
CausesOfTable writes (TableRefused table) = ⊤
CausesOfTable writes other = CausesOfResult writes other

-- the status is that of the meaning of a file whose table was asked, or want of memory; where the table has a fault, it is this one
pub record IsTableMeant {X : Type 0} (file : List ℕ) (read : Built → Result X Fault) (refusal status : ℕ) : Type 0 where
  pub answered : ForBuilt file (λ b. (x : X) × (read b ≡ Ok x)) → (status ≡ 0) ⊎ (status ≡ 7)
  pub table_refused : ForBuilt file (λ b. (fault : Fault) × (read b ≡ Err fault)) → (status ≡ refusal) ⊎ (status ≡ 7)
  pub refused : (f : Fault) → first_fault file ≡ Some f → (status ≡ 1) ⊎ (status ≡ 7)
