-- What is said of the program that a file means.
use Rattle.std.specs.Prelude.{◌≡◌, ℕ, List, Ok}
use Rattle.index_model.specs.Faults.{program_of}
use Rattle.index_model.specs.Program.{Program}

-- the file has no fault that keeps its units from being read
abbrev pub HasProgram : List ℕ → Type 0
HasProgram file = (p : Program) × (program_of file ≡ Ok p)

-- of the program that the file means
abbrev pub ForProgram : List ℕ → (Program → Type 0) → Type 0
ForProgram file Holds = (p : Program) → program_of file ≡ Ok p → Holds p
