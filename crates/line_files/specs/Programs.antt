-- What holds of a file without a fault.
use Rattle.std.specs.Prelude.{◌≡◌, ℕ, List, slice_get, Some, Ok}
use Rattle.index_model.specs.Faults.{Built, built_of}
use Rattle.index_model.specs.Program.{Walked, Program}
use Rattle.index_model.specs.Sections.{Section}

-- whatever the program of the file is
abbrev pub ForProgram : List ℕ → (Program → Type 0) → Type 0
ForProgram file Holds = (b : Built) → built_of file ≡ Ok b → Holds b.program

-- whatever the sections of its program and the walk of the unit with this number are
abbrev pub ForUnit : List ℕ → ℕ → (List Section → Walked → Type 0) → Type 0
ForUnit file number Holds = ForProgram file (λ p. (w : Walked) → slice_get p.walks number ≡ Some w → Holds p.sections w)
