-- What is kept while names are formed.
use Rattle.std.specs.Prelude.{◌≡◌, ℕ, List}
use Rattle.indexmap.specs.IndexMap.{IndexMap}
use Rattle.index_model.specs.Sections.{Section}
use Rattle.gdb_entries.specs.Files.{ForProgram}
use Rattle.gdb_index.specs.declared.front.Front.{Front}
use Rattle.gdb_index.specs.declared.step.Step.{Step}
use Rattle.gdb_index.specs.Fronts.{AllAreFronts}
use Rattle.gdb_index.specs.Steps.{AllAreSteps}

-- these sections, whose texts are spelled, are those of the file
abbrev pub AreTextsOf : List ℕ → List Section → Type 0
AreTextsOf file ss = ForProgram file (λ p. ss ≡ p.sections)

-- what is kept is what the file has
pub record AreKept {S T : Type 0} (file : List ℕ) (ss : List Section) (known : IndexMap ℕ Step S) (formed : IndexMap ℕ Front T) : Type 0 where
  pub texts : AreTextsOf file ss
  pub steps : AllAreSteps file known
  pub fronts : AllAreFronts file formed
