-- What is kept of the members of scope paths.
use Rattle.std.specs.Prelude.{◌≡◌, ℕ, List, nat_eq, Some, option_map}
use Rattle.indexmap.specs.IndexMap.{IndexMap, get}
use Rattle.cxx_spelling.specs.declared.release.Release.{Release}
use Rattle.index_model.specs.Program.{Program, Located}
use Rattle.gdb_entries.specs.Names.{component}
use Rattle.gdb_entries.specs.Scopes.{scope_of}
use Rattle.gdb_scopes.specs.Places.{offset_of, ForItem}
use Rattle.gdb_index.specs.declared.step.Step.{Step}
use Rattle.gdb_index.specs.Texts.{text_by}

-- the component that an item gives, as each release spells it, and its scope
pub record IsStepOf (p : Program) (d : Located) (step : Step) : Type 0 where
  pub component : (release : Release) → option_map (text_by release) step.component ≡ component release p d
  pub scope : step.scope ≡ option_map offset_of (scope_of p d)

-- those of the item at a joint offset
abbrev pub IsStepAt : List ℕ → ℕ → Step → Type 0
IsStepAt file offset step = ForItem file offset (λ p d. IsStepOf p d step)

-- another step gives the same
pub record IsSameStep (one other : Step) : Type 0 where
  pub component : (release : Release) → option_map (text_by release) other.component ≡ option_map (text_by release) one.component
  pub scope : other.scope ≡ one.scope

-- what is kept of each offset is the step there
abbrev pub AllAreSteps : {S : Type 0} → List ℕ → IndexMap ℕ Step S → Type 0
AllAreSteps file known = (offset : ℕ) (step : Step) → get nat_eq known offset ≡ Some step → IsStepAt file offset step
