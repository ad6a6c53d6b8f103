-- What stands before names, as it is kept.
use Rattle.std.specs.Prelude.{List, All, Option}
use Rattle.std.specs.Option.{ForSome}
use Rattle.shard_build.specs.Entries.{EntriesOf}
use Rattle.qualified_names.specs.declared.fronts.Around.{Around}
use Rattle.qualified_names.specs.Paths.{IsFrontAround}

-- all that is kept stands before the names of the entries with its lexical parent
abbrev pub AreFronts : EntriesOf → List (Option Around) → Type 0
AreFronts e kept = All (λ o. ForSome o (λ a. IsFrontAround e a.parent a.front.items)) kept
