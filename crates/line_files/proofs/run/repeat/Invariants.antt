use Rattle.std.proofs.Common.{◌≡◌, ◌-◌, ◌++◌, take, drop, map}
use Rattle.line_files.specs.Found.{hits_seen}
use Rattle.line_files.specs.Runs.{in_unit}
use Rattle.line_files.proofs.run.repeat.Given as goal

-- behind the files that there were stand those from the first on up to here
abbrev pub invariant-hits : goal.invariant-hits
invariant-hits l = hits_seen l.hits.items ≡ hits_seen l.initial.hits.items ++ map (in_unit l.unit) (take (l.index - l.first) (drop l.first (hits_seen l.initial.hits.items)))
