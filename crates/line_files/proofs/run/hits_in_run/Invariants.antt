use Rattle.std.proofs.Common.{◌≡◌}
use Rattle.file_image.specs.Front.{with_front}
use Rattle.line_files.specs.Found.{hits_seen}
use Rattle.line_files.specs.Runs.{hits_between, IsRun}
use Rattle.line_files.proofs.run.hits_in_run.Given as goal

-- the files so far, and those of the units that are left, are all
abbrev pub invariant-units : goal.invariant-units
invariant-units l = record {
  all : with_front (hits_seen l.run.hits.items) (hits_between l.image l.name l.number l.to) ≡ hits_between l.image l.name l.from l.to;
  run : IsRun l.image.sections l.run;
  name : l.run.name.now ≡ l.name;
}
