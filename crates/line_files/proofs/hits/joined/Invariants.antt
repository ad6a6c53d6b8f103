use Rattle.std.proofs.Common.{◌≡◌, List, Result}
use Rattle.std.specs.List.{AllZip}
use Rattle.ix_base.specs.declared.fault.Fault.{Fault}
use Rattle.file_image.specs.Front.{with_front}
use Rattle.reach_model.specs.LineTables.{FileHit}
use Rattle.line_files.specs.Found.{hits_seen}
use Rattle.line_files.specs.Runs.{all_joined, GivesHits}
use Rattle.line_files.proofs.hits.joined.Given as goal

-- the files so far, and those of the runs that are left, are all
abbrev pub invariant-runs : goal.invariant-runs
invariant-runs l = (ms : List (Result (List FileHit) Fault)) → AllZip GivesHits l.fn.runs.items ms →
    (left : List (Result (List FileHit) Fault)) × AllZip GivesHits l.run-iterator.rest.items left × (with_front (hits_seen l.hits.items) (all_joined left) ≡ all_joined ms)
