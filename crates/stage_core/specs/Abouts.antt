-- What contracts see of what no event changes.
use Rattle.std.specs.Prelude.{map}
use Rattle.index_model.specs.Outputs.{Subject}
use Rattle.stage_core.specs.declared.stages.About.TheInside.{Inside}

-- the subject
abbrev pub about_seen : Inside → Subject
about_seen a = record { file = a.file.items; runs = map (λ run. run.items) a.runs.items; cache = a.cache }
