use Rattle.std.proofs.Common.{◌≡◌, ◌++◌, take}
use Rattle.std.specs.Prelude.{flat_map}
use Rattle.reach_model.specs.FileTexts.{text_of_hit}
use Rattle.line_files.specs.Found.{hit_seen}
use Rattle.files_command.proofs.text.push_hits.Given as goal

-- the lines so far are appended
abbrev pub invariant-loop-hit : goal.invariant-loop-hit
invariant-loop-hit l = l.text.items ≡ l.initial.text.items ++ flat_map (λ hit. text_of_hit (hit_seen hit)) (take l.hit-index l.hits)
