use Rattle.common_laws.proofs.Appended.{all_parts, more_parts, no_part}
use Rattle.line_files.specs.Found.{hit_seen}
use Rattle.reach_model.specs.FileTexts.{text_of_hit}
use Rattle.files_command.proofs.text.push_hits.Goals as goal

pub loop-hit-init : goal.loop-hit-init
loop-hit-init c = no_part (λ hit. text_of_hit (hit_seen hit)) c.args.hits.now c.args.text.now.items

pub loop-hit-preserved : goal.loop-hit-preserved
loop-hit-preserved c = more_parts (λ hit. text_of_hit (hit_seen hit)) c.args.hits.now c.loop-hit.hit-index _ c.args.text.now.items c.loop-hit-test.true c.loop-hit.invariant c.in_ok-push_hit.ensures

pub returns : goal.returns
returns c = all_parts (λ hit. text_of_hit (hit_seen hit)) c.args.hits.now c.loop-hit.hit-index c.args.text.now.items c.loop-hit-test.false c.loop-hit.invariant
