use Rattle.std.proofs.Common.{◌≡◌, List, Result, length, sym, ap, subst, ◌∙◌, arith}
use Rattle.ix_base.specs.declared.fault.Fault.{Fault}
use Rattle.reach_model.specs.LineTables.{FileHit}
use Rattle.line_files.specs.Runs.{hits_of_runs, GivesHits}
use Rattle.line_files.proofs.ListLaws.{all_runs, program_hits}
use Rattle.line_files.proofs.hits.list.Goals as goal

pub returns : goal.returns
returns g c b is =
    let im = c.args.image.now in
    let name = c.args.name.now in
    let cut = c.new-cut.result in
    let count : cut.count ≡ length im.units = omega (arith, c.new-cut.ensures, ap length c.units.ensures.value) in
    let all = all_runs im name cut.count cut.size cut.runs count cut.whole in
    let whole = program_hits im c.units.ensures.of_file b is name in
    subst (λ (m : Result (List FileHit) Fault). GivesHits c.joined.result m) (all ∙ sym whole) (c.joined.ensures (hits_of_runs im name cut.count cut.size 0 cut.runs) c.in_ok-runs.ensures)
