use Rattle.std.proofs.Common.{◌<◌, length, ◌∙◌, arith}
use Rattle.std.proofs.lemmas.List.{length-map}
use Rattle.query_engine.proofs.LabelLaws.{label_list, label_seen}
use Rattle.query_engine.proofs.labels.Labels.has.Goals as goal

pub returns-then-number-len : goal.returns-then-number-len
returns-then-number-len c = λ yes.
    let list = c.args.self.now.list.items in
    let within : c.args.number < length list = omega (arith, c.if-number-len.true, c.len.ensures) in
    record {
      within = omega (arith, within, length-map list label_list);
      same = label_seen list c.args.number c.index.result.now within c.index.ensures ∙ c.is.ensures yes;
    }
