use Rattle.std.proofs.Common.{◌≡◌, ◌+◌, [], ◌∷◌, ◌++◌, take, sym, ap, ◌∙◌}
use Rattle.std.proofs.lemmas.List.{map_more}
use Rattle.query_engine.specs.declared.label.Label.{Label}
use Rattle.query_engine.specs.Seen.{labels_seen}
use Rattle.query_engine.proofs.JoinLaws.{numbered_more}
use Rattle.query_engine.proofs.LabelLaws.{label_list}
use Rattle.query_engine.proofs.labels.Labels.numbers_of.Goals as goal

pub loop-label-preserved : goal.loop-label-preserved
loop-label-preserved c =
    let ls = c.args.labels.now in
    let i = c.loop-label.label-index in
    let x = c.label-item.result in
    let more : labels_seen (take (i + 1) ls) ≡ labels_seen (take i ls) ++ label_list x ∷ [] =
    map_more label_list ls i x c.loop-label-test.true ∙ ap (λ (l : Label). labels_seen (take i ls) ++ label_list l ∷ []) (sym c.label-item.is) in
    rw (more, c.in_ok-push.ensures.items) (numbered_more (labels_seen c.args.self.now.list.items) (labels_seen (take i ls)) (labels_seen c.loop-label.self.list.items) (labels_seen c.number.new.self.list.items) c.loop-label.numbers.items (label_list x) c.in_ok-number.field-0 c.loop-label.invariant c.in_ok-number.ensures)
