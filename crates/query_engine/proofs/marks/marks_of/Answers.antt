use Rattle.std.proofs.Common.{◌≡◌, ℕ, ◌+◌, List, [], ◌∷◌, ◌++◌, take, arith}
use Rattle.std.proofs.lemmas.List.{length-map}
use Rattle.query_engine.specs.Labels.{label_of, labels_from}
use Rattle.query_engine.specs.Marks.{Numbers}
use Rattle.query_engine.specs.Seen.{labels_seen}
use Rattle.query_engine.proofs.LabelLaws.{label_list, labels_push}
use Rattle.query_engine.proofs.MarkLaws.{grows, marks_more}
use Rattle.query_engine.proofs.marks.marks_of.Goals as goal

pub loop-index-preserved : goal.loop-index-preserved
loop-index-preserved c =
    let e = c.index-entries-index.result in
    let first = c.args.first in
    let es = c.args.entries.now in
    let i = c.loop-index.index in
    let inv = c.loop-index.invariant in
    let old : List (List ℕ) = labels_seen c.loop-index.labels.list.items in
    let new : List (List ℕ) = labels_seen c.number.new.self.list.items in
    let more : labels_from first (take (i + 1) es) ≡ labels_from first (take i es) ++ (first + i, label_of e) ∷ [] = labels_push first es i e c.loop-index-test.true c.index-entries-index.is in
    let numbers : Numbers old new (label_of e) c.in_ok-number.number = rw (← c.of-label.ensures) c.in_ok-number.ensures in
    record {
      say = rw (c.in_ok-push.ensures.items, more) (marks_more (labels_from first (take i es)) old new c.loop-index.marks.items inv.say (first + i) c.in_ok-number.number (label_of e) numbers);
      few = omega (arith, inv.few, (grows old new (label_of e) c.in_ok-number.number numbers).few, length-map c.loop-index.labels.list.items label_list, length-map c.number.new.self.list.items label_list);
    }
