use Rattle.std.proofs.Common.{◌≡◌, ◌∙◌, ap, arith}
use Rattle.std.specs.List.{list_any}
use Rattle.index_model.specs.Answers.{places}
use Rattle.query_engine.specs.declared.way.Way.{Way}
use Rattle.query_engine.specs.Asked.{is_asked}
use Rattle.query_engine.specs.Counts.{is_plain}
use Rattle.query_engine.specs.Sorted.{name_at}
use Rattle.query_engine.proofs.PlacedEntries.{places_within}
use Rattle.query_engine.proofs.PlainLaws.{has_plain, plain_more, plain_all}
use Rattle.query_engine.proofs.names.SortedNames.count_plain.Goals as goal
use Rattle.query_engine.proofs.names.SortedNames.count_plain.Goals.{then-has_plain, else-has_plain}

pub has_plain-requires : goal.has_plain-requires
has_plain-requires c = rw c.places_at.ensures (places_within _ c.args.entries.now)

pub loop-index-preserved : goal.loop-index-preserved
loop-index-preserved c =
    let es = c.args.entries.now in
    let n = c.args.self.now in
    let k = c.loop-index.index in
    let inv = c.loop-index.invariant in
    let plain : c.has_plain.result ≡ has_plain es (name_at es n k) = c.has_plain.ensures ∙ ap (list_any (is_plain es)) (c.places_at.ensures ∙ ap (λ (w : Way). places (is_asked w (name_at es n k)) es) c.requires.way) in
    let more = plain_more es n k c.has_plain.result plain in
    elim c.if-has_plain.branch [
      | then-has_plain w ↦
          let step = rw w.if-has_plain.true at more in
          record { counted = rw (w.count-is, step) (omega (arith, inv.counted)); few = rw w.count-is (omega (arith, inv.few)) }
      | else-has_plain w ↦
          let step = rw w.if-has_plain.false at more in
          record { counted = rw (w.count-is, step) (omega (arith, inv.counted)); few = rw w.count-is (omega (arith, inv.few)) }
    ]

pub returns : goal.returns
returns c =
    let n = c.args.self.now in
    c.loop-index.invariant.counted ∙ plain_all c.args.entries.now n c.requires.names c.requires.way c.loop-index.index (omega arith)
