use Rattle.std.proofs.Common.{◌≡◌, ◌∙◌, arith}
use Rattle.std.specs.Prelude.{filter_map}
use Rattle.std.proofs.lemmas.List.{length-map}
use Rattle.query_engine.specs.declared.spelling.FrontedText.{FrontedText}
use Rattle.query_engine.specs.Marked.{AreTextsOf, renumbered}
use Rattle.query_engine.specs.Seen.{texts_seen}
use Rattle.query_engine.proofs.LabelLaws.{label_list}
use Rattle.query_engine.proofs.SpelledLaws.{marks_kept}
use Rattle.query_engine.proofs.spelled.spell.Goals as goal

pub texts_of-requires : goal.texts_of-requires
texts_of-requires c = rw c.deref.ensures.value (omega (arith, c.requires.labelled.few, c.requires.few))

pub marks_by-requires : goal.marks_by-requires
marks_by-requires c =
    let ls = c.args.labelled.now.labels.list.items in
    let n = c.in_ok-numbered.numbered in
    let h : AreTextsOf c.args.way ls (texts_seen n.texts.items) n.numbers.items = rw c.deref.ensures.value at c.in_ok-numbered.ensures in
    rw (c.deref-2.ensures.value, c.deref-3.ensures.value) (λ k d lt. omega (arith, c.requires.labelled.say.within k d lt, h.size, length-map ls label_list))

pub returns : goal.returns
returns c entries labelled =
    let m = c.args.labelled.now in
    let ls = m.labels.list.items in
    let n = c.in_ok-numbered.numbered in
    let h : AreTextsOf c.args.way ls (texts_seen n.texts.items) n.numbers.items = rw c.deref.ensures.value at c.in_ok-numbered.ensures in
    let made : c.in_ok-marks.marks.items ≡ filter_map (renumbered n.numbers.items) m.marks.items = c.in_ok-marks.ensures ∙ (λ i. filter_map (renumbered (c.deref-3.ensures.value i)) (c.deref-2.ensures.value i)) in
    record {
      few = omega (arith, h.few, labelled.few, length-map n.texts.items (λ (s : FrontedText). s.bytes.now));
      say = rw made (marks_kept c.args.way ls (texts_seen n.texts.items) n.numbers.items h entries m.marks.items labelled.say);
    }
