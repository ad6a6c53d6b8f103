use Rattle.std.proofs.Common.{◌≡◌, ◌++◌, option_map, sym, subst, ◌∙◌}
use Rattle.query_text.specs.Questions.{question_seen}
use Rattle.reach_model.specs.KeptTexts.{text_of_stale}
use Rattle.outside.specs.Counts.{Rose}
use Rattle.command_base.specs.Replies.{Wrote}
use Rattle.command_base.specs.declared.status.Status.{Status}
use Rattle.cached_command.specs.Buildings.{SaysSaved}
use Rattle.cached_command.specs.Places.{place_seen}
use Rattle.cached_command.proofs.TellingLaws.{told}
use Rattle.cached_command.proofs.cached.save_and_answer.Goals as goal

pub returns-in-Ok-save-clause-wrote : goal.returns-in-Ok-save-clause-wrote
returns-in-Ok-save-clause-wrote g c =
    let rose = Rose (g.F.Shelf.store_faults c.args.shelf.now) (g.F.Shelf.store_faults c.save.new.shelf) in
    let q = question_seen c.args.question.now in
    let says = SaysSaved (g.F.Shelf.files c.args.shelf.now) (g.F.Shelf.files c.save.new.shelf) rose (option_map (λ p. place_seen p.now) c.args.miss.place) c.args.miss.stale c.args.bytes.now q in
    let old = g.K.Sink.written c.args.out.now in
    let new = g.K.Sink.written c.tell_behind.new.out in
    let front : c.as_bytes.result.now ≡ text_of_stale c.args.miss.stale = c.as_bytes.ensures.value ∙ c.in-Ok-stale_text.ensures in
    subst (λ (s : Status). Wrote says s old new) (sym c.ended.ensures)
    (told c.in-Ok.index q says (λ answer. c.as_bytes.result.now ++ (c.line.result.now ++ answer)) (λ answer is. record {
      saved = c.in-Ok-save.saved;
      is = c.in-Ok-save.ensures.saved;
      answer = answer;
      answers = record { index = c.in-Ok.index; accepted = c.in-Ok.ensures; text_is = is };
      text_is = λ i. front i ++ (c.line.ensures i ++ answer);
    }) old new c.tell_behind.result c.tell_behind.ensures.ok c.tell_behind.ensures.left)
