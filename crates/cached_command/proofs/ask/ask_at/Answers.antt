use Rattle.std.proofs.Common.{◌≡◌, ℕ, ◌≤◌, List, ◌++◌, length, Some, Err, refl, sym, ap, subst, ◌∙◌, arith}
use Rattle.ix_base.specs.declared.limits.TheConstants.{MAX_FILE_BYTES}
use Rattle.ix_base.specs.declared.or_memory.OrMemory.TheVariants.{Cause}
use Rattle.query_text.specs.Questions.{question_seen}
use Rattle.reach_model.specs.KeptIndexes.{kept_index}
use Rattle.reach_model.specs.KeptTexts.{text_of_hit}
use Rattle.command_base.specs.FilesRead.{Holds, HoldsMore}
use Rattle.command_base.specs.Replies.{Wrote}
use Rattle.command_base.specs.declared.file.Unread.TheVariants.{TooBig}
use Rattle.command_base.specs.declared.status.Status.{Status}
use Rattle.cached_command.specs.Askings.{SaysHit}
use Rattle.cached_command.specs.Caches.{refused, too_large}
use Rattle.cached_command.specs.Places.{place_seen}
use Rattle.cached_command.proofs.TellingLaws.{told}
use Rattle.cached_command.proofs.ask.ask_at.Goals as goal

pub returns-in-Ok-open-clause-wrote : goal.returns-in-Ok-open-clause-wrote
returns-in-Ok-open-clause-wrote g c =
    let small : length c.in-Ok.bytes.items ≤ MAX_FILE_BYTES = omega (arith, c.in-Ok.ensures.bounded) in
    let files = g.F.Shelf.files c.args.shelf.now in
    let spot = place_seen c.args.place.now in
    let q = question_seen c.args.question.now in
    let says = SaysHit files (Some spot) q in
    let old = g.K.Sink.written c.args.out.now in
    let new = g.K.Sink.written c.tell.new.out in
    subst (λ (s : Status). Wrote says s old new) (sym c.ended.ensures)
    (told c.in-Ok-open.index q says (λ answer. text_of_hit ++ answer) (λ answer is. record {
      kept = c.in-Ok.bytes.items;
      held = subst (λ (n : List ℕ). Holds files n c.in-Ok.bytes.items) c.as_str.ensures.value c.in-Ok.ensures.whole;
      small = small;
      index = c.in-Ok-open.index;
      accepted = ap (λ (kept : List ℕ). kept_index kept spot.id) (sym c.deref.ensures.value) ∙ c.in-Ok-open.ensures;
      answer = answer;
      answers = is;
      text_is = refl;
    }) old new c.tell.result c.tell.ensures.ok c.tell.ensures.left)

pub returns-in-Ok-clause-missed : goal.returns-in-Ok-clause-missed
returns-in-Ok-clause-missed g c =
    let small : length c.in-Ok.bytes.items ≤ MAX_FILE_BYTES = omega (arith, c.in-Ok.ensures.bounded) in
    refused c.in-Ok.bytes.items c.in-Err.fault (subst (λ (n : List ℕ). Holds (g.F.Shelf.files c.args.shelf.now) n c.in-Ok.bytes.items) c.as_str.ensures.value c.in-Ok.ensures.whole) small (ap (λ (kept : List ℕ). kept_index kept c.args.place.now.id.now) (sym c.deref.ensures.value) ∙ c.in-Err.ensures)

pub returns-in-Err-Cause-TooBig-clause-missed : goal.returns-in-Err-Cause-TooBig-clause-missed
returns-in-Err-Cause-TooBig-clause-missed g c =
    let cause : c.in-Err-Cause-TooBig.field-0 ≡ Cause c.in-Err-Cause-TooBig.field-0-0 = c.in-Err-Cause-TooBig.field-0-is in
    let why : c.in-Err-Cause-TooBig.field-0-0 ≡ TooBig = rw cause at c.in-Err-Cause-TooBig.field-0-0-is in
    let told : c.read_kept.result ≡ Err (Cause TooBig) = c.in-Err-Cause-TooBig.is ∙ ap Err (cause ∙ ap Cause why) in
    too_large (subst (λ (n : List ℕ). HoldsMore (g.F.Shelf.files c.args.shelf.now) n MAX_FILE_BYTES) c.as_str.ensures.value (c.read_kept.ensures.too_big told))
