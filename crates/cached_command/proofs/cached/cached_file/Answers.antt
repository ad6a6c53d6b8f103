use Rattle.std.proofs.Common.{ℕ, List, subst}
use Rattle.query_text.specs.Questions.{question_seen}
use Rattle.outside.specs.Counts.{Rose}
use Rattle.command_base.specs.Replies.{Wrote}
use Rattle.cached_command.specs.Buildings.{CausesTied}
use Rattle.cached_command.specs.Cached.{SaysTied}
use Rattle.cached_command.proofs.TiedLaws.{leaves, wrote_cached}
use Rattle.cached_command.proofs.cached.cached_file.Goals as goal

pub returns-in-Ok-clause-wrote : goal.returns-in-Ok-clause-wrote
returns-in-Ok-clause-wrote g c =
    let store = c.args.store.now in
    let q = question_seen c.args.question.now in
    let before = g.F.Shelf.files c.args.shelf.now in
    let after = g.F.Shelf.files c.answer-status.new.shelf in
    let kept_reads = Rose (g.F.Shelf.kept_faults c.args.shelf.now) (g.F.Shelf.kept_faults c.answer-status.new.shelf) in
    let stores = Rose (g.F.Shelf.store_faults c.args.shelf.now) (g.F.Shelf.store_faults c.answer-status.new.shelf) in
    let old = g.K.Sink.written c.args.out.now in
    let new = g.K.Sink.written c.answer-status.new.out in
    let w = subst (λ (file : List ℕ). Wrote (SaysTied before after file store q kept_reads stores) c.answer-status.result old new) c.in-Ok.ensures.file c.answer-status.ensures.wrote in
    wrote_cached before after c.args.file.now store q kept_reads stores c.answer-status.result old new w

pub returns-in-Ok-clause-leaves : goal.returns-in-Ok-clause-leaves
returns-in-Ok-clause-leaves g c =
    let store = c.args.store.now in
    let q = question_seen c.args.question.now in
    let before = g.F.Shelf.files c.args.shelf.now in
    let after = g.F.Shelf.files c.answer-status.new.shelf in
    let kept_reads = Rose (g.F.Shelf.kept_faults c.args.shelf.now) (g.F.Shelf.kept_faults c.answer-status.new.shelf) in
    let stores = Rose (g.F.Shelf.store_faults c.args.shelf.now) (g.F.Shelf.store_faults c.answer-status.new.shelf) in
    let writes = Rose (g.K.Sink.write_faults c.args.out.now) (g.K.Sink.write_faults c.answer-status.new.out) in
    let old = g.K.Sink.written c.args.out.now in
    let new = g.K.Sink.written c.answer-status.new.out in
    let w = subst (λ (file : List ℕ). Wrote (SaysTied before after file store q kept_reads stores) c.answer-status.result old new) c.in-Ok.ensures.file c.answer-status.ensures.wrote in
    let causes = subst (λ (file : List ℕ). CausesTied before after file store kept_reads writes c.answer-status.result) c.in-Ok.ensures.file c.answer-status.ensures.causes in
    leaves before after c.args.file.now store q kept_reads stores writes c.answer-status.result old new w causes
