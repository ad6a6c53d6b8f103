use Rattle.std.proofs.Common.{◌≡◌, Some, option_map, sym, ap, subst, ◌∙◌}
use Rattle.index_model.specs.Cache.{GdbBytes, NameBytes}
use Rattle.query_text.specs.Questions.{question_seen}
use Rattle.outside.specs.Counts.{Rose}
use Rattle.stage_core.specs.Outputs.{cache_seen}
use Rattle.stage_core.specs.declared.output.Cache.{Cache}
use Rattle.cached_command.specs.Buildings.{IsRead}
use Rattle.cached_command.specs.Caches.{IsIndexOf}
use Rattle.cached_command.specs.Places.{place_seen}
use Rattle.cached_command.proofs.BuildingLaws.{bytes_of, index_of, never_names, read_of, saved_wrote}
use Rattle.cached_command.proofs.cached.publish.Goals as goal

pub save_and_answer-requires-clause-read : goal.save_and_answer-requires-clause-read
save_and_answer-requires-clause-read g c =
    let r = c.args.reader.now in
    let bytes = c.in-Some-Gdb.bytes in
    let kept : r.kept.cache ≡ Some (GdbBytes bytes) = sym c.cache.ensures.value ∙ ap (option_map (λ a. cache_seen a.now)) c.in-Some-Gdb.is ∙ ap (λ (x : Cache). Some (cache_seen x)) c.in-Some-Gdb.field-0-is in
    subst IsRead (sym c.as_slice.ensures) (read_of r.board.subject.file bytes (index_of r c.requires.kind c.parts.ensures.right (GdbBytes bytes) kept))

pub unreachable-requires : goal.unreachable-requires
unreachable-requires g c =
    let r = c.args.reader.now in
    let cache = NameBytes c.in-Some-Names.field-0-0 c.in-Some-Names.field-0-1 in
    let kept : r.kept.cache ≡ Some cache = sym c.cache.ensures.value ∙ ap (option_map (λ a. cache_seen a.now)) c.in-Some-Names.is ∙ ap (λ (x : Cache). Some (cache_seen x)) c.in-Some-Names.field-0-is in
    never_names r.board.subject.file c.in-Some-Names.field-0-0 c.in-Some-Names.field-0-1 (index_of r c.requires.kind c.parts.ensures.right cache kept)

pub returns-in-Some-Gdb-clause-wrote : goal.returns-in-Some-Gdb-clause-wrote
returns-in-Some-Gdb-clause-wrote g c =
    let r = c.args.reader.now in
    let bytes = c.in-Some-Gdb.bytes in
    let kept : r.kept.cache ≡ Some (GdbBytes bytes) = sym c.cache.ensures.value ∙ ap (option_map (λ a. cache_seen a.now)) c.in-Some-Gdb.is ∙ ap (λ (x : Cache). Some (cache_seen x)) c.in-Some-Gdb.field-0-is in
    let index = subst (IsIndexOf r.board.subject.file) (sym c.as_slice.ensures) (bytes_of r.board.subject.file bytes (index_of r c.requires.kind c.parts.ensures.right (GdbBytes bytes) kept)) in
    saved_wrote r.board.subject.file (g.F.Shelf.files c.args.shelf.now) (g.F.Shelf.files c.save_and_answer.new.shelf) (Rose (g.F.Shelf.store_faults c.args.shelf.now) (g.F.Shelf.store_faults c.save_and_answer.new.shelf)) (option_map (λ p. place_seen p.now) c.args.miss.place) c.args.miss.stale (question_seen c.args.question.now) c.as_slice.result.now index c.save_and_answer.result (g.K.Sink.written c.args.out.now) (g.K.Sink.written c.save_and_answer.new.out) c.save_and_answer.ensures.wrote
