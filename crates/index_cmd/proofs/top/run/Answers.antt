use Rattle.std.proofs.Common.{ℕ}
use Rattle.outside.specs.Counts.{Rose}
use Rattle.outside.proofs.CountLaws.{rose-then, then-rose}
use Rattle.command_words.specs.SeenWords.{words_of}
use Rattle.index_cmd.specs.Requests.{request_of}
use Rattle.index_cmd.specs.Runs.{Run, ran}
use Rattle.index_cmd.specs.Stores.{LeavesAtEnd}
use Rattle.index_cmd.proofs.Completeness.{complete}
use Rattle.index_cmd.proofs.Inputs.{input_at_end}
use Rattle.index_cmd.proofs.KeptUses.{at_end}
use Rattle.index_cmd.proofs.Leavings.{left_at_end, kept}
use Rattle.index_cmd.proofs.Outcomes.{Came, causes, has_written, outcome, outside_grammar}
use Rattle.index_cmd.proofs.top.run.Given.{Over}
use Rattle.index_cmd.proofs.top.run.Goals.{After-code}
use Rattle.index_cmd.proofs.top.run.Goals as goal

module _ (g : Over) (c : After-code g) where
  abbrev run : Run
  run = ran g.F.Shelf g.S.Source g.K.Sink (request_of (words_of c.args.words.now)) c.args.shelf.now c.command-status.new.shelf c.args.input.now c.command-status.new.input c.args.out.now c.end.new.out

  abbrev first : ℕ
  first = g.K.Sink.write_faults c.args.out.now

  abbrev middle : ℕ
  middle = g.K.Sink.write_faults c.command-status.new.out

  abbrev last : ℕ
  last = g.K.Sink.write_faults c.end.new.out

  came : Came run c.end.result
  came = outcome run.request run.files_before run.heard run.read_failed run.store_failed (Rose first middle) (Rose middle last) run.write_failed
      (λ r. rose-then first middle last r c.end.ensures.counts) (λ r. then-rose first middle last c.command-status.ensures.counts r)
      c.command-status.result c.end.result run.written_before (g.K.Sink.written c.command-status.new.out) run.written_after c.command-status.ensures.did.does.wrote c.command-status.ensures.did.does.causes c.end.ensures.ends

  left : LeavesAtEnd run.request run.files_before run.files_after run.store_failed c.end.result
  left = left_at_end run.request run.files_before run.files_after run.store_failed run.files_before run.read_failed (Rose first middle) c.command-status.result c.end.result (g.K.Sink.written c.command-status.new.out) run.written_after (Rose middle last) c.end.ensures.ends c.command-status.ensures.did.does.causes c.command-status.ensures.did.does.leaves

pub returns : goal.returns
returns g c =
    let r = run g c in
    let did = c.command-status.ensures.did in (
      c.end.result,
      c.code.ensures,
      record {
        wrote = has_written r c.end.result (came g c);
        causes = causes r c.end.result (came g c);
        complete = complete r.request r.files_before r.files_after r.heard r.read_failed r.store_failed r.write_failed r.written_before r.written_after c.end.result (came g c) (left g c);
        outside_grammar = outside_grammar r.request r.files_before r.heard r.read_failed r.store_failed r.write_failed r.written_before r.written_after c.end.result (came g c);
        stored = left g c;
        kept = λ nothing. kept r.request r.files_before r.files_after nothing r.store_failed c.end.result (left g c);
        cached = at_end r.files_before r.files_after r.heard r.kept_failed r.store_failed r.written_before _ r.written_after _ r.request c.command-status.result c.end.result c.end.ensures.ends did.uses did.does.wrote did.does.leaves;
        input = input_at_end r.request r.input_untouched c.command-status.result c.end.result _ _ _ c.end.ensures.ends did.input;
      },
    )
