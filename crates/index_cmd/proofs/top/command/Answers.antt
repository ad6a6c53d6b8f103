use Rattle.std.proofs.Common.{◌≡◌, Option, Some, sym, subst, ◌∙◌}
use Rattle.command_words.specs.SeenWords.{seen_command, words_of}
use Rattle.index_cmd.specs.Doings.{Did}
use Rattle.index_cmd.specs.Requests.{Request, request_of}
use Rattle.index_cmd.specs.Runs.{ran}
use Rattle.index_cmd.specs.Tasks.{request_seen}
use Rattle.index_cmd.proofs.Outcomes.{request_is}
use Rattle.index_cmd.proofs.top.command.Goals as goal

pub returns-in-Some-task_for-clause-did : goal.returns-in-Some-task_for-clause-did
returns-in-Some-task_for-clause-did g c =
    let done = c.perform in
    let words = words_of c.args.words.now in
    let command = seen_command c.in-Some.command in
    let request : request_of words ≡ Some (request_seen c.in-Some-task_for.task) = request_is words command c.in-Some.ensures.value ∙ sym c.in-Some-task_for.ensures.request in
    subst (λ (r : Option Request). Did (ran g.F.Shelf g.S.Source g.K.Sink r c.args.shelf.now done.new.shelf c.args.input.now done.new.input c.args.out.now done.new.out) done.result) (sym request) done.ensures.did
