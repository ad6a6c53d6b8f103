use Rattle.std.proofs.Common.{Result, ℕ, ap, sym, ◌∙◌}
use Rattle.ix_base.specs.Reading.{Input}
use Rattle.index_model.specs.Meaning.{at_place}
use Rattle.index_model.specs.Walk.{Token, Levels, token_or_fault, with_token}
use Rattle.index_model.specs.WalkLeft.{left}
use Rattle.entry_scan.specs.Tokens.{token_seen, levels_seen, joint}
use Rattle.entry_scan.proofs.EntryLaws.{advances}
use Rattle.entry_scan.proofs.LeftLaws.{left_token, left_fault}
use Rattle.entry_scan.proofs.OrderAhead.{left_behind}
use Rattle.entry_scan.proofs.tree.Tree.step.Goals as goal

pub returns-in-Err-clause-value : goal.returns-in-Err-clause-value
returns-in-Err-clause-value c =
    let u = c.args.self.now.frame.unit in
    let table = c.args.self.now.frame.abbrevs.now in
    let here = joint u.start c.args.self.now.cursor in
    let stop = ap (λ (r : Result (Token × Input) ℕ). at_place here.at r) c.in-Err.ensures.value in
    rw c.offset-at.ensures (left_fault (token_or_fault u table) (advances u table) (levels_seen c.args.self.now.levels) here _ c.requires.goes_on stop)

pub returns-in-Ok-clause-value : goal.returns-in-Ok-clause-value
returns-in-Ok-clause-value c =
    let u = c.args.self.now.frame.unit in
    let table = c.args.self.now.frame.abbrevs.now in
    let here = joint u.start c.args.self.now.cursor in
    let next = joint u.start c.token.new.cursor in
    let read = ap (λ (r : Result (Token × Input) ℕ). at_place here.at r) c.in-Ok.ensures.value in
    let token = left_token (token_or_fault u table) (advances u table) (levels_seen c.args.self.now.levels) here (token_seen c.in-Ok.token, next) c.requires.goes_on read in
    token ∙ ap (λ (l : Levels). with_token (token_seen c.in-Ok.token) (left (token_or_fault u table) l next)) (sym c.behind-self.ensures)

pub returns-in-Ok-clause-order : goal.returns-in-Ok-clause-order
returns-in-Ok-clause-order c =
    let u = c.args.self.now.frame.unit in
    let table = c.args.self.now.frame.abbrevs.now in
    let here = joint u.start c.args.self.now.cursor in
    let next = joint u.start c.token.new.cursor in
    let read = ap (λ (r : Result (Token × Input) ℕ). at_place here.at r) c.in-Ok.ensures.value in
    left_behind u table (levels_seen c.args.self.now.levels) (levels_seen c.behind-self.result) here (token_seen c.in-Ok.token, next) read
