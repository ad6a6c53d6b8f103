use Rattle.std.proofs.Common.{refl}
use Rattle.std.proofs.lemmas.Result.{err_from_is_err_and}
use Rattle.parent_resolve.proofs.RunLinks.{adds_given, grown_none, grown_some}
use Rattle.parent_resolve.proofs.links.add_link.Goals as goal

pub returns-in_ok-push-clause-value : goal.returns-in_ok-push-clause-value
returns-in_ok-push-clause-value c p run file are is_run stands d member node =
    let old = c.args.entries.now.items in
    let new = c.push.new.self.items in
    let longer = grown_some old c.in_ok-entry.field-0 c.in-Some.entry new c.in-Some.is c.in_ok-push.ensures.items in
    adds_given p c.in_ok-entry.field-0 old new _ longer (c.in_ok-entry.ensures.value c.requires.shards p run file are is_run stands d member node)

pub returns-in_default-clause-value : goal.returns-in_default-clause-value
returns-in_default-clause-value c p run file are is_run stands d member node =
    let old = c.args.entries.now.items in
    let same = grown_none old c.in_ok-entry.field-0 old c.in_default.is refl in
    adds_given p c.in_ok-entry.field-0 old old _ same (c.in_ok-entry.ensures.value c.requires.shards p run file are is_run stands d member node)

pub returns-in_err-entry-clause-value : goal.returns-in_err-entry-clause-value
returns-in_err-entry-clause-value c p run file are is_run stands d member node =
    let q = err_from_is_err_and c.from_residual.result c.from_residual.ensures.1 in
    rw (q.1, q.2) (c.in_err-entry.ensures.value c.requires.shards p run file are is_run stands d member node)
