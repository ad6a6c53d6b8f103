use Rattle.std.proofs.Common.{List, sym, subst}
use Rattle.std.specs.Prelude.{IsOkAnd}
use Rattle.std.proofs.lemmas.Result.{err_from_is_err_and}
use Rattle.index_model.specs.declared.shard.LinkedEntry.{LinkedEntry}
use Rattle.index_model.specs.ShardParts.{kept_in}
use Rattle.parent_resolve.specs.Runs.{links_at, AreLinksOf}
use Rattle.parent_resolve.proofs.links.linked.Goals as goal

pub returns : goal.returns
returns c p run file are is_run stands = subst (λ (es : List LinkedEntry). IsOkAnd (links_at p (kept_in run)) (AreLinksOf p es)) (sym c.of.ensures) (c.in_ok-entries.ensures p run file are is_run stands)

pub returns-in_err-entries : goal.returns-in_err-entries
returns-in_err-entries c p run file are is_run stands =
    let q = err_from_is_err_and c.from_residual-in_err-entries.result c.from_residual-in_err-entries.ensures.1 in
    rw (q.1, q.2) (c.in_err-entries.ensures p run file are is_run stands)
