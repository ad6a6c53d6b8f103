use Rattle.std.proofs.Common.{IsOkAnd, Result, ℕ, sym, ap, subst, ◌∙◌}
use Rattle.std.proofs.lemmas.Result.{err_from_is_err_and}
use Rattle.index_model.specs.Chains.{chain_end}
use Rattle.index_model.specs.Faults.{program_of}
use Rattle.index_model.specs.Gives.{StopsAs}
use Rattle.index_model.specs.Links.{Link, link_of}
use Rattle.index_model.specs.Meaning.{at_place}
use Rattle.index_model.specs.Names.{scope_path}
use Rattle.shard_build.specs.Entries.{EntriesOf}
use Rattle.parent_resolve.specs.Followed.{followed_of}
use Rattle.parent_resolve.specs.Traced.{IsTraced}
use Rattle.parent_resolve.specs.EntryLinks.{IsEntryOf}
use Rattle.parent_resolve.specs.Scopes.{IsScope}
use Rattle.parent_resolve.proofs.LinkParts.{follow_wrong, link_is, path_wrong}
use Rattle.parent_resolve.proofs.NodeLaws.{node_parts}
use Rattle.parent_resolve.proofs.Outwards.{ok_and, stops_as}
use Rattle.parent_resolve.proofs.entry.link_entry.Goals as goal

pub returns-in_err-traced-clause-value : goal.returns-in_err-traced-clause-value
returns-in_err-traced-clause-value c p file d dc node class =
    let stop = c.in_err-traced.field-0.0 in
    let here = subst (λ (at : ℕ). StopsAs stop (at_place at (followed_of p d))) (node_parts p.sections c.args.node.now d node).0 (c.in_err-traced.ensures.value p file d dc node) in
    let q = err_from_is_err_and c.from_residual.result c.from_residual.ensures.1 in
    rw (q.1, q.2) (stops_as stop d.item.at (followed_of p d) (link_of p d) here (follow_wrong p d))

pub returns-in_err-scope-clause-value : goal.returns-in_err-scope-clause-value
returns-in_err-scope-clause-value c p file d dc node class =
    let n = ok_and (IsTraced p d c.in_ok-traced.traced) c.args.node.now.offset (followed_of p d) (c.in_ok-traced.ensures.value p file d dc node) in
    let later = ap (λ (e : EntriesOf). program_of e.image.file) c.in_ok-traced.ensures.kept ∙ file in
    let stop = c.in_err-scope.field-0.0 in
    let path = scope_path p (chain_end d n.0.chain) in
    let here = subst (λ (at : ℕ). StopsAs stop (at_place at path)) (node_parts p.sections c.args.node.now d node).0 (c.in_err-scope.ensures.value p later (chain_end d n.0.chain) n.2.there (sym n.2.around)) in
    let q = err_from_is_err_and c.from_residual-in_err-scope.result c.from_residual-in_err-scope.ensures.1 in
    rw (q.1, q.2) (stops_as stop d.item.at path (link_of p d) here (path_wrong p d n.0 n.1))

pub returns-in_err-entry-clause-value : goal.returns-in_err-entry-clause-value
returns-in_err-entry-clause-value c p file d dc node class =
    let n = ok_and (IsTraced p d c.in_ok-traced.traced) c.args.node.now.offset (followed_of p d) (c.in_ok-traced.ensures.value p file d dc node) in
    let later = ap (λ (e : EntriesOf). program_of e.image.file) c.in_ok-traced.ensures.kept ∙ file in
    let path = ok_and (IsScope c.in_ok-scope.scope) c.args.node.now.offset (scope_path p (chain_end d n.0.chain)) (c.in_ok-scope.ensures.value p later (chain_end d n.0.chain) n.2.there (sym n.2.around)) in
    let q = err_from_is_err_and c.from_residual-in_err-entry.result c.from_residual-in_err-entry.ensures.1 in
    rw (q.1, q.2) (ap (λ (r : Result Link ℕ). at_place d.item.at r) (link_is p d n.0 n.1 path.0 path.1) ∙ c.in_err-entry.ensures p d n.0 node class n.2 path.0 path.2)

pub returns-clause-value : goal.returns-clause-value
returns-clause-value c p file d dc node class =
    let n = ok_and (IsTraced p d c.in_ok-traced.traced) c.args.node.now.offset (followed_of p d) (c.in_ok-traced.ensures.value p file d dc node) in
    let later = ap (λ (e : EntriesOf). program_of e.image.file) c.in_ok-traced.ensures.kept ∙ file in
    let path = ok_and (IsScope c.in_ok-scope.scope) c.args.node.now.offset (scope_path p (chain_end d n.0.chain)) (c.in_ok-scope.ensures.value p later (chain_end d n.0.chain) n.2.there (sym n.2.around)) in
    subst (λ (r : Result Link ℕ). IsOkAnd (at_place d.item.at r) (IsEntryOf p c.in_ok-entry.entry)) (sym (link_is p d n.0 n.1 path.0 path.1)) (c.in_ok-entry.ensures p d n.0 node class n.2 path.0 path.2)
