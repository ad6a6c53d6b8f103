use Rattle.std.proofs.Common.{◌≡◌, ℕ, List, ◌++◌, Option, Some, option_map, sym, ap, subst, ◌∙◌}
use Rattle.index_model.specs.Chains.{chain_end}
use Rattle.index_model.specs.Faults.{program_of}
use Rattle.index_model.specs.Links.{name_in}
use Rattle.index_model.specs.Names.{Member, scope_path, scoped_name}
use Rattle.index_model.specs.Shards.{AreShardsOf}
use Rattle.index_model.proofs.Meanings.{same_ok}
use Rattle.shard_build.specs.Entries.{EntriesOf}
use Rattle.parent_resolve.proofs.Outwards.{ok_here}
use Rattle.qualified_names.specs.Paths.{IsFront}
use Rattle.qualified_names.proofs.LinkLaws.{if_ok, parts}
use Rattle.qualified_names.proofs.names.QualifiedNames.scoped.Goals as goal

pub returns-clause-value : goal.returns-clause-value
returns-clause-value c p file are k h =
    let inside = ap (λ (e : EntriesOf). program_of e.image.file) c.self.view_is ∙ file in
    let shards = subst (AreShardsOf p) (sym (ap (λ (e : EntriesOf). e.shards) c.self.view_is)) are in
    let end = c.in_ok-go_around.ensures.there p inside shards k h in
    let d = chain_end k.entry k.chain in
    let front = c.go_around.new.around.front.items in
    let g = ok_here (IsFront front) (scope_path p d) (c.in_ok-go_around.ensures.around p inside d end.there (sym end.is)) in
    let path : g.0 ≡ k.path = same_ok g.0 k.path (sym g.1 ∙ (parts p c.args.entry.now k h).path) in
    let name = c.args.entry.now.name.now in
    if_ok (λ v. v.items ≡ c.as_slice.result.now ++ name) (λ v. option_map (scoped_name k.path) (name_in k) ≡ Some v.items) c.behind.result
    (λ v is.
    ap (option_map (scoped_name k.path)) h.links.name ∙
    ap {B = Option (List ℕ)} (λ (xs : List ℕ). Some xs) (ap (λ (ms : List Member). scoped_name ms name) (sym path) ∙ g.2 name ∙ sym (is ∙ ap (λ (xs : List ℕ). xs ++ name) c.as_slice.ensures.value)))
    c.behind.ensures
