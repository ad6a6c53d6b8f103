use Rattle.std.proofs.Common.{◌≡◌, ◌<◌, List, [], ◌∷◌, Some, length, sym, ap, subst, ◌∙◌, arith}
use Rattle.std.specs.Option.{option_map}
use Rattle.std.specs.Prelude.{slice_get, IsOkAnd}
use Rattle.std.proofs.lemmas.Option.{get_or_from_slice_get}
use Rattle.std.proofs.lemmas.Result.{err_from_is_err_and}
use Rattle.index_model.specs.declared.shard.LinkedEntry.{LinkedEntry}
use Rattle.index_model.specs.declared.shard.Node.{Node}
use Rattle.index_model.specs.Faults.{program_of}
use Rattle.index_model.specs.NodeSeen.{NodeSeen, node_seen}
use Rattle.index_model.specs.Shards.{AreShardsOf}
use Rattle.index_model.specs.ShardParts.{kept_in, IsNodeOf, IsSeenOf}
use Rattle.shard_build.specs.Entries.{EntriesOf}
use Rattle.parent_resolve.specs.Paths.{IsPassedOver}
use Rattle.parent_resolve.proofs.DeclaredLaws.{passed_over, there_in}
use Rattle.parent_resolve.proofs.NodeLinks.{kept_there}
use Rattle.parent_resolve.proofs.RunLinks.{all_taken, paired, stops_here, take_whole, takes_more}
use Rattle.parent_resolve.specs.Runs.{links_at, AddsLinks}
use Rattle.parent_resolve.proofs.PlaceLaws.{past}
use Rattle.parent_resolve.proofs.links.links_of.Goals as goal
use Rattle.parent_resolve.proofs.links.links_of.Goals.{in-Some+in_ok-add_link, in_default}

pub returns-in_err-add_link : goal.returns-in_err-add_link
returns-in_err-add_link c p run file are is_run stands =
    let inv = c.loop-k.invariant in
    let s = c.args.shard.now in
    let k = c.loop-k.k in
    let node : Node = c.in-Some.node in
    let within : k < length s.nodes = omega (arith, c.loop-k-test.true, c.len-k-end.ensures) in
    let there : slice_get s.nodes k ≡ Some (node_seen node) = sym c.get.ensures ∙ ap (option_map node_seen) c.in-Some.is in
    let pair = paired (IsSeenOf p.sections) s.nodes (kept_in run) k (node_seen node) stands.nodes within in
    let own : IsNodeOf p.sections node pair.at = subst (λ (n : NodeSeen). IsSeenOf p.sections n pair.at) (get_or_from_slice_get s.nodes k (node_seen node) (node_seen node) there) pair.holds in
    let here = ap (λ (e : EntriesOf). program_of e.image.file) inv.paths ∙ file in
    let shards = subst (AreShardsOf p) (sym (ap (λ (e : EntriesOf). e.shards) inv.paths)) are in
    let stop = c.in_err-add_link.field-0.0 in
    let one = c.in_err-add_link.ensures.value p run here shards is_run stands pair.at pair.member own in
    let q = err_from_is_err_and c.from_residual-in_err-add_link.result c.from_residual-in_err-add_link.ensures.1 in
    rw (q.1, q.2) (stops_here p run k c.loop-k.entries.items (inv.taken p run file are is_run stands) pair.at pair.rest pair.whole stop one)

pub add_link-requires-clause-entry : goal.add_link-requires-clause-entry
add_link-requires-clause-entry c =
    let h = c.requires.run in
    let s = c.args.shard.now in
    let k = c.loop-k.k in
    let node : Node = c.in-Some.node in
    let within : k < length s.nodes = omega (arith, c.loop-k-test.true, c.len-k-end.ensures) in
    let there : slice_get s.nodes k ≡ Some (node_seen node) = sym c.get.ensures ∙ ap (option_map node_seen) c.in-Some.is in
    let pair = paired (IsSeenOf h.program.sections) s.nodes (kept_in h.run) k (node_seen node) h.stands.nodes within in
    record {
      program = h.program;
      file = ap (λ (e : EntriesOf). program_of e.image.file) c.loop-k.invariant.paths ∙ h.file;
      entry = pair.at;
      there = (kept_there h.program h.run h.part pair.at pair.member).2;
      is = subst (λ (n : NodeSeen). IsSeenOf h.program.sections n pair.at) (get_or_from_slice_get s.nodes k (node_seen node) (node_seen node) there) pair.holds;
    }

pub loop-k-preserved-then-passes : goal.loop-k-preserved-then-passes
loop-k-preserved-then-passes c =
    let inv = c.loop-k.invariant in
    let s = c.args.shard.now in
    let k = c.loop-k.k in
    let within : k < length s.nodes = omega (arith, c.loop-k-test.true, c.len-k-end.ensures) in
    let node = there_in (IsPassedOver c.loop-k.paths) s.nodes k within (c.passes.ensures c.if-passes.true) in
    record {
      paths = inv.paths;
      languages = inv.languages;
      taken = λ p run file are is_run stands.
          let pair = paired (IsSeenOf p.sections) s.nodes (kept_in run) k node.0 stands.nodes within in
          let own : IsSeenOf p.sections node.0 pair.at = subst (λ (n : NodeSeen). IsSeenOf p.sections n pair.at) (get_or_from_slice_get s.nodes k node.0 node.0 node.1) pair.holds in
          let here = ap (λ (e : EntriesOf). program_of e.image.file) inv.paths ∙ file in
          let nothing = passed_over c.loop-k.paths p pair.at node.0 here (kept_there p run is_run pair.at pair.member).2 own node.2 c.loop-k.entries.items in
          takes_more p run k c.loop-k.entries.items (inv.taken p run file are is_run stands) pair.at pair.next _ nothing _ (omega arith);
    }

pub loop-k-preserved : goal.loop-k-preserved
loop-k-preserved c =
    let inv = c.loop-k.invariant in
    let s = c.args.shard.now in
    let k = c.loop-k.k in
    let within : k < length s.nodes = omega (arith, c.loop-k-test.true, c.len-k-end.ensures) in
    elim c.match-get.branch [
      | in-Some+in_ok-add_link w ↦ record {
        paths = w.paths-is ∙ w.add_link.ensures.paths ∙ inv.paths;
        languages = w.languages-is ∙ w.add_link.ensures.languages ∙ inv.languages;
        taken = λ p run file are is_run stands.
            let node : Node = w.in-Some.node in
            let there : slice_get s.nodes k ≡ Some (node_seen node) = sym c.get.ensures ∙ ap (option_map node_seen) w.in-Some.is in
            let pair = paired (IsSeenOf p.sections) s.nodes (kept_in run) k (node_seen node) stands.nodes within in
            let own : IsNodeOf p.sections node pair.at = subst (λ (n : NodeSeen). IsSeenOf p.sections n pair.at) (get_or_from_slice_get s.nodes k (node_seen node) (node_seen node) there) pair.holds in
            let here = ap (λ (e : EntriesOf). program_of e.image.file) inv.paths ∙ file in
            let shards = subst (AreShardsOf p) (sym (ap (λ (e : EntriesOf). e.shards) inv.paths)) are in
            let one = w.in_ok-add_link.ensures.value p run here shards is_run stands pair.at pair.member own in
            takes_more p run k c.loop-k.entries.items (inv.taken p run file are is_run stands) pair.at pair.next _ (subst (λ (es : List LinkedEntry). IsOkAnd (links_at p (pair.at ∷ [])) (AddsLinks p c.loop-k.entries.items es)) (ap (λ v. v.items) (sym w.entries-is)) one) _ (omega arith);
      }
      | in_default w ↦ absurd (let end = past s.nodes k (sym c.get.ensures ∙ ap (option_map node_seen) w.in_default.is) in omega (arith, end, within))
    ]

pub returns : goal.returns
returns c p run file are is_run stands =
    let s = c.args.shard.now in
    let whole = take_whole (IsSeenOf p.sections) s.nodes (kept_in run) c.loop-k.k stands.nodes (omega (arith, c.loop-k-test.false, c.len-k-end.ensures)) in
    all_taken p run c.loop-k.k c.loop-k.entries.items (c.loop-k.invariant.taken p run file are is_run stands) whole
