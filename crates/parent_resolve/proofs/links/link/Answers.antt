use Rattle.std.proofs.Common.{Some, Result, List, map, sym, ap, subst, ◌∙◌}
use Rattle.std.specs.Arc.{arc_value}
use Rattle.common_laws.proofs.Lists.{slice_of_map}
use Rattle.ix_base.specs.declared.fault.Fault.{Fault}
use Rattle.index_model.specs.declared.shard.Shard.{Shard}
use Rattle.index_model.specs.Faults.{program_of}
use Rattle.index_model.specs.Gives.{GivesFor}
use Rattle.index_model.specs.Links.{Link}
use Rattle.index_model.specs.Shards.{AreShardsOf, IsLinked}
use Rattle.shard_build.specs.Entries.{EntriesOf}
use Rattle.parent_resolve.proofs.RunLinks.{of_run, run_at}
use Rattle.parent_resolve.proofs.links.link.Goals as goal

pub returns : goal.returns
returns c p file h =
    let s = c.deref.result.now in
    let shards = c.args.shards.now in
    let k = c.args.k in
    let is = slice_of_map arc_value shards k c.index-shards-k.result c.requires.within ∙ ap (λ (x : Shard). Some x) (sym (c.deref.ensures ∙ ap arc_value c.index-shards-k.is)) in
    let r = run_at p (map arc_value shards) h k s is in
    let same = c.in_ok-paths.ensures in
    let here = ap (λ (e : EntriesOf). program_of e.image.file) same ∙ file in
    let are = subst (AreShardsOf p) (sym (ap (λ (e : EntriesOf). e.shards) same)) h in
    subst (λ (m : Result (List Link) Fault). GivesFor (IsLinked p) c.linked.result m) (of_run p h.runs k r.run r.is) (c.linked.ensures p r.run here are r.of_program r.stands)

pub linked-requires-clause-run : goal.linked-requires-clause-run
linked-requires-clause-run c =
    let of = c.requires.of_file in
    let s = c.deref.result.now in
    let shards = c.args.shards.now in
    let k = c.args.k in
    let is = slice_of_map arc_value shards k c.index-shards-k.result c.requires.within ∙ ap (λ (x : Shard). Some x) (sym (c.deref.ensures ∙ ap arc_value c.index-shards-k.is)) in
    let r = run_at of.program (map arc_value shards) of.are k s is in
    record {
      program = of.program;
      file = ap (λ (e : EntriesOf). program_of e.image.file) c.in_ok-paths.ensures ∙ of.is;
      run = r.run;
      part = r.of_program;
      stands = r.stands;
    }
