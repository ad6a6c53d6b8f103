use Rattle.std.proofs.Common.{refl, sym, ap, subst, ◌∙◌, arith}
use Rattle.index_model.specs.Faults.{program_of}
use Rattle.index_model.specs.Links.{indexed_in}
use Rattle.index_model.specs.Shards.{AreShardsOf}
use Rattle.shard_build.specs.Entries.{EntriesOf}
use Rattle.qualified_names.proofs.Mains.{drop_all}
use Rattle.qualified_names.proofs.RunLaws.{Written, all_written, entries_are, next_head, next_written, none_written}
use Rattle.qualified_names.proofs.run.entries_of.Goals as goal

pub loop-entry-init : goal.loop-entry-init
loop-entry-init c = record {
  names = refl;
  written = λ p file own ks zip. none_written p (indexed_in ks) c.args.linked.now zip c.in_ok-entries.entries.items c.in_ok-entries.ensures.items;
}

pub push_entries-requires : goal.push_entries-requires
push_entries-requires c =
    let r = c.requires in
    let inv = c.loop-entry.invariant in
    let head = next_head r.program (indexed_in r.links) c.loop-entry.entries.items c.args.linked.now c.loop-entry.entry-index _ c.loop-entry-test.true (inv.written r.program r.file r.shards r.links r.are) in
    record {
      program = r.program;
      file = ap (λ (e : EntriesOf). program_of e.image.file) inv.names ∙ r.file;
      shards = subst (AreShardsOf r.program) (sym (ap (λ (e : EntriesOf). e.shards) inv.names)) r.shards;
      link = head.0;
      is = head.1;
    }

pub loop-entry-preserved : goal.loop-entry-preserved
loop-entry-preserved c =
    let inv = c.loop-entry.invariant in
    record {
      names = c.in_ok-push_entries.ensures.kept ∙ inv.names;
      written = λ p file own ks zip.
          let here = ap (λ (e : EntriesOf). program_of e.image.file) inv.names ∙ file in
          let shards = subst (AreShardsOf p) (sym (ap (λ (e : EntriesOf). e.shards) inv.names)) own in
          next_written p (indexed_in ks) c.loop-entry.entries.items c.args.linked.now c.loop-entry.entry-index _ c.loop-entry-test.true (inv.written p file own ks zip) c.push_entries.new.entries.items (λ k one. c.in_ok-push_entries.ensures.value p here shards k one);
    }

pub returns : goal.returns
returns c p file own ks zip =
    let over = drop_all c.args.linked.now c.loop-entry.entry-index (omega (arith, c.loop-entry-test.false)) in
    let left = subst (Written p (indexed_in ks) c.loop-entry.entries.items) over (c.loop-entry.invariant.written p file own ks zip) in
    entries_are p ks _ (c.of.ensures ∙ all_written p (indexed_in ks) c.loop-entry.entries.items left)
