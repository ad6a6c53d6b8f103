use Rattle.std.proofs.Common.{Option, unwrap_or, sym, ap, subst, ◌∙◌}
use Rattle.index_model.specs.declared.entry.Kind.{Kind}
use Rattle.index_model.specs.declared.entry.Kind.TheVariants.{Other}
use Rattle.index_model.specs.Faults.{program_of}
use Rattle.index_model.specs.Rules.{kind_of}
use Rattle.index_model.specs.Shards.{AreShardsOf}
use Rattle.shard_build.specs.Entries.{EntriesOf}
use Rattle.qualified_names.proofs.EntryParts.{entry_is}
use Rattle.qualified_names.proofs.Mains.{class_here}
use Rattle.qualified_names.proofs.entry.entry_of.Goals as goal

pub tail_of-requires : goal.tail_of-requires
tail_of-requires c =
    let r = c.requires in
    record {
      program = r.program;
      link = r.link;
      is = r.is;
      class_is = c.class-class.ensures ∙ class_here c.args.names.now.image.file r.program r.file c.args.names.now.shards r.shards c.args.linked.now r.link r.is c.language.result c.language.ensures.value;
    }

pub returns-clause-value : goal.returns-clause-value
returns-clause-value c p file are k h =
    let x = c.args.linked.now in
    let class_is = c.class-class.ensures ∙ class_here c.args.names.now.image.file p file c.args.names.now.shards are x k h c.language.result c.language.ensures.value in
    let later = ap (λ (e : EntriesOf). program_of e.image.file) c.language.ensures.kept ∙ file in
    let shards = subst (AreShardsOf p) (sym (ap (λ (e : EntriesOf). e.shards) c.language.ensures.kept)) are in
    entry_is p x k h
    c.unwrap_or.result (c.unwrap_or.ensures ∙ ap (λ (o : Option Kind). unwrap_or o Other) (c.kind.ensures ∙ ap kind_of c.from.ensures))
    c.in_ok-name.name (c.in_ok-name.ensures.value p later shards k h class_is)
    c.tail_of.result (c.tail_of.ensures p k h class_is)
