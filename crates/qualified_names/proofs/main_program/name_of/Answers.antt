use Rattle.std.proofs.Common.{sym, ap, subst, ◌∙◌}
use Rattle.index_model.specs.Faults.{program_of}
use Rattle.index_model.specs.Shards.{AreShardsOf}
use Rattle.shard_build.specs.Entries.{EntriesOf}
use Rattle.qualified_names.proofs.main_program.name_of.Goals as goal

pub new-requires : goal.new-requires
new-requires c = record { program = c.requires.program; is = c.requires.file; are = c.requires.shards }

pub qualified-requires : goal.qualified-requires
qualified-requires c =
    let r = c.requires in
    let same = c.in_ok-names.ensures in
    record {
      program = r.program;
      file = ap (λ (e : EntriesOf). program_of e.image.file) same ∙ r.file;
      shards = subst (AreShardsOf r.program) (sym (ap (λ (e : EntriesOf). e.shards) same)) r.shards;
      link = r.link;
      is = r.is;
    }

pub returns : goal.returns
returns c p file are k h =
    let same = c.in_ok-names.ensures in
    let here = ap (λ (e : EntriesOf). program_of e.image.file) same ∙ file in
    let shards = subst (AreShardsOf p) (sym (ap (λ (e : EntriesOf). e.shards) same)) are in
    c.qualified.ensures.value p here shards k h
