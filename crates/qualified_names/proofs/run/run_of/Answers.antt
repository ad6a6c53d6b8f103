use Rattle.std.proofs.Common.{◌<◌, List, length, Option, Some, map, sym, ap, subst, ◌∙◌, arith}
use Rattle.std.proofs.lemmas.List.{length-map}
use Rattle.std.specs.Arc.{arc_value}
use Rattle.std.specs.List.{AllZip}
use Rattle.common_laws.proofs.Lists.{slice_of_map}
use Rattle.index_model.specs.declared.shard.Linked.{Linked}
use Rattle.index_model.specs.declared.shard.LinkedEntry.{LinkedEntry}
use Rattle.index_model.specs.Faults.{program_of}
use Rattle.index_model.specs.Links.{indexed_in}
use Rattle.index_model.specs.Shards.{AreShardsOf}
use Rattle.shard_build.specs.Entries.{EntriesOf}
use Rattle.qualified_names.specs.Indexed.{IsIndexed}
use Rattle.qualified_names.proofs.RunLaws.{as_many, run_links, run_zip}
use Rattle.qualified_names.proofs.run.run_of.Goals as goal

pub bounds-linked-k : goal.bounds-linked-k
bounds-linked-k c =
    omega (arith, c.requires.within, as_many c.args.image.now (map arc_value c.args.shards.now) (map arc_value c.args.linked.now) c.requires.of_file, length-map c.args.shards.now arc_value, length-map c.args.linked.now arc_value)

pub entries_of-requires : goal.entries_of-requires
entries_of-requires c =
    let S = map arc_value c.args.shards.now in
    let L = map arc_value c.args.linked.now in
    let k = c.args.k in
    let l = c.deref.result.now in
    let many = as_many c.args.image.now S L c.requires.of_file in
    let within : k < length S = omega (arith, c.requires.within, length-map c.args.shards.now arc_value) in
    let li = slice_of_map arc_value c.args.linked.now k c.index-linked-k.result (omega (arith, c.requires.within, many, length-map c.args.shards.now arc_value, length-map c.args.linked.now arc_value)) ∙ ap {B = Option Linked} (λ (x : Linked). Some x) (sym (c.deref.ensures ∙ ap arc_value c.index-linked-k.is)) in
    let r = c.requires.of_file in
    let same = c.in_ok-names.ensures in
    let e = run_links c.args.image.now S L k l within li r.program r.is r.are r.links in
    record {
      program = r.program;
      file = ap (λ (e : EntriesOf). program_of e.image.file) same ∙ r.is;
      shards = subst (AreShardsOf r.program) (sym (ap (λ (e : EntriesOf). e.shards) same)) r.are;
      links = e.0;
      are = subst (λ (es : List LinkedEntry). AllZip (IsIndexed r.program) es (indexed_in e.0)) (sym c.as_slice-entries.ensures) (run_zip c.args.image.now S L k l within li r.program r.is r.are r.links e.0 e.1);
    }

pub returns : goal.returns
returns c p file h own ks is =
    let S = map arc_value c.args.shards.now in
    let L = map arc_value c.args.linked.now in
    let k = c.args.k in
    let l = c.deref.result.now in
    let many = as_many c.args.image.now S L c.requires.of_file in
    let within : k < length S = omega (arith, c.requires.within, length-map c.args.shards.now arc_value) in
    let li = slice_of_map arc_value c.args.linked.now k c.index-linked-k.result (omega (arith, c.requires.within, many, length-map c.args.shards.now arc_value, length-map c.args.linked.now arc_value)) ∙ ap {B = Option Linked} (λ (x : Linked). Some x) (sym (c.deref.ensures ∙ ap arc_value c.index-linked-k.is)) in
    let same = c.in_ok-names.ensures in
    let here = ap (λ (e : EntriesOf). program_of e.image.file) same ∙ file in
    let shards = subst (AreShardsOf p) (sym (ap (λ (e : EntriesOf). e.shards) same)) h in
    c.entries_of.ensures p here shards ks (subst (λ (es : List LinkedEntry). AllZip (IsIndexed p) es (indexed_in ks)) (sym c.as_slice-entries.ensures) (run_zip c.args.image.now S L k l within li p file h own ks is))
