use Rattle.std.proofs.Common.{map, sym, subst, ◌∙◌}
use Rattle.std.specs.Arc.{arc_value}
use Rattle.index_model.specs.Links.{indexed_in}
use Rattle.index_model.specs.Program.{Program}
use Rattle.index_model.specs.Shards.{AreShardsOf}
use Rattle.qualified_names.proofs.Mains.{class_here, language_here, main_given, no_main, none_found, one_found}
use Rattle.qualified_names.proofs.RunLaws.{file_links, file_zip}
use Rattle.qualified_names.proofs.main_program.main_of.Goals as goal

pub name_of-requires : goal.name_of-requires
name_of-requires c =
    let r = c.requires in
    let image = c.args.image.now in
    let S = map arc_value c.args.shards.now in
    let L = map arc_value c.args.linked.now in
    let e = file_links image S L r in
    let z = file_zip image S L r r.program r.is e.0 e.1 in
    let own = subst (AreShardsOf r.program) (sym c.in_ok-languages.ensures) r.are in
    let found = one_found r.program c.in-Some.found _ (c.in-Some.ensures.value image.file r.program r.is own (indexed_in e.0) z.1) in
    record {
      program = r.program;
      file = r.is;
      shards = r.are;
      link = found.0;
      is = found.2;
    }

pub returns-in_default : goal.returns-in_default
returns-in_default c p file ks is =
    let r = c.requires in
    let image = c.args.image.now in
    let S = map arc_value c.args.shards.now in
    let L = map arc_value c.args.linked.now in
    let z = file_zip image S L r p file ks is in
    let are = subst (λ (q : Program). AreShardsOf q S) z.0 r.are in
    let own = subst (AreShardsOf p) (sym c.in_ok-languages.ensures) are in
    no_main p ks (none_found p _ (c.in_default.ensures.value image.file p file own (indexed_in ks) z.1))

pub returns : goal.returns
returns c p file ks is =
    let r = c.requires in
    let image = c.args.image.now in
    let S = map arc_value c.args.shards.now in
    let L = map arc_value c.args.linked.now in
    let z = file_zip image S L r p file ks is in
    let are = subst (λ (q : Program). AreShardsOf q S) z.0 r.are in
    let own = subst (AreShardsOf p) (sym c.in_ok-languages.ensures) are in
    let found = one_found p c.in-Some.found _ (c.in-Some.ensures.value image.file p file own (indexed_in ks) z.1) in
    let asked = subst (AreShardsOf p) (sym (c.in-Some.ensures.kept ∙ c.in_ok-languages.ensures)) are in
    let here = language_here image.file p file _ asked c.in-Some.found found.0 found.2 c.of-language.result c.of-language.ensures.value in
    let class = class_here image.file p file _ asked c.in-Some.found found.0 found.2 c.of-language.result c.of-language.ensures.value in
    main_given p ks found.0 found.1 _ here (c.in_ok-name.ensures p file are found.0 found.2 (c.class.ensures ∙ class))
