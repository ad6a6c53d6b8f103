use Rattle.std.proofs.Common.{Bool, not, ◌&&◌, refl, sym, ap, ◌∙◌}
use Rattle.index_model.specs.Entries.{is_link_static}
use Rattle.index_model.specs.Languages.{language_of}
use Rattle.index_model.specs.MainProgram.{is_c_or_cxx}
use Rattle.qualified_names.proofs.LinkLaws.{parts}
use Rattle.qualified_names.proofs.Mains.{class_here, language_here, told_named}
use Rattle.qualified_names.proofs.sought.is_named.Goals as goal

pub returns-then-not-has_main_name-clause-value : goal.returns-then-not-has_main_name-clause-value
returns-then-not-has_main_name-clause-value c f p file are k h =
    let fits = is_c_or_cxx k.class && not (is_link_static k) in
    ap (λ (b : Bool). b && fits) (sym c.if-not-has_main_name.true) ∙
    told_named p k (language_of p k.entry.home) refl (sym (parts p c.args.entry.now k h).class) c.has_main_name.result fits (c.has_main_name.ensures p k h) refl

pub returns-clause-value : goal.returns-clause-value
returns-clause-value c f p file are k h =
    let x = c.args.entry.now in
    let shards = c.args.languages.now in
    let here = language_here f p file shards are x k h c.of.result c.of.ensures.value in
    let class = class_here f p file shards are x k h c.of.result c.of.ensures.value in
    ap (λ (b : Bool). b && c.may_be_named_main.result) (sym c.if-not-has_main_name.false) ∙
    told_named p k c.of.result here class c.has_main_name.result c.may_be_named_main.result (c.has_main_name.ensures p k h) (c.may_be_named_main.ensures p k h (c.class.ensures ∙ class))
