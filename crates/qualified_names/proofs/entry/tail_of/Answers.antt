use Rattle.std.proofs.Common.{length, sym, ap, ◌∙◌, arith}
use Rattle.index_model.specs.Names.{simple_name}
use Rattle.index_model.specs.declared.rules.Class.{Class}
use Rattle.qualified_names.proofs.LinkLaws.{is_named}
use Rattle.qualified_names.proofs.entry.tail_of.Goals as goal

pub overflow_cast-result : goal.overflow_cast-result
overflow_cast-result c =
    let r = c.requires in
    let x = c.args.linked.now in
    let n = is_named r.program x r.link r.is in
    omega (arith, c.simple_length.ensures, ap (λ (k : Class). length (simple_name k x.name.now)) r.class_is, n.simple, n.short)

pub returns : goal.returns
returns c p k h class_is =
    let x = c.args.linked.now in
    c.simple_length.ensures ∙ ap (λ (k : Class). length (simple_name k x.name.now)) class_is ∙ ap length (sym (is_named p x k h).tail)
