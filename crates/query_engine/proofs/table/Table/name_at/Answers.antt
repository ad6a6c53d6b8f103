use Rattle.std.proofs.Common.{◌<◌, List, [], length, get_or, sym, ap, ◌∙◌, subst, arith}
use Rattle.index_model.specs.declared.entry.Entry.{Entry}
use Rattle.query_engine.specs.Sorted.{name_at}
use Rattle.query_engine.specs.Texts.{table_names}
use Rattle.query_engine.proofs.TextLists.{name_count_is, name_is}
use Rattle.query_engine.proofs.table.Table.name_at.Goals as goal

pub text_at-requires-clause-index : goal.text_at-requires-clause-index
text_at-requires-clause-index c =
    let count = name_count_is c.self.inside.entries.items c.self.inside.by_name c.self.invariant.own c.self.invariant.by_name in
    let seen = ap (λ (es : List Entry). length (table_names es)) c.self.view_is in
    omega (arith, c.requires, count, seen)

pub returns : goal.returns
returns c =
    let es = c.self.inside.entries.items in
    let n = c.self.inside.by_name in
    let lt : c.args.index < length (table_names es) = subst (λ (w : List Entry). c.args.index < length (table_names w)) (sym c.self.view_is) c.requires in
    c.text_at.ensures ∙ ap (λ (w : List Entry). name_at w n c.args.index) c.deref.ensures.value
    ∙ name_is es n c.self.invariant.own c.self.invariant.by_name c.args.index lt ∙ ap (λ (w : List Entry). get_or (table_names w) c.args.index []) c.self.view_is
