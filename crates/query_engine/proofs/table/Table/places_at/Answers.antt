use Rattle.std.proofs.Common.{◌<◌, List, ℕ, [], length, get_or, sym, ap, ◌∙◌, subst, arith}
use Rattle.index_model.specs.Answers.{places, is_named}
use Rattle.index_model.specs.declared.entry.Entry.{Entry}
use Rattle.query_engine.specs.declared.way.Way.{Way}
use Rattle.query_engine.specs.Asked.{is_asked}
use Rattle.query_engine.specs.Sorted.{name_at}
use Rattle.query_engine.specs.Texts.{table_names}
use Rattle.query_engine.proofs.TextLists.{name_count_is, name_is}
use Rattle.query_engine.proofs.table.Table.places_at.Goals as goal

pub places_at-requires-clause-index : goal.places_at-requires-clause-index
places_at-requires-clause-index c =
    let count = name_count_is c.self.inside.entries.items c.self.inside.by_name c.self.invariant.own c.self.invariant.by_name in
    let seen = ap (λ (es : List Entry). length (table_names es)) c.self.view_is in
    omega (arith, c.requires, count, seen)

pub returns : goal.returns
returns c =
    let es = c.self.inside.entries.items in
    let n = c.self.inside.by_name in
    let lt : c.args.index < length (table_names es) = subst (λ (w : List Entry). c.args.index < length (table_names w)) (sym c.self.view_is) c.requires in
    let shown = c.places_at.ensures ∙ ap (λ (w : List Entry). places (is_asked n.way (name_at w n c.args.index)) w) c.deref.ensures.value in
    let way = ap (λ (w : Way). places (is_asked w (name_at es n c.args.index)) es) c.self.invariant.by_name in
    let name = ap (λ (t : List ℕ). places (is_named t) es) (name_is es n c.self.invariant.own c.self.invariant.by_name c.args.index lt) in
    shown ∙ way ∙ name ∙ ap (λ (w : List Entry). places (is_named (get_or (table_names w) c.args.index [])) w) c.self.view_is
