use Rattle.std.proofs.Common.{List, subst}
use Rattle.std.specs.Prelude.{All}
use Rattle.index_model.specs.declared.entry.Entry.{Entry}
use Rattle.query_engine.specs.declared.way.Way.{Way}
use Rattle.query_engine.specs.declared.way.Way.TheVariants.{ByName}
use Rattle.query_engine.specs.Asked.{is_asked}
use Rattle.query_engine.specs.Simple.{IsWhole}
use Rattle.query_engine.specs.Listed.{is_listed, AreListedBy}
use Rattle.query_engine.proofs.SimpleLaws.{by_listed}
use Rattle.query_engine.proofs.table.Table.names_as_listed.Goals as goal

pub returns-in_ok-listed-in-Shared : goal.returns-in_ok-listed-in-Shared
returns-in_ok-listed-in-Shared g c =
    let l = c.in_ok-listed-in-Shared.field-0 in
    let whole : All IsWhole c.self.inside.entries.items = rw c.in-Shared.is at c.self.invariant.own_simple in
    let named = subst (λ (w : Way). AreListedBy (is_asked w) c.deref.result.now l) c.self.invariant.by_name c.in_ok-listed-in-Shared.ensures in
    subst (λ (es : List Entry). AreListedBy is_listed es l) c.self.view_is
    (by_listed c.self.inside.entries.items l whole (subst (λ (es : List Entry). AreListedBy (is_asked ByName) es l) c.deref.ensures.value named))
