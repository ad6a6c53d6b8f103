use Rattle.std.proofs.Common.{None, ◌≡◌, ◌++◌, sym, subst, ◌∙◌, Option, [], List}
use Rattle.std.proofs.lemmas.Slice.Eq.{slice_eq-Decides}
use Rattle.index_model.specs.declared.range.UnitRange.{UnitRange}
use Rattle.index_model.specs.Pieces.{edges_of}
use Rattle.reach_model.specs.declared.difference.Difference.{Difference}
use Rattle.aranges_read.specs.Edges.{IsFirstAmong}
use Rattle.aranges_read.proofs.FirstLaws.{is_that_of_sets}
use Rattle.aranges_read.proofs.Edges.{agree_all, agree_same, equal_pieces, first_of_all, none_yet}
use Rattle.aranges_read.proofs.difference.compare.Goals as goal

abbrev AmongAll : goal.After-first_at_edges → Option Difference → Type 0
AmongAll c first = IsFirstAmong c.args.table.now c.args.own.now (edges_of c.args.table.now ++ edges_of c.args.own.now) first

among_all : (c : goal.After-first_at_edges) → AmongAll c c.first_at_edges.result
among_all c =
    let t = c.args.table.now in
    let o = c.args.own.now in
    let by_table = c.first_at_edges-by_table.ensures [] (none_yet t o) in
    let both = c.first_at_edges.ensures (edges_of c.pieces-3.result.now) by_table in
    subst (λ (ps : List UnitRange). IsFirstAmong t o (edges_of ps ++ edges_of o) c.first_at_edges.result) c.pieces-3.ensures
    (subst (λ (ps : List UnitRange). IsFirstAmong t o (edges_of c.pieces-3.result.now ++ edges_of ps) c.first_at_edges.result) c.pieces-4.ensures both)

pub returns-then-eq-clause-same : goal.returns-then-eq-clause-same
returns-then-eq-clause-same c = λ _.
    let same : c.pieces.result.now ≡ c.pieces-2.result.now = (slice_eq-Decides equal_pieces _ _ _ c.eq.ensures).0 c.if-eq.true in
    agree_same c.args.table.now c.args.own.now (sym c.pieces.ensures ∙ same ∙ c.pieces-2.ensures)

pub returns-clause-same : goal.returns-clause-same
returns-clause-same c = λ is. agree_all c.args.table.now c.args.own.now (subst (AmongAll c) is (among_all c))

pub returns-clause-first : goal.returns-clause-first
returns-clause-first c = λ d is. first_of_all c.args.table.now c.args.own.now d (subst (AmongAll c) is (among_all c))

pub returns-then-eq-clause-exact : goal.returns-then-eq-clause-exact
returns-then-eq-clause-exact c = is_that_of_sets c.args.table.now c.args.own.now None (returns-then-eq-clause-same c) (λ d is. absurd cc)

pub returns-clause-exact : goal.returns-clause-exact
returns-clause-exact c = is_that_of_sets c.args.table.now c.args.own.now c.first_at_edges.result (returns-clause-same c) (returns-clause-first c)
