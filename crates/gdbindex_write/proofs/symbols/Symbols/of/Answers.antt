use Rattle.std.proofs.Common.{◌≡◌, ℕ, ◌<◌, true, false, eqb, ltb, List, [], length, get_or, take, sym, ap, ◌∙◌, subst, rules, arith}
use Rattle.std.specs.Prelude.{All, filter}
use Rattle.std.proofs.lemmas.List.{take_all}
use Rattle.index_model.specs.declared.entry.Entry.{Entry}
use Rattle.index_model.specs.Answers.{entries_at, is_named, places}
use Rattle.query_engine.specs.Texts.{table_names}
use Rattle.query_engine.proofs.PlacedEntries.{entries_at_places, places_within}
use Rattle.gdbindex_write.specs.Elements.{vector_by}
use Rattle.gdbindex_write.specs.Symbols.{Group, group_by}
use Rattle.gdbindex_write.proofs.GroupLaws.{groups_by, all_groups, group_more, group_out, some_left, none_left}
use Rattle.gdbindex_write.proofs.symbols.Symbols.of.Goals as goal
use Rattle.gdbindex_write.proofs.symbols.Symbols.of.Goals.{then-not-is_empty+in_ok-push, else-not-is_empty}

pub fill_vector-requires-clause-places : goal.fill_vector-requires-clause-places
fill_vector-requires-clause-places c =
    let es = c.args.table.now in
    let name = get_or (table_names es) c.loop-index.index [] in
    let listed : All (λ p. p < length c.entries.result.now) (places (is_named name) es) = subst (λ (w : List Entry). All (λ p. p < length w) (places (is_named name) es)) (sym c.entries.ensures.all) (places_within (is_named name) es) in
    subst (λ (ps : List ℕ). All (λ p. p < length c.entries.result.now) ps) (sym c.places_at.ensures) listed

pub loop-index-preserved : goal.loop-index-preserved
loop-index-preserved c =
    let ns = c.args.numbers.now in
    let es = c.args.table.now in
    let names = table_names es in
    let k = c.loop-index.index in
    let inv = c.loop-index.invariant in
    let lt : k < length names = omega (arith, c.loop-index-test.true, c.name_count-index-end.ensures) in
    let name = get_or names k [] in
    let v = c.fill_vector.new.vector.items in
    let own : v ≡ vector_by ns (filter (is_named name) es) =
    c.in_ok-fill_vector.ensures ∙ (λ i. vector_by ns (entries_at (c.entries.ensures.all i) (c.places_at.ensures i))) ∙ ap (vector_by ns) (entries_at_places (is_named name) es) in
    let empty : c.is_empty.result ≡ eqb (length v) 0 = search rules in
    elim c.if-not-is_empty.branch [
      | then-not-is_empty+in_ok-push w ↦
          let g : Group = (w.name_at.result.now, w.deref.result.now) in
          let is : g ≡ group_by ns es name = (λ i. (w.name_at.ensures i, (w.deref.ensures.value ∙ own) i)) in
          let some : ltb 0 (length g.1) ≡ true = ap (λ w. ltb 0 (length w)) w.deref.ensures.value ∙ some_left (length v) c.is_empty.result empty w.if-not-is_empty.true in
          record {
            are = rw w.symbols-is (w.in_ok-push.ensures.groups ∙ group_more ns es names k lt _ inv.are g is some);
            within = rw w.symbols-is w.in_ok-push.ensures.within;
          }
      | else-not-is_empty w ↦
          let g : Group = (name, v) in
          let is : g ≡ group_by ns es name = ap (λ w. (name, w)) own in
          let none : ltb 0 (length g.1) ≡ false = none_left (length v) c.is_empty.result empty w.if-not-is_empty.false in
          record {
            are = rw w.symbols-is (group_out ns es names k lt _ inv.are g is none);
            within = rw w.symbols-is inv.within;
          }
    ]

pub returns : goal.returns
returns c =
    let ns = c.args.numbers.now in
    let es = c.args.table.now in
    let inv = c.loop-index.invariant in
    let all : take c.loop-index.index (table_names es) ≡ table_names es = take_all c.loop-index.index (table_names es) (omega (arith, c.loop-index-test.false, c.name_count-index-end.ensures)) in
    record {
      are = inv.are ∙ ap (groups_by ns es) all ∙ all_groups ns es;
      within = inv.within;
    }
