use Rattle.std.proofs.Common.{◌≡◌, ℕ, ◌<◌, List, length, get_or, take, map, not, cond, true, false, refl, sym, ap, ◌∙◌, subst, arith}
use Rattle.std.specs.Prelude.{All}
use Rattle.std.proofs.lemmas.List.{get_or_default, length-take-le}
use Rattle.std.proofs.lemmas.List.Sums.{count_by_more_yes, count_by_more_no, count_by-le-length, sum_by-take-le}
use Rattle.index_model.specs.Layout.{below}
use Rattle.index_model.specs.declared.unit.Unit.{Unit as UnitHeader}
use Rattle.index_model.specs.GdbIndex.{index_number, is_type_unit}
use Rattle.gdbindex_write.proofs.NumberLaws.{is_plain, both_counts, numbers_more, numbers_small, number_of_type, number_of_plain}
use Rattle.gdbindex_write.proofs.UnitLaws.{no_unit}
use Rattle.gdbindex_write.proofs.numbers.index_numbers.Goals as goal
use Rattle.gdbindex_write.proofs.numbers.index_numbers.Goals.{then-is_type_unit+in_ok-push, else-is_type_unit+in_ok-push-2}

pub loop-unit-preserved : goal.loop-unit-preserved
loop-unit-preserved c =
    let units = c.args.units.now in
    let i = c.loop-unit.unit-index in
    let lt = c.loop-unit-test.true in
    let u = get_or units i no_unit in
    let own = get_or_default units i no_unit u lt in
    let inv = c.loop-unit.invariant in
    elim c.if-is_type_unit.branch [
      | then-is_type_unit+in_ok-push w ↦
          let type : is_type_unit u ≡ true = sym c.is_type_unit.ensures ∙ w.if-is_type_unit.true in
          let number = number_of_type units i u lt own type ∙ sym inv.types in
          record {
            made = rw (w.numbers-is, w.in_ok-push.ensures.items, inv.made) (numbers_more units i c.loop-unit.next_type number);
            plain = rw w.next-is (inv.plain ∙ sym (count_by_more_no is_plain units i no_unit lt (ap not type)));
            types = rw w.next_type-is (omega (arith, inv.types, count_by_more_yes is_type_unit units i no_unit lt type));
          }
      | else-is_type_unit+in_ok-push-2 w ↦
          let plain : is_type_unit u ≡ false = sym c.is_type_unit.ensures ∙ w.if-is_type_unit.false in
          let number = number_of_plain units i u lt own plain ∙ sym inv.plain in
          record {
            made = rw (w.numbers-is, w.in_ok-push-2.ensures.items, inv.made) (numbers_more units i c.loop-unit.next number);
            plain = rw w.next-is (omega (arith, inv.plain, count_by_more_yes is_plain units i no_unit lt (ap not plain)));
            types = rw w.next_type-is (omega (arith, inv.types, count_by_more_no is_type_unit units i no_unit lt plain));
          }
    ]

pub returns-clause-small : goal.returns-clause-small
returns-clause-small c =
    let all : c.loop-unit.unit-index ≡ length c.args.units.now = omega arith in
    let made = c.loop-unit.invariant.made ∙ ap (λ (n : ℕ). map (index_number c.args.units.now) (below n)) all in
    subst (λ (ns : List ℕ). All (λ n. n < 16777216) ns) (sym made) (numbers_small c.args.units.now c.requires)

pub loop-unit-init : goal.loop-unit-init
loop-unit-init c = record { made = c.in_ok-numbers.ensures.items; plain = refl; types = omega (arith, c.count_plain-next_type.ensures) }

pub overflow_add-next : goal.overflow_add-next
overflow_add-next c =
    let units = c.args.units.now in
    let i = c.loop-unit.unit-index in
    omega (arith, c.requires, c.loop-unit.invariant.plain, count_by-le-length is_plain (take i units), length-take-le i units (omega (arith, c.loop-unit-test.true)), c.loop-unit-test.true)

pub overflow_add-next_type : goal.overflow_add-next_type
overflow_add-next_type c =
    let units = c.args.units.now in
    omega (arith, c.requires, c.loop-unit.invariant.types, both_counts units, sum_by-take-le (λ (u : UnitHeader). cond (is_type_unit u) 1 0) units c.loop-unit.unit-index)

pub returns-clause-exact : goal.returns-clause-exact
returns-clause-exact c =
    let all : c.loop-unit.unit-index ≡ length c.args.units.now = omega arith in
    c.loop-unit.invariant.made ∙ ap (λ (n : ℕ). map (index_number c.args.units.now) (below n)) all
