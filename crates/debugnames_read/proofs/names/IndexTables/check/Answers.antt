use Rattle.std.proofs.Common.{◌≡◌, ◌+◌, ◌-◌, ℕ, refl, ap, sym, subst, ◌∙◌, arith}
use Rattle.std.proofs.lemmas.Result.{err_from_is_err_and}
use Rattle.index_model.specs.Layout.{below}
use Rattle.index_model.specs.Meaning.{each, wrong_in}
use Rattle.index_model.specs.NameIndexRead.{name_at}
use Rattle.debugnames_read.specs.Abbreviations.{abbreviations_in}
use Rattle.debugnames_read.specs.Names.{tables_of, IsRight}
use Rattle.debugnames_read.proofs.NameLaws.{fault_from_all, fault_from_here, fault_from_more, fault_from_none}
use Rattle.debugnames_read.proofs.Readings.{ok_by_none}
use Rattle.debugnames_read.proofs.names.IndexTables.check.Goals as goal

pub loop-number-init : goal.loop-number-init
loop-number-init c = record { left = refl; before = λ lt. absurd (omega (arith, lt)); checked = λ k e. absurd (c.none-checked.ensures k e) }

pub returns-in_err-check_name : goal.returns-in_err-check_name
returns-in_err-check_name c =
    let n = c.args.self.now in
    let t = tables_of n in
    let name = name_at t (abbreviations_in t.abbreviations) n.strings.now n.base in
    let count : ℕ = c.len-count.result in
    let d = c.in_err-check_name.field-0.0 in
    let p = err_from_is_err_and c.from_residual.result c.from_residual.ensures.1 in
    let here = fault_from_here name c.loop-number.number count d c.loop-number-test.true (sym c.in_err-check_name.ensures.value) in
    rw (p.1, p.2) (sym (ap (λ (m : ℕ). wrong_in (each name (below m))) (sym c.len-count.ensures) ∙ sym (fault_from_all name count) ∙ sym c.loop-number.invariant.left ∙ here))

pub loop-number-preserved : goal.loop-number-preserved
loop-number-preserved c =
    let n = c.args.self.now in
    let t = tables_of n in
    let name = name_at t (abbreviations_in t.abbreviations) n.strings.now n.base in
    let count : ℕ = c.len-count.result in
    let k = c.loop-number.number in
    let same : k ≡ k + 1 - 1 = omega arith in
    record {
      left = sym (fault_from_more name k count c.loop-number-test.true (sym c.in_ok-check_name.ensures.value)) ∙ c.loop-number.invariant.left;
      checked = c.in_ok-check_name.ensures.checked;
      before = λ lt. subst (λ (m : ℕ). IsRight n m) same (ok_by_none (name k) (sym c.in_ok-check_name.ensures.value));
    }

pub returns : goal.returns
returns c =
    let n = c.args.self.now in
    let t = tables_of n in
    let name = name_at t (abbreviations_in t.abbreviations) n.strings.now n.base in
    let count : ℕ = c.len-count.result in
    sym (ap (λ (m : ℕ). wrong_in (each name (below m))) (sym c.len-count.ensures) ∙ sym (fault_from_all name count) ∙ sym c.loop-number.invariant.left ∙ fault_from_none name c.loop-number.number count c.loop-number-test.false)
