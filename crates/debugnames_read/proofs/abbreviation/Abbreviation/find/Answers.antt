use Rattle.std.proofs.Common.{◌≡◌, ℕ, ◌+◌, ◌-◌, suc, length, ap, sym, ◌∙◌, arith}
use Rattle.std.specs.Prelude.{find, ◌==◌}
use Rattle.std.proofs.lemmas.Bool.{eq-eqb, ne_eqb}
use Rattle.index_model.specs.NameAbbreviations.{Abbreviation}
use Rattle.debugnames_read.specs.Abbreviations.{abbreviation_seen}
use Rattle.debugnames_read.specs.Results.{list_in}
use Rattle.debugnames_read.proofs.Readings.{abbreviations_end, abbreviations_list, abbreviations_ok, abbreviations_out, abbreviations_there, find_here, find_on}
use Rattle.debugnames_read.proofs.abbreviation.Abbreviation.find.Goals as goal

pub returns-then-abbreviation-code : goal.returns-then-abbreviation-code
returns-then-abbreviation-code c =
    let n : ℕ = length c.rest.result.now in
    let k : ℕ = c.abbreviations.counter in
    let less : n + 1 - k ≡ suc (n - k) = omega (arith, c.abbreviations-test.true) in
    let left = rw less at c.abbreviations.invariant.left in
    let ok = rw less at c.abbreviations.invariant.ok in
    let read = rw c.in-Ok-Some.field-0-is at c.in-Ok-Some.ensures.value in
    let a : Abbreviation = abbreviation_seen c.in-Ok-Some.abbreviation in
    let list = abbreviations_list (n - k) c.abbreviations.cursor a c.read.new.cursor read ok in
    sym (sym left ∙ find_here c.args.code a _ _ list (eq-eqb a.code c.args.code c.if-abbreviation-code.true))

pub returns-in-Ok-None : goal.returns-in-Ok-None
returns-in-Ok-None c =
    let n : ℕ = length c.rest.result.now in
    let k : ℕ = c.abbreviations.counter in
    let less : n + 1 - k ≡ suc (n - k) = omega (arith, c.abbreviations-test.true) in
    let left = rw less at c.abbreviations.invariant.left in
    let end = rw c.in-Ok-None.field-0-is at c.in-Ok-None.ensures.value in
    sym (sym left ∙ ap (λ r. find (λ (a : Abbreviation). a.code == c.args.code) (list_in r)) (abbreviations_end (n - k) c.abbreviations.cursor end))

pub returns-in-Err : goal.returns-in-Err
returns-in-Err c =
    let n : ℕ = length c.rest.result.now in
    let k : ℕ = c.abbreviations.counter in
    let less : n + 1 - k ≡ suc (n - k) = omega (arith, c.abbreviations-test.true) in
    let ok = rw less at c.abbreviations.invariant.ok in
    absurd (abbreviations_there (n - k) c.abbreviations.cursor _ ok c.in-Err.ensures.value)

pub abbreviations-preserved : goal.abbreviations-preserved
abbreviations-preserved c =
    let n : ℕ = length c.rest.result.now in
    let k : ℕ = c.abbreviations.counter in
    let less : n + 1 - k ≡ suc (n - k) = omega (arith, c.abbreviations-test.true) in
    let left = rw less at c.abbreviations.invariant.left in
    let ok = rw less at c.abbreviations.invariant.ok in
    let next : n + 1 - (k + 1) ≡ n - k = omega arith in
    let read = rw c.in-Ok-Some.field-0-is at c.in-Ok-Some.ensures.value in
    let a : Abbreviation = abbreviation_seen c.in-Ok-Some.abbreviation in
    let list = abbreviations_list (n - k) c.abbreviations.cursor a c.read.new.cursor read ok in
    record {
      ok = rw next (abbreviations_ok (n - k) c.abbreviations.cursor a c.read.new.cursor read ok);
      left = rw next (sym (find_on c.args.code a _ _ list (ne_eqb a.code c.args.code c.if-abbreviation-code.false)) ∙ left);
    }

pub returns : goal.returns
returns c =
    let n : ℕ = length c.rest.result.now in
    let out : n + 1 - c.abbreviations.counter ≡ 0 = omega (arith, c.abbreviations-test.false) in
    let ok = rw out at c.abbreviations.invariant.ok in
    absurd (abbreviations_out c.abbreviations.cursor ok)
