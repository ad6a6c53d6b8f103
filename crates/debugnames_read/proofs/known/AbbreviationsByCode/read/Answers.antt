use Rattle.std.proofs.Common.{◌≡◌, ℕ, ◌+◌, ◌-◌, suc, List, length, Some, Result, ap, sym, subst, ◌∙◌, arith}
use Rattle.std.specs.Prelude.{IsOk}
use Rattle.std.proofs.lemmas.Result.{err_from_is_err_and}
use Rattle.ix_base.specs.declared.fault.Fault.{Fault}
use Rattle.index_model.specs.declared.index_code.TheConstants.{NAMES_ABBREVIATION}
use Rattle.index_model.specs.Meaning.{fault, wrong_in}
use Rattle.index_model.specs.NameAbbreviations.{Abbreviation, abbreviations, abbreviations_at}
use Rattle.debugnames_read.specs.Abbreviations.{abbreviation_seen, abbreviations_in}
use Rattle.debugnames_read.specs.Known.{IsKnown}
use Rattle.debugnames_read.specs.Results.{list_in}
use Rattle.debugnames_read.proofs.ListLaws.{none_wrong}
use Rattle.debugnames_read.proofs.Readings.{abbreviations_end, abbreviations_list, abbreviations_wrong, no_abbreviations, ok_by_none, wrong_goes}
use Rattle.debugnames_read.proofs.known.AbbreviationsByCode.read.Goals as goal

pub returns-in_err-read-clause-fault : goal.returns-in_err-read-clause-fault
returns-in_err-read-clause-fault c =
    let n : ℕ = length c.rest.result.now in
    let less : n + 1 - c.abbreviations.counter ≡ suc (n - c.abbreviations.counter) = omega (arith, c.abbreviations-test.true) in
    let more = rw less at c.abbreviations.invariant.left in
    let p = err_from_is_err_and c.from_residual.result c.from_residual.ensures.1 in
    rw (p.1, p.2) (sym (sym more ∙ ap wrong_in (abbreviations_wrong (n - c.abbreviations.counter) c.abbreviations.cursor c.in_err-read.field-0.0 c.in_err-read.ensures.value)))

pub returns-in-None-clause-fault : goal.returns-in-None-clause-fault
returns-in-None-clause-fault c =
    let n : ℕ = length c.rest.result.now in
    let less : n + 1 - c.abbreviations.counter ≡ suc (n - c.abbreviations.counter) = omega (arith, c.abbreviations-test.true) in
    let more = rw less at c.abbreviations.invariant.left in
    let end = rw c.in-None.is at c.in_ok-read.ensures.value in
    sym (sym more ∙ ap wrong_in (abbreviations_end (n - c.abbreviations.counter) c.abbreviations.cursor end))

pub returns-in-None-clause-known : goal.returns-in-None-clause-known
returns-in-None-clause-known c =
    let n : ℕ = length c.rest.result.now in
    let less : n + 1 - c.abbreviations.counter ≡ suc (n - c.abbreviations.counter) = omega (arith, c.abbreviations-test.true) in
    let more = rw less at c.abbreviations.invariant.left in
    let known = rw less at c.abbreviations.invariant.known in
    let end = rw c.in-None.is at c.in_ok-read.ensures.value in
    let is = abbreviations_end (n - c.abbreviations.counter) c.abbreviations.cursor end in
    let right : IsOk (abbreviations c.args.area.now) = ok_by_none (abbreviations c.args.area.now) (sym more ∙ ap wrong_in is) in
    subst (λ (r : Result (List Abbreviation) Fault). IsKnown (list_in r) (abbreviations_in c.args.area.now) c.abbreviations.known) is (known right)

pub abbreviations-preserved : goal.abbreviations-preserved
abbreviations-preserved c =
    let n : ℕ = length c.rest.result.now in
    let less : n + 1 - c.abbreviations.counter ≡ suc (n - c.abbreviations.counter) = omega (arith, c.abbreviations-test.true) in
    let more = rw less at c.abbreviations.invariant.left in
    let known = rw less at c.abbreviations.invariant.known in
    let next : n + 1 - (c.abbreviations.counter + 1) ≡ n - c.abbreviations.counter = omega arith in
    let read = rw c.in-Some.is at c.in_ok-read.ensures.value in
    let a : Abbreviation = abbreviation_seen c.in-Some.abbreviation in
    let all : List Abbreviation = abbreviations_in c.args.area.now in
    let left : List Abbreviation = list_in (abbreviations_at (n - c.abbreviations.counter) c.read.new.cursor) in
    record {
      left = rw next (sym (wrong_goes (n - c.abbreviations.counter) c.abbreviations.cursor a c.read.new.cursor read) ∙ more);
      known = rw next (λ right.
          let rest = ok_by_none (abbreviations_at (suc (n - c.abbreviations.counter)) c.abbreviations.cursor) (more ∙ none_wrong (abbreviations c.args.area.now) right) in
          c.keep.ensures left all (subst (λ (xs : List Abbreviation). IsKnown xs all c.abbreviations.known) (abbreviations_list (n - c.abbreviations.counter) c.abbreviations.cursor a c.read.new.cursor read rest) (known right)));
    }

pub returns-clause-fault : goal.returns-clause-fault
returns-clause-fault c =
    let n : ℕ = length c.rest.result.now in
    let out : n + 1 - c.abbreviations.counter ≡ 0 = omega (arith, c.abbreviations-test.false) in
    let more = rw out at c.abbreviations.invariant.left in
    let is : c.fault.result ≡ fault NAMES_ABBREVIATION c.abbreviations.cursor.at = c.fault.ensures ∙ ap (fault NAMES_ABBREVIATION) c.at.ensures in
    ap (λ (d : Fault). Some d) is ∙ sym (sym more ∙ ap wrong_in (no_abbreviations c.abbreviations.cursor))
