use Rattle.std.proofs.Common.{◌≡◌, ℕ, ◌+◌, ◌-◌, ◌≤◌, ◌==◌, List, length, true, false, nat_le, Some, None, Err, refl, sym, ap, subst, ◌∙◌, arith}
use Rattle.std.specs.Option.{ok_or}
use Rattle.std.proofs.lemmas.Result.{err_from_is_err_and}
use Rattle.std.proofs.lemmas.Bool.{le-leb}
use Rattle.common_laws.proofs.Numbers.{one_left}
use Rattle.ix_base.specs.Moves.{ReadsOrStays}
use Rattle.ix_base.specs.Reading.{uleb, input}
use Rattle.index_model.specs.Abbreviations.{abbrev_with, abbrevs_at, table}
use Rattle.ix_base.specs.declared.or_memory.OrMemory.TheVariants as stops
use Rattle.entry_scan.proofs.AbbreviationDamage.{damaged, passed_on}
use Rattle.entry_scan.proofs.AbbreviationFronts.{abbrevs_out, code_cut, abbrevs_end, abbrev_cut, abbrevs_more}
use Rattle.entry_scan.proofs.abbreviation.read_parts.Goals as goal

whole : (bytes : List ℕ) (at : ℕ) → at ≤ length bytes → table bytes at ≡ abbrevs_at (length bytes) (input bytes at)
whole bytes at h = let within : nat_le at (length bytes) ≡ true = le-leb _ _ h in rw within refl

pub returns-in_err-code-clause-value : goal.returns-in_err-code-clause-value
returns-in_err-code-clause-value c =
    let none : c.uleb.result ≡ None = grind arith in
    let cut = subst (λ r. ReadsOrStays (λ x. x) uleb c.abbreviations.cursor c.uleb.new.self r) none c.uleb.ensures.value in
    let more = rw (one_left (length c.args.bytes.now) c.abbreviations.counter c.abbreviations-test.true) at c.abbreviations.invariant.so_far in
    let p = err_from_is_err_and c.from_residual.result c.from_residual.ensures.1 in
    let same : c.in_err-code.field-0.0 ≡ stops.Cause (record {}) = (let e = c.in_err-code.ensures.value ∙ ap (λ o. ok_or o (stops.Cause (record {}))) none in cc) in
    let is : c.from_residual.result ≡ Err (stops.Cause (record {})) = p.1 ∙ ap Err (p.2 ∙ same) in
    damaged _ _ _ (record {}) is (whole c.args.bytes.now c.args.at c.requires ∙ sym more ∙ code_cut (length c.args.bytes.now - (c.abbreviations.counter + 1)) c.abbreviations.cursor _ cut.0)

pub returns-then-code-eq0-clause-value : goal.returns-then-code-eq0-clause-value
returns-then-code-eq0-clause-value c =
    let some : c.uleb.result ≡ Some c.in_ok-code.code = grind arith in
    let e = subst (λ r. ReadsOrStays (λ x. x) uleb c.abbreviations.cursor c.uleb.new.self r) some c.uleb.ensures.value in
    let end = rw c.if-code-eq0.true at e in
    let more = rw (one_left (length c.args.bytes.now) c.abbreviations.counter c.abbreviations-test.true) at c.abbreviations.invariant.so_far in
    whole c.args.bytes.now c.args.at c.requires ∙ sym more ∙ abbrevs_end (length c.args.bytes.now - (c.abbreviations.counter + 1)) c.abbreviations.cursor c.uleb.new.self _ end

pub returns-in_err-read_abbrev-clause-value : goal.returns-in_err-read_abbrev-clause-value
returns-in_err-read_abbrev-clause-value c =
    let some : c.uleb.result ≡ Some c.in_ok-code.code = grind arith in
    let e = subst (λ r. ReadsOrStays (λ x. x) uleb c.abbreviations.cursor c.uleb.new.self r) some c.uleb.ensures.value in
    let more = rw (one_left (length c.args.bytes.now) c.abbreviations.counter c.abbreviations-test.true) at c.abbreviations.invariant.so_far in
    let on : (c.in_ok-code.code == 0) ≡ false = grind arith in
    let p = err_from_is_err_and c.from_residual-in_err-read_abbrev.result c.from_residual-in_err-read_abbrev.ensures.1 in
    let is : c.from_residual-in_err-read_abbrev.result ≡ Err c.in_err-read_abbrev.field-0.0 = p.1 ∙ ap Err p.2 in
    passed_on _ _ _ (abbrev_with c.in_ok-code.code c.uleb.new.self) c.in_err-read_abbrev.field-0.0 is c.in_err-read_abbrev.ensures.value
    (λ cut. whole c.args.bytes.now c.args.at c.requires ∙ sym more ∙ abbrev_cut (length c.args.bytes.now - (c.abbreviations.counter + 1)) c.abbreviations.cursor c.uleb.new.self c.in_ok-code.code _ e on cut)

pub abbreviations-preserved : goal.abbreviations-preserved
abbreviations-preserved c =
    let some : c.uleb.result ≡ Some c.in_ok-code.code = grind arith in
    let e = subst (λ r. ReadsOrStays (λ x. x) uleb c.abbreviations.cursor c.uleb.new.self r) some c.uleb.ensures.value in
    let more = rw (one_left (length c.args.bytes.now) c.abbreviations.counter c.abbreviations-test.true) at c.abbreviations.invariant.so_far in
    let on : (c.in_ok-code.code == 0) ≡ false = grind arith in
    let a = c.in_ok-read_abbrev.ensures.value in
    record {
      within = c.in_ok-read_abbrev.ensures.within;
      split = c.in_ok-read_abbrev.ensures.split;
      so_far = rw a.2 (sym (abbrevs_more (length c.args.bytes.now - (c.abbreviations.counter + 1)) c.abbreviations.cursor c.uleb.new.self c.read_abbrev.new.cursor c.in_ok-code.code a.0 _ e on a.1) ∙ more);
    }

pub returns-clause-value : goal.returns-clause-value
returns-clause-value c =
    let out : length c.args.bytes.now - c.abbreviations.counter ≡ 0 = omega arith in
    let more = rw out at c.abbreviations.invariant.so_far in
    whole c.args.bytes.now c.args.at c.requires ∙ sym more ∙ abbrevs_out c.abbreviations.cursor _
