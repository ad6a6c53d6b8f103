use Rattle.std.proofs.Common.{◌≡◌, ℕ, ◌+◌, length, Some, Ok, subst, ap, ◌∙◌, arith}
use Rattle.std.proofs.lemmas.Bool.{ne_eqb}
use Rattle.ix_base.specs.declared.fault.Fault.{Fault}
use Rattle.ix_base.specs.Moves.{ReadsOrStays}
use Rattle.ix_base.specs.Reading.{uleb}
use Rattle.index_model.specs.NameAbbreviations.{specs_at}
use Rattle.debugnames_read.specs.Specs.{place_behind}
use Rattle.debugnames_read.proofs.Readings.{abbreviation_found, specs_whole}
use Rattle.debugnames_read.proofs.abbreviation.Abbreviation.read.Goals as goal

pub invariant_of-result : goal.invariant_of-result
invariant_of-result c = record { read = rw c.copied-specs.ensures (specs_whole c.fault-wrong.result.at c.uleb-2.new.self c.pass_specs.new.cursor c.in_ok-pass_specs.ensures.value) }

pub returns-clause-value : goal.returns-clause-value
returns-clause-value c =
    let code : c.uleb.result ≡ Some c.in_ok-code.code = grind arith in
    let tag : c.uleb-2.result ≡ Some c.in_ok-tag.tag = grind arith in
    let first = subst (λ r. ReadsOrStays (λ x. x) uleb c.args.cursor.now c.uleb.new.self r) code c.uleb.ensures.value in
    let second = subst (λ r. ReadsOrStays (λ x. x) uleb c.uleb.new.self c.uleb-2.new.self r) tag c.uleb-2.ensures.value in
    let place : c.fault-wrong.result.at ≡ c.args.cursor.now.at = ap (λ (d : Fault). d.at) c.fault-wrong.ensures ∙ c.at.ensures in
    let passed = subst (λ (p : ℕ). place_behind (specs_at p (length c.uleb-2.new.self.rest + 1) c.uleb-2.new.self) ≡ Ok c.pass_specs.new.cursor) place c.in_ok-pass_specs.ensures.value in
    rw c.copied-specs.ensures (abbreviation_found c.args.cursor.now c.uleb.new.self c.uleb-2.new.self c.pass_specs.new.cursor c.in_ok-code.code c.in_ok-tag.tag first (ne_eqb c.in_ok-code.code 0 c.if-code-eq0.false) second passed)
