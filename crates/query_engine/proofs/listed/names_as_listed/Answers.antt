use Rattle.std.proofs.Common.{◌≤◌, ℕ, length, inl, inr, arith}
use Rattle.std.proofs.lemmas.Bool.{cases_lt}
use Rattle.query_engine.proofs.ListedLaws.{none_listed, all_listed}
use Rattle.query_engine.proofs.listed.names_as_listed.Goals as goal

pub loop-index-init : goal.loop-index-init
loop-index-init g c = record {
  within = omega arith;
  listed = none_listed c.args.entries.now c.args.names.now c.args.simple.now c.requires.names c.requires.simple c.in_ok-listed.listed c.in_ok-listed.ensures;
}

pub returns : goal.returns
returns g c =
    let names : ℕ = length c.args.names.now.groups.items in
    let simple : ℕ = length c.args.simple.now.groups.items in
    let passed = c.in_ok-push_simple_below.ensures.listed c.loop-index.index (omega (arith, c.loop-index-test.false, c.len-index-end.ensures, c.loop-index.auto)) c.loop-index.invariant.listed in
    let all : simple ≤ c.in_ok-push_simple_below.field-0 = elim (cases_lt c.in_ok-push_simple_below.field-0 simple) [
      | inl low ↦ absurd (passed.1 low tt)
      | inr high ↦ high
    ] in
    all_listed c.args.entries.now c.args.names.now c.args.simple.now c.requires.names c.requires.simple c.loop-index.index c.in_ok-push_simple_below.field-0 c.push_simple_below.new.listed (omega (arith, c.loop-index-test.false, c.len-index-end.ensures)) all passed.0
