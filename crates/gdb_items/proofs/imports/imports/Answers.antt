use Rattle.std.proofs.Common.{◌≡◌, ℕ, ◌<◌, ◌++◌, List, length, take, sym, ap, ◌∙◌, arith}
use Rattle.std.specs.Prelude.{flat_map}
use Rattle.std.proofs.Math.Seq.{take-length}
use Rattle.index_model.specs.declared.shard.Import.{Import}
use Rattle.index_model.specs.Program.{Walked}
use Rattle.index_model.specs.ShardParts.{imports_in}
use Rattle.shard_build.proofs.WalkOfUnit.{walks_count, unit_with}
use Rattle.gdb_items.proofs.PartLaws.{flat_more}
use Rattle.gdb_items.proofs.imports.imports.Goals as goal

pub loop-number-preserved : goal.loop-number-preserved
loop-number-preserved c =
    let im = c.args.image.now in
    let n = c.loop-number.number in
    let within : n < length im.units = omega (arith, c.loop-number-test.true, ap length c.units.ensures.value, c.units.ensures.few) in
    record {
      read = λ p file.
          let w = unit_with im c.units.ensures.of_file p file n within in
          c.in_ok-add_of_unit.ensures.added p file w.walk w.member (omega (arith, w.number)) ∙
          ap (λ (is : List Import). is ++ imports_in p.sections w.walk) (c.loop-number.invariant.read p file) ∙
          sym (flat_more (imports_in p.sections) p.walks n w.walk w.more);
      same = c.in_ok-add_of_unit.ensures.same ∙ c.loop-number.invariant.same;
    }

pub returns-clause-imports : goal.returns-clause-imports
returns-clause-imports c p file =
    let im = c.args.image.now in
    let count = walks_count im c.units.ensures.of_file p file in
    let all : take c.loop-number.number p.walks ≡ p.walks = ap (λ (n : ℕ). take n p.walks) (omega (arith, c.loop-number-test.false, c.loop-number.auto.number-end, count, ap length c.units.ensures.value, c.units.ensures.few)) ∙ take-length p.walks in
    c.loop-number.invariant.read p file ∙ ap (λ (ws : List Walked). flat_map (imports_in p.sections) ws) all
