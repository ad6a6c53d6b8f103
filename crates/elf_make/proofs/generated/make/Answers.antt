use Rattle.std.proofs.Common.{◌≡◌, ap, ◌∙◌, arith}
use Rattle.std.specs.Prelude.{flat_map}
use Rattle.index_model.specs.Layout.{below}
use Rattle.elf_make.specs.Generated.{generated_unit}
use Rattle.elf_make.proofs.Whole.{units_more, file_is}
use Rattle.elf_make.proofs.generated.make.Goals as goal

pub loop-index-preserved : goal.loop-index-preserved
loop-index-preserved c = units_more (generated_unit c.args.seed c.args.units) c.loop-index.index c.loop-index.info.items _ c.loop-index.invariant c.in_ok-push_unit.ensures

pub returns : goal.returns
returns c =
    let all : c.loop-index.index ≡ c.args.units = omega (arith, c.loop-index-test.false, c.loop-index.auto.index-end) in
    let info = c.as_slice.ensures.value ∙ c.loop-index.invariant ∙ ap (λ n. flat_map (generated_unit c.args.seed c.args.units) (below n)) all in
    let file = file_is c.args.seed c.args.units _ _ _ _ _ c.in_ok-packer.ensures c.in_ok-add.ensures.ok c.in_ok-add-2.ensures.ok c.abbreviation_table.ensures info in
    rw file c.finish.ensures
