use Rattle.std.proofs.Common.{◌≡◌, ℕ, ◌<◌, length, sym, ap, subst, ◌∙◌, arith}
use Rattle.file_image.specs.Images.{Image}
use Rattle.index_model.specs.Faults.{program_of}
use Rattle.gdb_index.specs.Ranges.{AreListed}
use Rattle.gdb_index.proofs.RangeLaws.{next_listed}
use Rattle.gdb_index.proofs.part.list_group.Goals as goal

pub loop-unit-init : goal.loop-unit-init
loop-unit-init c = record {
  same = c.names-names.ensures;
  added = λ start old. old;
}

pub list_unit-requires-clause-unit : goal.list_unit-requires-clause-unit
list_unit-requires-clause-unit c =
    let same = ap (λ (e : Image). length e.units) c.loop-unit.invariant.same in
    omega (arith, same, c.loop-unit-test.true, c.requires.within)

pub list_unit-requires-clause-reading : goal.list_unit-requires-clause-reading
list_unit-requires-clause-reading c p is w wc number =
    c.reading.ensures p (ap (λ (e : Image). program_of e.file) (sym c.loop-unit.invariant.same) ∙ is) w wc number

pub loop-unit-preserved : goal.loop-unit-preserved
loop-unit-preserved c =
    let im = c.args.file.now in
    let n = c.loop-unit.unit in
    let within : n < length im.units = omega (arith, c.loop-unit-test.true, c.requires.within) in
    let file = ap (λ (e : Image). program_of e.file) c.loop-unit.invariant.same in
    record {
      same = c.in_ok-list_unit.ensures.kept ∙ c.loop-unit.invariant.same;
      added = λ start old.
          next_listed im c.units-units.ensures.of_file start n c.loop-unit.entries.items _ within (c.loop-unit.invariant.added start old)
          (λ p is w wc number. c.in_ok-list_unit.ensures.value p (file ∙ is) w wc number);
    }

pub returns : goal.returns
returns c start old =
    let end : c.loop-unit.unit ≡ c.args.end = omega (arith, c.loop-unit-test.false, c.loop-unit.auto.unit-end) in
    subst (λ (n : ℕ). AreListed c.args.file.now.file start n c.loop-unit.entries.items) end (c.loop-unit.invariant.added start old)
