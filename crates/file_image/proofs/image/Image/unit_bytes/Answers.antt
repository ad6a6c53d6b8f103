use Rattle.std.proofs.Common.{◌<◌, length, ap, arith}
use Rattle.file_image.specs.Images.{Image, view_of}
use Rattle.file_image.proofs.InsideLaws.{unit_inside, in_info, in_types, bytes_in_info, bytes_in_types}
use Rattle.file_image.proofs.image.Image.unit_bytes.Goals as goal

pub between-requires : goal.between-requires
between-requires c =
    let i = c.self.inside in
    let v = view_of i.file.now i.sections i.units.items in
    let lt : c.args.number < length i.units.items = omega (arith, c.requires, ap (λ (v : Image). length v.units) c.self.view_is) in
    in_info (length i.info.now) (length i.types.now) c.index-unit.result.now (unit_inside v i.info.now i.types.now c.args.number c.index-unit.result.now c.self.invariant lt c.index-unit.ensures) c.in-Info.is

pub overflow_sub-unit : goal.overflow_sub-unit
overflow_sub-unit c =
    let i = c.self.inside in
    let v = view_of i.file.now i.sections i.units.items in
    let lt : c.args.number < length i.units.items = omega (arith, c.requires, ap (λ (v : Image). length v.units) c.self.view_is) in
    let ends = in_types (length i.info.now) (length i.types.now) c.index-unit.result.now (unit_inside v i.info.now i.types.now c.args.number c.index-unit.result.now c.self.invariant lt c.index-unit.ensures) c.in-Types.is in
    ends.0

pub between-requires-in-Types : goal.between-requires-in-Types
between-requires-in-Types c =
    let i = c.self.inside in
    let v = view_of i.file.now i.sections i.units.items in
    let lt : c.args.number < length i.units.items = omega (arith, c.requires, ap (λ (v : Image). length v.units) c.self.view_is) in
    let ends = in_types (length i.info.now) (length i.types.now) c.index-unit.result.now (unit_inside v i.info.now i.types.now c.args.number c.index-unit.result.now c.self.invariant lt c.index-unit.ensures) c.in-Types.is in
    omega (arith, ends)

pub returns-in-Info : goal.returns-in-Info
returns-in-Info c =
    let i = c.self.inside in
    let v = view_of i.file.now i.sections i.units.items in
    let lt : c.args.number < length i.units.items = omega (arith, c.requires, ap (λ (v : Image). length v.units) c.self.view_is) in
    let made = bytes_in_info v i.info.now i.types.now c.args.number c.index-unit.result.now c.between.result.now c.self.invariant lt c.index-unit.ensures c.in-Info.is c.between.ensures in
    rw (← c.self.view_is) (record {
      own = λ u e. (made u e).own;
      header = λ u e. (made u e).header;
      small = λ u e. (made u e).small;
    })

pub returns-in-Types : goal.returns-in-Types
returns-in-Types c =
    let i = c.self.inside in
    let v = view_of i.file.now i.sections i.units.items in
    let lt : c.args.number < length i.units.items = omega (arith, c.requires, ap (λ (v : Image). length v.units) c.self.view_is) in
    let made = bytes_in_types v i.info.now i.types.now c.args.number c.index-unit.result.now c.between-in-Types.result.now c.self.invariant lt c.index-unit.ensures c.in-Types.is c.between-in-Types.ensures in
    rw (← c.self.view_is) (record {
      own = λ u e. (made u e).own;
      header = λ u e. (made u e).header;
      small = λ u e. (made u e).small;
    })
