use Rattle.std.proofs.Common.{◌≡◌, Bool, false, cond, [], ◌++◌, sym, ap, ◌∙◌}
use Rattle.common_laws.proofs.Appended.{two_parts}
use Rattle.index_model.specs.Layout.{u64_bytes}
use Rattle.index_model.specs.GdbIndex.{is_type_unit}
use Rattle.gdbindex_write.specs.Units.{start_behind}
use Rattle.gdbindex_write.proofs.units.put_cu.Goals as goal

pub returns : goal.returns
returns c =
    let u = c.args.unit.now in
    let plain : is_type_unit u ≡ false = sym c.is_type_unit.ensures ∙ c.if-is_type_unit.false in
    let start = c.start_behind.ensures in
    two_parts c.args.out.now.items (u64_bytes c.start_behind.result) (u64_bytes u.length) c.in_ok-put_u64.ensures c.in_ok-put_u64-2.ensures
    ∙ (λ i. c.args.out.now.items ++ (u64_bytes (start i) ++ u64_bytes u.length))
    ∙ ap (λ (b : Bool). c.args.out.now.items ++ cond b [] (u64_bytes (start_behind c.args.info u) ++ u64_bytes u.length)) (sym plain)
