use Rattle.std.proofs.Common.{◌≡◌, Bool, true, cond, [], ◌++◌, sym, ap, ◌∙◌}
use Rattle.common_laws.proofs.Appended.{three_parts}
use Rattle.index_model.specs.Layout.{u64_bytes}
use Rattle.index_model.specs.GdbIndex.{is_type_unit}
use Rattle.gdbindex_write.specs.Units.{start_behind}
use Rattle.gdbindex_write.proofs.units.put_type_unit.Goals as goal

pub returns : goal.returns
returns c =
    let u = c.args.unit.now in
    let type : is_type_unit u ≡ true = sym c.is_type_unit.ensures ∙ c.if-not-is_type_unit.false in
    let start = c.start_behind.ensures in
    three_parts c.args.out.now.items (u64_bytes c.start_behind.result) (u64_bytes u.type_offset) (u64_bytes u.signature) c.in_ok-put_u64.ensures c.in_ok-put_u64-2.ensures c.in_ok-put_u64-3.ensures
    ∙ (λ i. c.args.out.now.items ++ ((u64_bytes (start i) ++ u64_bytes u.type_offset) ++ u64_bytes u.signature))
    ∙ ap (λ (b : Bool). c.args.out.now.items ++ cond b ((u64_bytes (start_behind c.args.info u) ++ u64_bytes u.type_offset) ++ u64_bytes u.signature) []) (sym type)
