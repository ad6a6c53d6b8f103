use Rattle.std.specs.Prelude.{flat_map}
use Rattle.common_laws.proofs.Appended.{four_parts}
use Rattle.index_model.specs.GdbIndex.{cu_list, types_list}
use Rattle.gdbindex_write.specs.Addresses.{piece_bytes}
use Rattle.gdbindex_write.specs.Header.{header_bytes}
use Rattle.gdbindex_write.proofs.areas.put_units.Goals as goal

pub returns : goal.returns
returns c =
    four_parts c.args.out.now.items (header_bytes c.args.version c.args.sizes.now) (cu_list c.args.units.now) (types_list c.args.units.now) (flat_map (piece_bytes c.args.numbers.now) c.args.pieces.now)
    c.in_ok-put_header.ensures c.in_ok-put_cu_list.ensures c.in_ok-put_types_list.ensures c.in_ok-put_address_area.ensures
