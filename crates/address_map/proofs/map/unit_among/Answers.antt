use Rattle.std.proofs.Common.{◌∙◌, leb, rules}
use Rattle.std.proofs.lemmas.List.Sorted.{IsPartitionPoint-from_clause}
use Rattle.index_model.specs.declared.range.UnitRange.{UnitRange}
use Rattle.address_map.proofs.Searching.{parted, none_begins, in_last, past_last}
use Rattle.address_map.proofs.UnitAt.{no_range}
use Rattle.address_map.proofs.map.unit_among.Goals as goal

pub returns-in_err-piece : goal.returns-in_err-piece
returns-in_err-piece c =
    let point = IsPartitionPoint-from_clause (λ (p : UnitRange). leb p.range.low c.args.address) c.args.pieces.now _ c.partition_point-begun.ensures.partitioned (parted _ c.args.address c.requires) (λ a r q k. search rules) in
    c.from_residual.ensures ∙ none_begins c.args.pieces.now c.args.address _ no_range c.requires c.partition_point-begun.ensures.bound point c.in_err-piece.ensures

pub returns-then-address-piece : goal.returns-then-address-piece
returns-then-address-piece c =
    let point = IsPartitionPoint-from_clause (λ (p : UnitRange). leb p.range.low c.args.address) c.args.pieces.now _ c.partition_point-begun.ensures.partitioned (parted _ c.args.address c.requires) (λ a r q k. search rules) in
    in_last c.args.pieces.now c.args.address _ no_range c.requires c.partition_point-begun.ensures.bound point _ c.in_ok-piece.ensures.0 c.in_ok-piece.ensures.1 c.if-address-piece.true

pub returns-else-address-piece : goal.returns-else-address-piece
returns-else-address-piece c =
    let point = IsPartitionPoint-from_clause (λ (p : UnitRange). leb p.range.low c.args.address) c.args.pieces.now _ c.partition_point-begun.ensures.partitioned (parted _ c.args.address c.requires) (λ a r q k. search rules) in
    past_last c.args.pieces.now c.args.address _ no_range c.requires c.partition_point-begun.ensures.bound point _ c.in_ok-piece.ensures.0 c.in_ok-piece.ensures.1 c.if-address-piece.false
