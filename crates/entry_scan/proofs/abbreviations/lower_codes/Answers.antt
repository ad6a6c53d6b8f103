use Rattle.std.proofs.Common.{ltb, rules}
use Rattle.std.proofs.lemmas.List.Sorted.{IsPartitionPoint-from_clause}
use Rattle.entry_scan.specs.declared.abbreviation.CodeIndex.{CodeIndex}
use Rattle.entry_scan.proofs.AbbreviationLookup.{parted, cuts}
use Rattle.entry_scan.proofs.abbreviations.lower_codes.Goals as goal

pub returns : goal.returns
returns c =
    let point = IsPartitionPoint-from_clause (λ (o : CodeIndex). ltb o.code c.args.code) c.args.places.now _ c.partition_point.ensures.partitioned (parted _ c.args.code c.requires) (λ a r q k. search rules) in
    cuts _ _ _ c.partition_point.ensures.bound point
