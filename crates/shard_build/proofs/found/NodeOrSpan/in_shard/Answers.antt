use Rattle.std.proofs.Common.{sym, ap, ◌∙◌}
use Rattle.std.specs.Option.{option_map}
use Rattle.index_model.specs.NodeSeen.{node_seen}
use Rattle.index_model.proofs.UnitsApart.{run_apart}
use Rattle.shard_build.proofs.FoundNodes.{offsets_rise}
use Rattle.shard_build.proofs.FoundSpans.{kept_found, within_found, nowhere_found}
use Rattle.shard_build.proofs.found.NodeOrSpan.in_shard.Goals as goal

pub returns-in-Some : goal.returns-in-Some
returns-in-Some c f p run is part stands own =
    let s = c.args.shard.now in
    let rise = offsets_rise p.sections s run (run_apart f p run is part) stands in
    kept_found f p is s run part stands c.args.offset c.in-Some.node (sym (c.node_at.ensures rise) ∙ ap (option_map node_seen) c.in-Some.is)

pub returns-in-Some-innermost : goal.returns-in-Some-innermost
returns-in-Some-innermost c f p run is part stands own =
    let s = c.args.shard.now in
    let rise = offsets_rise p.sections s run (run_apart f p run is part) stands in
    within_found f p is s run part stands c.args.offset own (sym (c.node_at.ensures rise) ∙ ap (option_map node_seen) c.in_default.is) c.in-Some-innermost.span c.in-Some-innermost.ensures.parent c.in-Some-innermost.ensures.member

pub returns-in-None : goal.returns-in-None
returns-in-None c f p run is part stands own =
    let s = c.args.shard.now in
    let rise = offsets_rise p.sections s run (run_apart f p run is part) stands in
    nowhere_found f p is s run part stands c.args.offset own (sym (c.node_at.ensures rise) ∙ ap (option_map node_seen) c.in_default.is) c.in-None.ensures.parent
