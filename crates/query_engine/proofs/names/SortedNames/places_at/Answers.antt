use Rattle.std.proofs.Common.{◌≡◌, ◌<◌, length}
use Rattle.std.proofs.lemmas.List.{get_or_read}
use Rattle.query_engine.specs.Groups.{group_at}
use Rattle.query_engine.proofs.names.SortedNames.places_at.Goals as goal

pub returns : goal.returns
returns c =
    let n = c.args.self.now in
    let within : c.args.index < length n.groups.items = c.requires.index in
    let own : c.index-group.result.now ≡ group_at n.groups.items c.args.index = get_or_read n.groups.items c.args.index c.index-group.result.now within c.index-group.ensures _ in
    rw (own, c.deref.ensures.value) (c.requires.names.each c.args.index within).members
