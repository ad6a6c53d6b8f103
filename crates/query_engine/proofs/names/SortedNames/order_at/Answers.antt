use Rattle.std.proofs.Common.{◌≡◌, ◌<◌, length}
use Rattle.std.proofs.lemmas.List.{get_or_read}
use Rattle.query_engine.specs.Front.{IsFrontOf}
use Rattle.query_engine.specs.Groups.{group_at}
use Rattle.query_engine.specs.Sorted.{name_at}
use Rattle.query_engine.proofs.FrontLaws.{order_of_fronts}
use Rattle.query_engine.proofs.names.SortedNames.order_at.Goals as goal

pub returns-in_default : goal.returns-in_default
returns-in_default c =
    let n = c.args.self.now in
    let name = name_at c.args.entries.now n c.args.index in
    let within : c.args.index < length n.groups.items = c.requires.index in
    let own : c.index.result.now ≡ group_at n.groups.items c.args.index = get_or_read n.groups.items c.args.index c.index.result.now within c.index.ensures _ in
    let front : IsFrontOf c.index.result.now.front name = rw own (c.requires.names.each c.args.index within).front in
    order_of_fronts name c.args.other.now.bytes.now c.index.result.now.front c.args.other.now.front front c.args.other.now.front_is c.cmp.result c.cmp.ensures c.in_default.not-Equal
