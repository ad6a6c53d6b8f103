use Rattle.std.proofs.lemmas.List.{length_push}
use Rattle.std.proofs.lemmas.Slice.Zip.{zip_turn, zip_end}
use Rattle.gdb_scopes.proofs.SeenLaws.{passes_pair, sees_none, sees_pair, sees_whole}
use Rattle.gdb_scopes.proofs.placed.seen_of.Goals as goal

pub loop-item-init : goal.loop-item-init
loop-item-init c p class ds are placed = sees_none p class ds c.new-seen.result.items c.args.items.now c.args.places.now c.new-seen.ensures.items are placed

pub loop-item-preserved-in-Continue-1 : goal.loop-item-preserved-in-Continue-1
loop-item-preserved-in-Continue-1 c p class ds are placed =
    let t = zip_turn c.args.items.now c.args.places.now c.loop-item.yielded c.into_iter-item-iterator.result c.loop-item.item-iterator c.next.new.self c.next.result (cc) (cc) c.loop-item.yielded_by (c.in-Some.item, c.in-Some.place) c.in-Some.is c.next.ensures.steps in
    sees_pair p class ds c.loop-item.seen.items c.args.items.now c.args.places.now _ c.in-Some.item.now c.in-Some.place.now t.0 t.1 (t.2 c.in-Some.item.now) (t.3 c.in-Some.place.now)
    (c.loop-item.invariant p class ds are placed) _ (length_push c.loop-item.yielded (c.in-Some.item, c.in-Some.place)) c.if-place.true c.push.new.self.items c.in_ok-push.ensures.items

pub loop-item-preserved : goal.loop-item-preserved
loop-item-preserved c p class ds are placed =
    let t = zip_turn c.args.items.now c.args.places.now c.loop-item.yielded c.into_iter-item-iterator.result c.loop-item.item-iterator c.next.new.self c.next.result (cc) (cc) c.loop-item.yielded_by (c.in-Some.item, c.in-Some.place) c.in-Some.is c.next.ensures.steps in
    passes_pair p class ds c.loop-item.seen.items c.args.items.now c.args.places.now _ c.in-Some.item.now c.in-Some.place.now t.0 t.1 (t.2 c.in-Some.item.now) (t.3 c.in-Some.place.now)
    (c.loop-item.invariant p class ds are placed) _ (length_push c.loop-item.yielded (c.in-Some.item, c.in-Some.place)) c.if-place.false

pub returns : goal.returns
returns c p class ds are placed =
    let all = zip_end c.args.items.now c.args.places.now c.loop-item.yielded c.into_iter-item-iterator.result c.loop-item.item-iterator c.next.new.self c.next.result (cc) (cc) c.loop-item.yielded_by c.in-None.is c.next.ensures.steps in
    sees_whole p class ds c.loop-item.seen.items c.args.items.now c.args.places.now _ all (c.loop-item.invariant p class ds are placed)
