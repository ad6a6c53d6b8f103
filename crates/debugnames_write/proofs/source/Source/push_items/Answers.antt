use Rattle.std.proofs.Common.{◌≡◌, ◌<◌, ◌+◌, ◌++◌, ℕ, List, [], ◌∷◌, length, get_or, take, map, Some, None, sym, ap, ◌∙◌, subst}
use Rattle.std.specs.Prelude.{option_map}
use Rattle.std.proofs.lemmas.List.{append-nil}
use Rattle.index_model.specs.declared.entry.Entry.{Entry}
use Rattle.index_model.specs.Answers.{entries_at}
use Rattle.index_model.specs.NameIndex.{Indexed, indexed_entry}
use Rattle.debugnames_write.specs.Seen.{item_seen, items_seen, nameless}
use Rattle.debugnames_write.proofs.IndexedLaws.{entries_more, pushed, skipped}
use Rattle.debugnames_write.proofs.UnitLaws.{indexed_none}
use Rattle.debugnames_write.proofs.source.Source.push_items.Goals as goal
use Rattle.debugnames_write.proofs.source.Source.push_items.Goals.{in-Some+in_ok-push, in_default}

pub item_of-requires : goal.item_of-requires
item_of-requires c =
    let es = c.args.self.now.entries.now in
    let p : ℕ = get_or c.args.places.now c.loop-place.place-index 0 in
    let within : p < length es = c.requires.within c.loop-place.place-index 0 c.loop-place-test.true in
    c.requires.inside p c.index-self-place.result within

pub loop-place-init : goal.loop-place-init
loop-place-init c = sym (ap (λ (w : List Indexed). items_seen c.args.items.now.items ++ map nameless w) (indexed_none c.args.self.now.units.now) ∙ append-nil (items_seen c.args.items.now.items))

pub loop-place-preserved : goal.loop-place-preserved
loop-place-preserved c =
    let units = c.args.self.now.units.now in
    let es = c.args.self.now.entries.now in
    let places = c.args.places.now in
    let i = c.loop-place.place-index in
    let e = c.index-self-place.result in
    let within : get_or places i 0 < length es = c.requires.within i 0 c.loop-place-test.true in
    let more : entries_at es (take (i + 1) places) ≡ entries_at es (take i places) ++ e ∷ [] = entries_more es places i e c.loop-place-test.true within c.index-self-place.is in
    let old = items_seen c.args.items.now.items in
    elim c.match-item_of.branch [
      | in-Some+in_ok-push w ↦
          let one = subst (λ (x : Entry). Some (item_seen w.in-Some.item) ≡ option_map nameless (indexed_entry units x)) (sym c.index-self-place.is) (sym (ap (option_map item_seen) w.in-Some.is) ∙ c.item_of.ensures) in
          rw (w.items-is, more) (pushed units (entries_at es (take i places)) e old c.loop-place.items.items c.loop-place.invariant w.in-Some.item _ one w.in_ok-push.ensures.items)
      | in_default w ↦
          let none = subst (λ (x : Entry). None ≡ option_map nameless (indexed_entry units x)) (sym c.index-self-place.is) (sym (ap (option_map item_seen) w.in_default.is) ∙ c.item_of.ensures) in
          rw (w.items-is, more) (skipped units (entries_at es (take i places)) e old c.loop-place.items.items c.loop-place.invariant none)
    ]
