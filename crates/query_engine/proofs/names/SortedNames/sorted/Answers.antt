use Rattle.std.proofs.Common.{refl, arith}
use Rattle.std.proofs.lemmas.List.{length-map}
use Rattle.query_engine.specs.declared.spelling.FrontedText.{FrontedText}
use Rattle.query_engine.specs.Groups.{AreGroupsOf}
use Rattle.query_engine.specs.Seen.{texts_seen}
use Rattle.query_engine.proofs.NamesLaws.{are_names}
use Rattle.query_engine.proofs.names.SortedNames.sorted.Goals as goal

pub groups_of-requires : goal.groups_of-requires
groups_of-requires g c =
    let o = c.in_ok-order.order in
    let h = c.in_ok-order.ensures c.requires.entries c.requires.labelled in
    rw (c.deref.ensures.value, c.deref-2.ensures.value) (omega (arith, h.put.size, length-map o.texts.items (λ (s : FrontedText). s.bytes.now)))

pub returns : goal.returns
returns g c es labelled =
    let o = c.in_ok-order.order in
    let h = c.in_ok-order.ensures es labelled in
    let groups : AreGroupsOf (texts_seen o.texts.items) o.ends.items c.in_ok-groups.groups.items = rw (← c.deref.ensures.value, ← c.deref-2.ensures.value) c.in_ok-groups.ensures in
    record { way_is = refl; own = are_names es _ (texts_seen o.texts.items) h.marks o.ends.items h.ascending h.say h.put groups }
