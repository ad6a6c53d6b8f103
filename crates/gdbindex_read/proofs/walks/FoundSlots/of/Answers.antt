use Rattle.std.proofs.Common.{length, ap, subst, sym, ◌∙◌, arith}
use Rattle.index_model.specs.GdbIndexRead.{is_table_size}
use Rattle.gdbindex_read.specs.Homes.{AreHomes}
use Rattle.gdbindex_read.specs.Slots.{slots_seen}
use Rattle.gdbindex_read.proofs.SlotsRead.{length-slots}
use Rattle.gdbindex_read.proofs.walks.FoundSlots.of.Goals as goal

pub walk_all-requires : goal.walk_all-requires
walk_all-requires c = omega (arith, ap length c.deref.ensures.value, c.in-Some.ensures.size, length-slots c.args.table.now, c.requires.few)

pub returns-in-Some-clause-found : goal.returns-in-Some-clause-found
returns-in-Some-clause-found c =
    let slots = slots_seen c.args.table.now in
    let are = subst (AreHomes slots) (sym c.deref.ensures.value) c.in-Some.ensures in
    c.walk_all.ensures slots are (ap is_table_size (length-slots c.args.table.now) ∙ c.requires.size) (λ k is. absurd (c.none-found.ensures.places k is))
