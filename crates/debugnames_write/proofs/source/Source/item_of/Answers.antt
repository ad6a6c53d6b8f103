use Rattle.std.proofs.Common.{◌≡◌, get_or, ap, ◌∙◌, arith}
use Rattle.index_model.specs.Units.{is_types}
use Rattle.debugnames_write.specs.Units.{place_at}
use Rattle.debugnames_write.proofs.UnitLaws.{entry_within, entry_inside, entry_fits, entry_made, entry_left_out, places_long, place_read}
use Rattle.debugnames_write.proofs.source.Source.item_of.Goals as goal

pub at-requires : goal.at-requires
at-requires c =
    let units = c.args.self.now.units.now in
    let within = entry_within units c.args.entry.now c.requires in
    rw c.args.self.now.placed.places (omega (arith, within, places_long units))

pub overflow_sub-result : goal.overflow_sub-result
overflow_sub-result c = (entry_inside c.args.self.now.units.now c.args.entry.now _ c.requires).0

pub overflow_cast-result : goal.overflow_cast-result
overflow_cast-result c = entry_fits c.args.self.now.units.now c.args.entry.now _ c.requires c.args.self.now.short

pub returns-in-Types : goal.returns-in-Types
returns-in-Types c = entry_left_out c.args.self.now.units.now c.args.entry.now _ c.requires (ap is_types c.in-Types.is)

pub returns-in-Info : goal.returns-in-Info
returns-in-Info c =
    let units = c.args.self.now.units.now in
    let entry = c.args.entry.now in
    let within = entry_within units entry c.requires in
    let at : c.at.result ≡ place_at units entry.unit = c.at.ensures ∙ ap (λ w. get_or w entry.unit 0) c.args.self.now.placed.places ∙ place_read units entry.unit within in
    entry_made units entry _ c.is_type_unit.result c.at.result c.requires (ap is_types c.in-Info.is) c.is_type_unit.ensures at
