use Rattle.std.proofs.Common.{List, sym, ap, subst, ◌∙◌}
use Rattle.std.specs.Prelude.{find}
use Rattle.std.specs.List.Sorted.{IsNonDecreasingBy}
use Rattle.gdb_scopes.specs.declared.place.Place.{Place}
use Rattle.gdb_scopes.proofs.PlacedLaws.{stands}
use Rattle.gdb_scopes.proofs.placed.UnitPlaces.at.Goals as goal

pub returns : goal.returns
returns c rise =
    let same = c.as_slice.ensures.value in
    c.place_at.ensures (subst (λ (xs : List Place). IsNonDecreasingBy (λ x. x.offset) xs) (sym same) rise) ∙ ap (λ (xs : List Place). find (stands c.args.offset) xs) same
