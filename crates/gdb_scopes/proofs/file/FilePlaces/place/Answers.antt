use Rattle.std.proofs.Common.{◌≡◌, None, Some, subst}
use Rattle.file_image.specs.Images.{Image}
use Rattle.shard_build.specs.Found.{IsUnitAt}
use Rattle.shard_build.proofs.OnePlace.{home_of}
use Rattle.gdb_scopes.proofs.file.FilePlaces.place.Goals as goal

pub place_in-requires-clause-unit : goal.place_in-requires-clause-unit
place_in-requires-clause-unit c =
    let o = c.args.offset in
    subst (λ (e : Image). IsUnitAt e.file o (Some c.in-Some.unit)) c.self.view_is (subst (IsUnitAt c.self.inside.items.file o) c.in-Some.is c.unit_of.ensures.unit)

pub returns-in-None-clause-value : goal.returns-in-None-clause-value
returns-in-None-clause-value c p is d here =
    let f = c.args.self.now.file in
    let o = c.args.offset in
    let at = subst (λ (e : Image). IsUnitAt e.file o None) c.self.view_is (subst (IsUnitAt c.self.inside.items.file o) c.in-None.is c.unit_of.ensures.unit) in
    let h = home_of f p is o d here in
    let clash : None ≡ Some d.home.number = at p is d.home h.0 d.item h.1 h.2 in
    absurd (cc)
