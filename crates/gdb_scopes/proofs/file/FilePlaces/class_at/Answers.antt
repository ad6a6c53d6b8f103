use Rattle.std.proofs.Common.{◌≡◌, None, Some, subst}
use Rattle.file_image.specs.Images.{Image}
use Rattle.shard_build.specs.Found.{IsUnitAt}
use Rattle.shard_build.proofs.OnePlace.{home_of}
use Rattle.gdb_scopes.proofs.KeptLaws.{number_there}
use Rattle.gdb_scopes.proofs.file.FilePlaces.class_at.Goals as goal

pub returns-in_err-unit_of : goal.returns-in_err-unit_of
returns-in_err-unit_of c p is d here =
    let f = c.args.self.now.file in
    let o = c.args.offset in
    let at = subst (λ (e : Image). IsUnitAt e.file o None) c.self.view_is (subst (IsUnitAt c.self.inside.items.file o) c.in_err-unit_of.was c.unit_of.ensures.unit) in
    let h = home_of f p is o d here in
    let clash : None ≡ Some d.home.number = at p is d.home h.0 d.item h.1 h.2 in
    absurd (cc)

pub returns : goal.returns
returns c p is d here =
    let f = c.args.self.now.file in
    let o = c.args.offset in
    let unit = c.in_ok-unit_of.field-0 in
    let at = subst (λ (e : Image). IsUnitAt e.file o (Some unit)) c.self.view_is (subst (IsUnitAt c.self.inside.items.file o) c.in_ok-unit_of.was c.unit_of.ensures.unit) in
    c.class_of.ensures p is d.home (home_of f p is o d here).0 (number_there f p is unit o d here at)
