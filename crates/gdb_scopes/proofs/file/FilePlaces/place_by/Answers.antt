use Rattle.std.proofs.Common.{sym, ap, subst, ◌∙◌}
use Rattle.std.specs.Arc.{arc_value}
use Rattle.file_image.specs.Images.{Image}
use Rattle.shard_build.proofs.OnePlace.{home_of}
use Rattle.gdb_scopes.specs.declared.placed.UnitPlaces.{UnitPlaces}
use Rattle.gdb_scopes.specs.Units.{IsPlaced}
use Rattle.gdb_scopes.proofs.KeptLaws.{number_there, rise_there, place_there, place_whole}
use Rattle.gdb_scopes.proofs.file.FilePlaces.place_by.Goals as goal

pub returns-then-is_some-clause-value : goal.returns-then-is_some-clause-value
returns-then-is_some-clause-value c p is d here =
    let f = c.args.self.now.file in
    let unit = c.args.unit in
    let o = c.args.offset in
    let at = c.requires.unit in
    let placed = c.deref.result.now in
    let kept : IsPlaced f unit placed = subst (IsPlaced f unit) (sym c.deref.ensures) c.in_ok-listed.ensures.value in
    let read = c.requires.class p is d.home (home_of f p is o d here).0 (number_there f p is unit o d here at) in
    place_there f p is unit o d here at placed kept c.args.class read c.at-found.result (c.at-found.ensures (rise_there f p is unit o d here at placed kept c.args.class read)) (sym c.is_some.ensures ∙ c.if-is_some.true)

pub returns-clause-value : goal.returns-clause-value
returns-clause-value c p is d here =
    let f = c.args.self.now.file in
    let unit = c.args.unit in
    let o = c.args.offset in
    let at = c.requires.unit in
    let placed = c.deref-2.result.now in
    let kept : IsPlaced f unit placed = subst (IsPlaced f unit) (sym c.deref-2.ensures) (subst (λ (e : Image). IsPlaced e.file unit (arc_value c.in_ok-all.all)) c.placed.ensures.kept c.in_ok-all.ensures.value) in
    let read = c.requires.class p is d.home (home_of f p is o d here).0 (number_there f p is unit o d here at) in
    place_whole f p is unit o d here at placed kept c.args.class read (ap (λ (u : UnitPlaces). u.read.which) c.deref-2.ensures ∙ c.in_ok-all.ensures.whole) c.at.result (c.at.ensures (rise_there f p is unit o d here at placed kept c.args.class read))
