use Rattle.std.proofs.Common.{◌≡◌, ℕ, List, Vec, Ok, Global, sym, ap, subst, ◌∙◌}
use Rattle.std.specs.Arc.{arc_value}
use Rattle.std.specs.List.{AllZip}
use Rattle.std.specs.declared.sync.Arc.{Arc}
use Rattle.file_image.specs.Images.{Image}
use Rattle.index_model.specs.Faults.{program_of}
use Rattle.shard_build.proofs.MapLaws.{one_more}
use Rattle.gdb_items.specs.declared.item.UnitItem.{UnitItem}
use Rattle.gdb_items.specs.Items.{kept_of, IsItemOf}
use Rattle.gdb_scopes.specs.declared.placed.UnitPlaces.{UnitPlaces}
use Rattle.gdb_scopes.specs.Units.{AllArePlaced, AreReadingsOf, IsPlaced}
use Rattle.gdb_scopes.proofs.KeptLaws.{kept_still, placed_by}
use Rattle.gdb_scopes.proofs.file.FilePlaces.go_over.Goals as goal
use Rattle.gdb_scopes.proofs.file.FilePlaces.go_over.Goals.{In_ok-placed}

pub invariant_of-self : goal.invariant_of-self
invariant_of-self c = subst (λ (e : Image). AreReadingsOf e.file c.self.inside.readings.now × AllArePlaced e.file c.self.inside.units) (sym c.places_of.ensures.kept) c.self.invariant

pub invariant_of-self-in_err-placed : goal.invariant_of-self-in_err-placed
invariant_of-self-in_err-placed c = subst (λ (e : Image). AreReadingsOf e.file c.self.inside.readings.now × AllArePlaced e.file c.self.inside.units) (sym c.places_of.ensures.kept) c.self.invariant

pub invariant_of-self-in_err-try_clone : goal.invariant_of-self-in_err-try_clone
invariant_of-self-in_err-try_clone c = subst (λ (e : Image). AreReadingsOf e.file c.self.inside.readings.now × AllArePlaced e.file c.self.inside.units) (sym c.places_of.ensures.kept) c.self.invariant

pub invariant_of-self-in_err-insert : goal.invariant_of-self-in_err-insert
invariant_of-self-in_err-insert c =
    let h = subst (λ (e : Image). AreReadingsOf e.file c.self.inside.readings.now × AllArePlaced e.file c.self.inside.units) (sym c.places_of.ensures.kept) c.self.invariant in
    (h.0, kept_still c.places_of.new.file.file c.self.inside.units c.insert.new.self h.1 c.in_err-insert.ensures.err)

-- what was read has its places
made : (c : In_ok-placed) → IsPlaced c.args.self.now.file c.args.unit (arc_value c.in_ok-placed.placed)
made c =
    let f = c.args.self.now.file in
    let items = c.as_slice.ensures.value ∙ ap (λ (v : Vec UnitItem Global). v.items) c.deref.ensures in
    let placed : UnitPlaces = record { read = c.args.read; places = c.in_ok-places.places } in
    let one : IsPlaced f c.args.unit placed = placed_by f c.args.unit c.args.class placed c.requires.read c.requires.class
    (λ p is w wc read are.
    let here : program_of c.self.inside.items.file ≡ Ok p = ap (λ (e : Image). program_of e.file) c.self.view_is ∙ is in
    c.in_ok-places.ensures.value p here w c.args.read.which wc read (subst (λ (is : List UnitItem). AllZip (IsItemOf p.sections) is (kept_of c.args.read.which w)) (sym items) are)) in
    subst (IsPlaced f c.args.unit) (sym c.in_ok-placed.ensures.ok) one

pub invariant_of-self-2 : goal.invariant_of-self-2
invariant_of-self-2 c =
    let h = subst (λ (e : Image). AreReadingsOf e.file c.self.inside.readings.now × AllArePlaced e.file c.self.inside.units) (sym c.places_of.ensures.kept) c.self.invariant in
    let f = c.places_of.new.file.file in
    let unit = c.args.unit in
    let own = subst (λ (e : Image). IsPlaced e.file unit (arc_value c.in_ok-placed.placed)) (sym (c.places_of.ensures.kept ∙ c.self.view_is)) (made (goal.at.invariant_of-self-2 c).In_ok-placed) in
    let clone = c.in_ok-try_clone.field-0 in
    let kept : IsPlaced f unit (arc_value clone) = subst (IsPlaced f unit) (sym c.in_ok-try_clone.ensures) own in
    (h.0, one_more (λ (u : ℕ) (x : Arc UnitPlaces Global). IsPlaced f u (arc_value x)) c.self.inside.units c.insert.new.self unit clone h.1 kept c.in_ok-insert.ensures.updates.0)

pub returns-clause-value : goal.returns-clause-value
returns-clause-value c = made (goal.at.returns-clause-value c).In_ok-placed
