use Rattle.std.proofs.Common.{◌≡◌, ◌≤◌, ℕ, false, List, Option, map, length, sym, ap, subst, ◌∙◌, arith}
use Rattle.std.specs.Prelude.{IfOk}
use Rattle.std.specs.List.{enumerate_from, list_any}
use Rattle.gdb_entries.specs.declared.language.LanguageClass.{LanguageClass}
use Rattle.gdb_units.specs.declared.units.UnitRoot.{UnitRoot}
use Rattle.gdb_items.specs.declared.by_owner.Reading.{Reading}
use Rattle.gdb_items.specs.Readings.{own_reading, reading_at}
use Rattle.gdb_items.proofs.ReadingLaws.{own_all, owned_all, classes_few}
use Rattle.gdb_items.proofs.by_owner.readings.Goals as goal

pub own_readings-requires : goal.own_readings-requires
own_readings-requires c =
    let im = c.args.image.now in
    let read = c.in_ok-roots.ensures.roots c.requires.0 c.requires.1 in
    let few : length im.units ≤ 16777215 = omega (arith, ap length c.units-units.ensures.value, c.units-units.ensures.few) in
    let small = classes_few im c.units-units.ensures.of_file c.requires.0 c.requires.1 c.in_ok-roots.roots.classes.items read.classes few in
    omega (arith, small, ap length c.deref-then-not-is_any_partial.ensures.value)

pub owned_readings-requires : goal.owned_readings-requires
owned_readings-requires c =
    let im = c.args.image.now in
    let read = c.in_ok-roots.ensures.roots c.requires.0 c.requires.1 in
    let few : length im.units ≤ 16777215 = omega (arith, ap length c.units-units.ensures.value, c.units-units.ensures.few) in
    let small = classes_few im c.units-units.ensures.of_file c.requires.0 c.requires.1 c.in_ok-roots.roots.classes.items read.classes few in
    omega (arith, small, ap length c.deref-2.ensures.value)

pub returns-then-not-is_any_partial : goal.returns-then-not-is_any_partial
returns-then-not-is_any_partial c p file =
    let im = c.args.image.now in
    let roots = c.in_ok-roots.roots in
    let read = c.in_ok-roots.ensures.roots p file in
    let none : list_any (λ (u : UnitRoot). u.partial) roots.units.items ≡ false =
    ap (list_any (λ (u : UnitRoot). u.partial)) (sym c.deref.ensures.value) ∙ sym c.is_any_partial.ensures ∙ c.if-not-is_any_partial.true in
    let all = own_all im.file p file roots.classes.items read.classes roots.units.items read.units none in
    let same = ap (λ (cs : List LanguageClass). map own_reading (enumerate_from 0 cs)) c.deref-then-not-is_any_partial.ensures.value ∙ all in
    subst (λ (rs : List (Option Reading)). IfOk c.own_readings.result (λ v. v.items ≡ rs)) same c.own_readings.ensures

pub returns : goal.returns
returns c p file =
    let im = c.args.image.now in
    let roots = c.in_ok-roots.roots in
    let read = c.in_ok-roots.ensures.roots p file in
    let owners = c.in_ok-owners.owners in
    let owned = c.in_ok-owners.ensures im.file p file (c.as_slice.ensures.value ∙ read.units) (c.as_slice-2.ensures.value ∙ c.in_ok-imports.ensures.imports p file) in
    let all = owned_all im.file p file roots.classes.items read.classes owners owned in
    let same = ap (λ (cs : List LanguageClass). map (λ (u : ℕ × LanguageClass). reading_at owners cs u.0) (enumerate_from 0 cs)) c.deref-2.ensures.value ∙ all in
    subst (λ (rs : List (Option Reading)). IfOk c.owned_readings.result (λ v. v.items ≡ rs)) same c.owned_readings.ensures
