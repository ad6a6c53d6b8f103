-- What a unit of a program imports itself, by what is told of its units.
use Rattle.std.proofs.Common.{◌≡◌, ℕ, zero, suc, ◌+◌, Bool, true, false, cond, eqb, ◌&&◌, List, [], ◌∷◌, map, flat_map, Option, Some, None, Ok, refl, sym, ap, subst, ◌∙◌, arith, ⊎_elim}
use Rattle.std.specs.Prelude.{Contains, find, filter, slice_get}
use Rattle.std.specs.Option.{option_map}
use Rattle.std.proofs.lemmas.Bool.{true≢false, eq-eqb, eqb-true, and_parts, and_from}
use Rattle.std.proofs.lemmas.Option.{same_Some}
use Rattle.common_laws.proofs.Members.{contains_cases, of_filter, to_filter, of_map, to_map, of_flat_map, to_flat_map, of_find}
use Rattle.common_laws.proofs.Options.{of_option_map}
use Rattle.index_model.specs.declared.shard.Import.{Import}
use Rattle.index_model.specs.Tags.{partial_unit}
use Rattle.index_model.specs.Walk.{Item}
use Rattle.index_model.specs.Program.{Walked, Program, root_of}
use Rattle.index_model.specs.Faults.{program_of}
use Rattle.index_model.specs.Languages.{imports_of}
use Rattle.index_model.specs.ShardParts.{imports_in}
use Rattle.index_model.proofs.Pairs.{Pairs}
use Rattle.index_model.proofs.UnitsApart.{program_apart}
use Rattle.index_model.proofs.ShardRoots.{Numbered, program_numbered, find_number}
use Rattle.gdb_entries.specs.Owners.{is_partial_root, is_partial, stands_at, imported_by}
use Rattle.gdb_units.specs.declared.units.UnitRoot.{UnitRoot}
use Rattle.gdb_units.specs.Given.{root_facts}
use Rattle.gdb_units.specs.Imported.{partial_roots, unit_at, targets_of}
use Rattle.gdb_units.proofs.AnyLaws.{any_on, any_of, to_filter_map, of_filter_map}
use Rattle.gdb_units.proofs.RootLaws.{RootsUp, roots_up, is_root_at, found_is}

-- ---- roots at offsets

-- the root of a partial unit that stands at one of the offsets stands at an offset that is one of them
at_one : (offsets : List ℕ) (x : Option Item) → is_partial_root x ≡ true → stands_at offsets x ≡ true → (o : ℕ) × Contains offsets o × (is_root_at o x ≡ true)
at_one offsets None partial on = absurd (true≢false (sym partial))
at_one offsets (Some r) partial on =
    let m = any_of (λ o. eqb o r.at) offsets on in
    (m.0, m.1, and_from (eqb r.tag partial_unit) (eqb r.at m.0) partial (eq-eqb r.at m.0 (sym (eqb-true m.0 r.at m.2))))

at_these : (offsets : List ℕ) (o : ℕ) (x : Option Item) → Contains offsets o → is_root_at o x ≡ true → (is_partial_root x ≡ true) × (stands_at offsets x ≡ true)
at_these offsets o None c on = absurd (true≢false (sym on))
at_these offsets o (Some r) c on =
    let both = and_parts (eqb r.tag partial_unit) (eqb r.at o) on in
    (both.0, any_on (λ x. eqb x r.at) offsets o c (eq-eqb o r.at (sym (eqb-true r.at o both.1))))

stands_there : (o : ℕ) (x : Option Item) → is_root_at o x ≡ true → (r : Item) × (x ≡ Some r) × (r.at ≡ o)
stands_there o None on = absurd (true≢false (sym on))
stands_there o (Some r) on = (r, refl, eqb-true r.at o (and_parts (eqb r.tag partial_unit) (eqb r.at o) on).1)

-- no two roots stand at one offset
find_it : (o : ℕ) (ws : List Walked) (u : Walked) → Pairs RootsUp ws → Contains ws u → is_root_at o (root_of u) ≡ true → find (λ w. is_root_at o (root_of w)) ws ≡ Some u
find_it o [] u up c on = absurd (omega (arith, c.1))
find_it o (w ∷ ws) u up c on = ⊎_elim
    (λ (same : w ≡ u). ap (λ (b : Bool). cond b (Some w) rest) (ap (λ (v : Walked). is_root_at o (root_of v)) same ∙ on) ∙ ap (λ (v : Walked). Some v) same)
    (λ (later : Contains ws u). by later (find_it o ws u up.1 later on) (is_root_at o (root_of w)) refl)
    (contains_cases w ws u c)
  where
    rest : Option Walked
    rest = find (λ v. is_root_at o (root_of v)) ws

    by : Contains ws u → find (λ v. is_root_at o (root_of v)) ws ≡ Some u → (b : Bool) → is_root_at o (root_of w) ≡ b → find (λ v. is_root_at o (root_of v)) (w ∷ ws) ≡ Some u
    by later found false off = ap (λ (b : Bool). cond b (Some w) rest) off ∙ found
    by later found true also =
        let r = stands_there o (root_of w) also in
        let s = stands_there o (root_of u) on in
        let lt = up.0 u later r.0 s.0 r.1 s.1 in
        absurd (omega (arith, lt, r.2, s.2))

-- ---- numbers

pub number_at : (n k : ℕ) (ws : List Walked) (w : Walked) → Numbered n ws → slice_get ws k ≡ Some w → w.number ≡ n + k
number_at n k [] w h is = absurd cc
number_at n zero (v ∷ vs) w h is = omega (arith, ap (λ (x : Walked). x.number) (same_Some v w is), h.0)
number_at n (suc k) (v ∷ vs) w h is = omega (arith, number_at (n + 1) k vs w h.1 is)

-- ---- imports

imported_is : (p : Program) (w : Walked) → imported_by p w ≡ filter (λ v. is_partial v && stands_at (imports_of p.sections w) (root_of v)) p.walks
unfolding imported_by
imported_is p w = refl

module _ (f : List ℕ) (p : Program) (file : program_of f ≡ Ok p) where
  abbrev pub units : List UnitRoot
  units = map root_facts p.walks

  abbrev pub imports : List Import
  imports = flat_map (imports_in p.sections) p.walks

  numbered : Numbered 0 p.walks
  numbered = program_numbered f p file

  up : Pairs RootsUp p.walks
  up = roots_up p.sections p.walks (program_apart f p file)

  same_number : (x y : Walked) → Contains p.walks x → Contains p.walks y → y.number ≡ x.number → y ≡ x
  same_number x y xc yc e = same_Some y x (sym (find_number 0 p.walks y numbered yc) ∙ ap (λ (n : ℕ). find (λ v. eqb v.number n) p.walks) e ∙ find_number 0 p.walks x numbered xc)

  -- the unit whose root stands at the offset
  unit_there : (o : ℕ) (u : Walked) → Contains p.walks u → is_root_at o (root_of u) ≡ true → unit_at (partial_roots units) o ≡ Some u.number
  unit_there o u c on = found_is o 0 p.walks numbered ∙ ap (option_map (λ w. w.number)) (find_it o p.walks u up c on)

  abbrev Passes : Walked → Walked → Bool
  Passes x v = is_partial v && stands_at (imports_of p.sections x) (root_of v)

  pub of_imported : (x u : Walked) → Contains (imported_by p x) u → Contains p.walks u × (is_partial u ≡ true) × (stands_at (imports_of p.sections x) (root_of u) ≡ true)
  of_imported x u c =
      let m = of_filter (Passes x) p.walks u (subst (λ (ws : List Walked). Contains ws u) (imported_is p x) c) in
      let both = and_parts (is_partial u) (stands_at (imports_of p.sections x) (root_of u)) m.1 in
      (m.0, both.0, both.1)

  to_imported : (x u : Walked) → Contains p.walks u → is_partial u ≡ true → stands_at (imports_of p.sections x) (root_of u) ≡ true → Contains (imported_by p x) u
  to_imported x u c partial on = subst (λ (ws : List Walked). Contains ws u) (sym (imported_is p x)) (to_filter (Passes x) p.walks u c (and_from (is_partial u) (stands_at (imports_of p.sections x) (root_of u)) partial on))

  abbrev import_of : Walked → ℕ → Import
  import_of x o = record { unit = x.number; target = o }

  abbrev at : Import → Option ℕ
  at i = unit_at (partial_roots units) i.target

  -- a partial unit that is imported is one of the targets
  pub to_target : (x u : Walked) → Contains p.walks x → Contains (imported_by p x) u → Contains (targets_of units x.number imports) u.number
  to_target x u xc uc =
      let m = of_imported x u uc in
      let o = at_one (imports_of p.sections x) (root_of u) m.1 m.2 in
      let i : Import = import_of x o.0 in
      let own : Contains (imports_in p.sections x) i = to_map (import_of x) (imports_of p.sections x) o.0 o.1 in
      let all : Contains imports i = to_flat_map (imports_in p.sections) p.walks x i xc own in
      let fits = to_filter (λ (j : Import). eqb j.unit x.number) imports i all (eq-eqb x.number x.number refl) in
      to_filter_map at (filter (λ (j : Import). eqb j.unit x.number) imports) i u.number fits (unit_there o.0 u m.0 o.2)

  -- and each target is one
  pub of_target : (x : Walked) (t : ℕ) → Contains p.walks x → Contains (targets_of units x.number imports) t → (u : Walked) × Contains (imported_by p x) u × (u.number ≡ t)
  of_target x t xc c =
      let i = of_filter_map at (filter (λ (j : Import). eqb j.unit x.number) imports) t c in
      let fits = of_filter (λ (j : Import). eqb j.unit x.number) imports i.0 i.1 in
      let y = of_flat_map (imports_in p.sections) p.walks i.0 fits.0 in
      let o = of_map (import_of y.0) (imports_of p.sections y.0) i.0 y.2 in
      let number : y.0.number ≡ x.number = ap (λ (j : Import). j.unit) o.2 ∙ eqb-true i.0.unit x.number fits.1 in
      let same : y.0 ≡ x = same_number x y.0 xc y.1 number in
      let offset : Contains (imports_of p.sections x) o.0 = subst (λ (w : Walked). Contains (imports_of p.sections w) o.0) same o.1 in
      let found : unit_at (partial_roots units) o.0 ≡ Some t = ap at o.2 ∙ i.2 in
      let u = of_option_map (λ (w : Walked). w.number) (find (λ w. is_root_at o.0 (root_of w)) p.walks) t (sym (found_is o.0 0 p.walks numbered) ∙ found) in
      let there = of_find (λ (w : Walked). is_root_at o.0 (root_of w)) p.walks u.0 u.1 in
      let stands = at_these (imports_of p.sections x) o.0 (root_of u.0) offset there.1 in
      (u.0, to_imported x u.0 there.0 stands.0 stands.1, u.2)
