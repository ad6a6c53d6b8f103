-- How units are read by their owners' numbers is how gdb reads them.
use Rattle.std.proofs.Common.{◌≡◌, ◌<◌, ◌≤◌, ℕ, zero, suc, ◌+◌, Bool, true, false, not, cond, ◌&&◌, List, [], ◌∷◌, map, Option, Some, None, Ok, refl, sym, ap, subst, ◌∙◌, arith, ⊎_elim}
use Rattle.std.specs.Prelude.{Contains, find, length, slice_get, option_and_then}
use Rattle.std.specs.Option.{option_map}
use Rattle.std.specs.List.{enumerate_from, list_any}
use Rattle.std.proofs.lemmas.Bool.{or_parts}
use Rattle.std.proofs.lemmas.List.{length-map}
use Rattle.std.proofs.lemmas.Option.{same_Some, slice_get-map}
use Rattle.common_laws.proofs.Members.{contains_here, contains_later, contains_cases, of_find}
use Rattle.index_model.specs.Faults.{program_of}
use Rattle.index_model.specs.Program.{Walked, Program}
use Rattle.index_model.proofs.ShardRoots.{Numbered, program_numbered}
use Rattle.gdb_entries.specs.declared.language.LanguageClass.{LanguageClass}
use Rattle.gdb_entries.specs.Owners.{is_partial, imports_through, owner_of, own_class}
use Rattle.gdb_units.specs.declared.units.UnitRoot.{UnitRoot}
use Rattle.gdb_units.specs.Given.{root_facts, AreOwnersOf}
use Rattle.gdb_items.specs.declared.by_owner.Reading.{Reading}
use Rattle.gdb_items.specs.Readings.{reading_of, reading_with, reading_at, own_reading}
use Rattle.file_image.specs.Images.{Image, image_of}
use Rattle.shard_build.proofs.WalkOfUnit.{walks_count}
use Rattle.gdb_items.proofs.PartLaws.{by_number}

-- ---- owners

abbrev importer : Program → Walked → Option Walked
importer p v = find (λ w. not (is_partial w) && imports_through (length p.walks) p w v) p.walks

owner_is : (p : Program) (v : Walked) → owner_of p v ≡ cond (is_partial v) (importer p v) (Some v)
unfolding owner_of
owner_is p v = refl

-- a unit that isn't partial owns itself
pub owns_itself : (p : Program) (w : Walked) → is_partial w ≡ false → owner_of p w ≡ Some w
owns_itself p w whole = owner_is p w ∙ ap (λ (b : Bool). cond b (importer p w) (Some w)) whole

-- an owner is one of the units
owner_member : (p : Program) (w o : Walked) → Contains p.walks w → owner_of p w ≡ Some o → Contains p.walks o
owner_member p w o c is = by (is_partial w) refl
  where
    by : (b : Bool) → is_partial w ≡ b → Contains p.walks o
    by true e = (of_find _ p.walks o (sym (ap (λ (b : Bool). cond b (importer p w) (Some w)) e) ∙ sym (owner_is p w) ∙ is)).0
    by false e = subst (Contains p.walks) (same_Some w o (sym (owns_itself p w e) ∙ is)) c

-- ---- places

-- a unit stands at its number
at_number : (n : ℕ) (ws : List Walked) (w : Walked) → Numbered n ws → Contains ws w → (k : ℕ) × (slice_get ws k ≡ Some w) × (w.number ≡ n + k)
at_number n [] w h c = absurd (omega (arith, c.1))
at_number n (v ∷ vs) w h c = ⊎_elim
    (λ (same : v ≡ w). (0, ap (λ (x : Walked). Some x) same, ap (λ (x : Walked). x.number) (sym same) ∙ omega (arith, h.0)))
    (λ (later : Contains vs w). let r = at_number (n + 1) vs w h.1 later in (suc r.0, r.1, omega (arith, r.2)))
    (contains_cases v vs w c)

-- what stands somewhere is a member
member_at : (ws : List Walked) (k : ℕ) (w : Walked) → slice_get ws k ≡ Some w → Contains ws w
member_at [] k w is = absurd cc
member_at (v ∷ vs) zero w is = subst (Contains (v ∷ vs)) (same_Some v w is) (contains_here v vs)
member_at (v ∷ vs) (suc k) w is = contains_later v vs w (member_at vs k w is)

reading_is : (p : Program) (w : Walked) → reading_of p w ≡ option_map (λ o. record { owner = o.number; class = own_class p o }) (owner_of p w)
unfolding reading_of
reading_is p w = refl

abbrev of_owner : Program → Walked → Reading
of_owner p o = record { owner = o.number; class = own_class p o }

-- ---- where no unit is partial

whole_unit : (w : Walked) → (root_facts w).partial ≡ is_partial w
unfolding root_facts
whole_unit w = refl

own_from : (p : Program) (n : ℕ) (ws : List Walked) → Numbered n ws → list_any (λ u. u.partial) (map root_facts ws) ≡ false → map own_reading (enumerate_from n (map (own_class p) ws)) ≡ map (reading_of p) ws
own_from p n [] h none = refl
own_from p n (w ∷ ws) h none =
    let off = or_parts (root_facts w).partial (list_any (λ u. u.partial) (map root_facts ws)) none in
    let whole : is_partial w ≡ false = sym (whole_unit w) ∙ off.0 in
    let own : own_reading (n, own_class p w) ≡ reading_of p w =
    ap (λ (k : ℕ). own_reading (k, own_class p w)) (sym h.0) ∙ sym (reading_is p w ∙ ap (option_map (of_owner p)) (owns_itself p w whole)) in
    let rest : List (Option Reading) = map own_reading (enumerate_from (n + 1) (map (own_class p) ws)) in
    ap (λ (r : Option Reading). r ∷ rest) own ∙ ap (λ (rs : List (Option Reading)). reading_of p w ∷ rs) (own_from p (n + 1) ws h.1 off.1)

module _ (f : List ℕ) (p : Program) (file : program_of f ≡ Ok p) (classes : List LanguageClass) (are : classes ≡ map (own_class p) p.walks) where
  -- each unit is read by its own class
  pub own_all : (units : List UnitRoot) → units ≡ map root_facts p.walks → list_any (λ u. u.partial) units ≡ false → map own_reading (enumerate_from 0 classes) ≡ map (reading_of p) p.walks
  own_all units told none =
      ap (λ (cs : List LanguageClass). map own_reading (enumerate_from 0 cs)) are ∙
      own_from p 0 p.walks (program_numbered f p file) (ap (list_any (λ u. u.partial)) (sym told) ∙ none)

  -- ---- where one is

  -- the class of a unit stands at its number
  class_at : (o : Walked) → Contains p.walks o → reading_with classes o.number ≡ Some (of_owner p o)
  class_at o c =
      let r = at_number 0 p.walks o (program_numbered f p file) c in
      let place : o.number ≡ r.0 = omega (arith, r.2) in
      let class : slice_get classes o.number ≡ Some (own_class p o) =
      ap (λ (cs : List LanguageClass). slice_get cs o.number) are ∙ slice_get-map (own_class p) p.walks o.number ∙
      ap (λ (k : ℕ). option_map (own_class p) (slice_get p.walks k)) place ∙ ap (option_map (own_class p)) r.1 in
      ap (option_map (λ (class : LanguageClass). let x : Reading = record { owner = o.number; class = class } in x)) class

  module _ (owners : List (Option ℕ)) (owned : AreOwnersOf p owners) where
    at_place : (k : ℕ) (w : Walked) → slice_get p.walks k ≡ Some w → reading_at owners classes (0 + k) ≡ reading_of p w
    at_place k w is =
        let number : Walked → Option ℕ = λ (v : Walked). option_map (λ (o : Walked). o.number) (owner_of p v) in
        let slot : slice_get owners k ≡ Some (number w) = ap (λ (os : List (Option ℕ)). slice_get os k) owned ∙ slice_get-map number p.walks k ∙ ap (option_map number) is in
        let place : 0 + k ≡ k = omega arith in
        ap (reading_at owners classes) place ∙
        ap (λ (o : Option (Option ℕ)). option_and_then (reading_with classes) (option_and_then (λ (x : Option ℕ). x) o)) slot ∙
        by_owner (owner_of p w) refl ∙ sym (reading_is p w)
      where
        by_owner : (o : Option Walked) → owner_of p w ≡ o → option_and_then (reading_with classes) (option_map (λ (x : Walked). x.number) (owner_of p w)) ≡ option_map (of_owner p) (owner_of p w)
        by_owner None e = rw e refl
        by_owner (Some o) e = rw e (class_at o (owner_member p w o (member_at p.walks k w is) e))

    -- each unit is read by its owner's class
    pub owned_all : map (λ (u : ℕ × LanguageClass). reading_at owners classes u.0) (enumerate_from 0 classes) ≡ map (reading_of p) p.walks
    owned_all =
        ap (λ (cs : List LanguageClass). map (λ (u : ℕ × LanguageClass). reading_at owners classes u.0) (enumerate_from 0 cs)) are ∙
        by_number (reading_at owners classes) (reading_of p) (own_class p) 0 p.walks at_place

-- ---- how many units there are

pub classes_few : (im : Image) → image_of im.file ≡ Ok im → (p : Program) → program_of im.file ≡ Ok p → (classes : List LanguageClass) → classes ≡ map (own_class p) p.walks → length im.units ≤ 16777215 → length classes < 4294967296
classes_few im image p is classes are few =
    let many : length classes ≡ length p.walks = ap (λ (cs : List LanguageClass). length cs) are ∙ length-map p.walks (own_class p) in
    omega (arith, many, walks_count im image p is, few)
