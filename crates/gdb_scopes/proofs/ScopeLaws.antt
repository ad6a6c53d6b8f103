-- Scopes, step by step.
use Rattle.std.proofs.Common.{◌≡◌, ℕ, ◌+◌, ◌<◌, ◌≤◌, Bool, true, false, cond, eqb, not, List, [], ◌∷◌, length, drop, get_or, Option, Some, None, option_map, is_some, Ok, refl, sym, ap, subst, ◌∙◌, drop-cons, add-one}
use Rattle.std.specs.Prelude.{filter_map, option_and_then}
use Rattle.std.specs.Option.{option_or}
use Rattle.std.specs.List.{AllZip, cons_option}
use Rattle.std.proofs.Math.ListN.{drop_of_length-le}
use Rattle.index_model.specs.Chains.{first}
use Rattle.index_model.specs.Faults.{program_of}
use Rattle.index_model.specs.Program.{Program, Located}
use Rattle.index_model.specs.Sections.{Section}
use Rattle.gdb_entries.specs.declared.language.LanguageClass.{LanguageClass}
use Rattle.gdb_entries.specs.Chains.{targets_of}
use Rattle.gdb_entries.specs.Classes.{is_c}
use Rattle.gdb_entries.specs.Owners.{class_read}
use Rattle.gdb_entries.specs.Rules.{entry_point}
use Rattle.gdb_entries.specs.Scopes.{around_by, around_target, open_around, scope_in_place, scope_of}
use Rattle.gdb_items.specs.declared.item.UnitItem.{UnitItem}
use Rattle.gdb_items.specs.Files.{IsItemIn}
use Rattle.gdb_items.specs.Items.{IsItemOf}
use Rattle.gdb_reach.proofs.AroundLaws.{nothing_unread}
use Rattle.gdb_scopes.specs.declared.place.Place.{Place}
use Rattle.gdb_scopes.specs.Places.{offset_of, place_of, IsAt}
use Rattle.gdb_scopes.proofs.AroundLaws.{own_there}

-- ---- the first target that has an open item around it

abbrev pub first_open : Program → List Located → Option Located
first_open p ds = first (filter_map (open_around p) ds)

-- none of those that are behind has one, and these are still to come
pub record IsSoughtTo (p : Program) (ds : List Located) (offsets : List ℕ) : Type 0 where
  pub rest : List Located
  pub are : AllZip (IsAt p) offsets rest
  pub same : first_open p ds ≡ first_open p rest

pub seeks_first : (p : Program) (ds : List Located) (offsets : List ℕ) → AllZip (IsAt p) offsets ds → IsSoughtTo p ds offsets
seeks_first p ds offsets are = record { rest = ds; are = are; same = refl }

-- the next of them
pub record NextSought (p : Program) (ds : List Located) (o : ℕ) (os : List ℕ) : Type 0 where
  pub item : Located
  pub rest : List Located
  pub is : IsAt p o item
  pub are : AllZip (IsAt p) os rest
  pub same : first_open p ds ≡ first_open p (item ∷ rest)

pub next_sought : (p : Program) (ds : List Located) (o : ℕ) (os : List ℕ) → IsSoughtTo p ds (o ∷ os) → NextSought p ds o os
next_sought p ds o os s = by s.rest s.are s.same
  where
    by : (rest : List Located) → AllZip (IsAt p) (o ∷ os) rest → first_open p ds ≡ first_open p rest → NextSought p ds o os
    by [] are same = absurd are
    by (d ∷ rest) are same = record { item = d; rest = rest; is = are.0; are = are.1; same = same }

module _ (p : Program) (ds : List Located) (offsets : List ℕ) (i x : ℕ) (lt : i < length offsets) (s : IsSoughtTo p ds (drop i offsets)) where
  abbrev o : ℕ
  o = get_or offsets i x

  abbrev os : List ℕ
  os = drop (i + 1) offsets

  pub one_sought : NextSought p ds o os
  one_sought =
      let next : drop i offsets ≡ o ∷ os = rw add-one (drop-cons offsets i x lt) in
      next_sought p ds o os (subst (IsSoughtTo p ds) next s)

  front : (q : Option Located) → open_around p one_sought.item ≡ q → first_open p ds ≡ first (cons_option q (filter_map (open_around p) one_sought.rest))
  front q h = one_sought.same ∙ ap (λ (r : Option Located). first (cons_option r (filter_map (open_around p) one_sought.rest))) h

  -- it has one
  pub sought : (around : Option ℕ) → around ≡ option_map offset_of (open_around p one_sought.item) → is_some around ≡ true → around ≡ option_map offset_of (first_open p ds)
  sought around is on = by (open_around p one_sought.item) refl
    where
      by : (q : Option Located) → open_around p one_sought.item ≡ q → around ≡ option_map offset_of (first_open p ds)
      by None h =
          let none : around ≡ None = is ∙ ap (option_map offset_of) h in
          absurd (let clash : false ≡ true = ap (λ (r : Option ℕ). is_some r) (sym none) ∙ on in cc)
      by (Some e) h = is ∙ ap (option_map offset_of) (h ∙ sym (front (Some e) h))

  -- it has none
  pub seeks_on : (around : Option ℕ) → around ≡ option_map offset_of (open_around p one_sought.item) → is_some around ≡ false → IsSoughtTo p ds os
  seeks_on around is off = by (open_around p one_sought.item) refl
    where
      by : (q : Option Located) → open_around p one_sought.item ≡ q → IsSoughtTo p ds os
      by None h = record { rest = one_sought.rest; are = one_sought.are; same = front None h }
      by (Some e) h =
          let some : around ≡ Some e.item.at = is ∙ ap (option_map offset_of) h in
          absurd (let clash : true ≡ false = ap (λ (r : Option ℕ). is_some r) (sym some) ∙ off in cc)

-- behind the last there is none
pub seeks_none : (p : Program) (ds : List Located) (offsets : List ℕ) (i : ℕ) → length offsets ≤ i → IsSoughtTo p ds (drop i offsets) → None ≡ option_map offset_of (first_open p ds)
seeks_none p ds offsets i le s = by s.rest (subst (λ (os : List ℕ). AllZip (IsAt p) os s.rest) (drop_of_length-le offsets le) s.are) s.same
  where
    by : (rest : List Located) → AllZip (IsAt p) [] rest → first_open p ds ≡ first_open p rest → None ≡ option_map offset_of (first_open p ds)
    by [] are same = ap (option_map offset_of) (sym same)
    by (d ∷ rest) are same = absurd are

-- ---- what stands around an item, by its place

abbrev around_in_place : Option Place → Option ℕ
around_in_place (Some x) = x.around
around_in_place None = None

abbrev open_in_place : Option Place → Option ℕ
open_in_place (Some x) = x.open_around
open_in_place None = None

-- the open item around an item to which gdb comes
pub around_told : (p : Program) (d : Located) (class : Option LanguageClass) (place : Option Place) → place ≡ option_map (λ c. place_of p c d) class → around_in_place place ≡ option_map offset_of (around_by p class d)
around_told p d None place is = ap (λ (x : Option Place). around_in_place x) is
around_told p d (Some class) place is = ap (λ (x : Option Place). around_in_place x) is

-- that around any item
pub open_told : (p : Program) (d : Located) (class : Option LanguageClass) → class_read p d.home ≡ class → (place : Option Place) → place ≡ option_map (λ c. place_of p c d) class → open_in_place place ≡ option_map offset_of (open_around p d)
open_told p d None read place is = ap (λ (x : Option Place). open_in_place x) is ∙ ap (option_map offset_of) (sym (nothing_unread p d.home d.item read))
open_told p d (Some class) read place is = ap (λ (x : Option Place). open_in_place x) is

-- ---- the scope of an item

abbrev class_of : Program → Located → Option LanguageClass
class_of p d = class_read p d.home

module _ (p : Program) (d : Located) (around : Option ℕ) (is : around ≡ option_map offset_of (around_by p (class_of p d) d)) where
  -- the open item around it
  pub own_scope : is_some around ≡ true → around ≡ option_map offset_of (scope_in_place p d)
  unfolding scope_in_place
  own_scope on = by (around_by p (class_of p d) d) refl
    where
      by : (q : Option Located) → around_by p (class_of p d) d ≡ q → around ≡ option_map offset_of (option_or (around_by p (class_of p d) d) (around_target p (class_of p d) d))
      by None h =
          let none : around ≡ None = is ∙ ap (option_map offset_of) h in
          absurd (let clash : false ≡ true = ap (λ (r : Option ℕ). is_some r) (sym none) ∙ on in cc)
      by (Some e) h = is ∙ ap (option_map offset_of) h ∙ sym (ap (λ (q : Option Located). option_map offset_of (option_or q (around_target p (class_of p d) d))) h)

  -- or else that around a target
  pub target_scope : is_some around ≡ false → (target : Option ℕ) → target ≡ option_map offset_of (around_target p (class_of p d) d) → target ≡ option_map offset_of (scope_in_place p d)
  unfolding scope_in_place
  target_scope off target found = by (around_by p (class_of p d) d) refl
    where
      by : (q : Option Located) → around_by p (class_of p d) d ≡ q → target ≡ option_map offset_of (option_or (around_by p (class_of p d) d) (around_target p (class_of p d) d))
      by None h = found ∙ sym (ap (λ (q : Option Located). option_map offset_of (option_or q (around_target p (class_of p d) d))) h)
      by (Some e) h =
          let some : around ≡ Some e.item.at = is ∙ ap (option_map offset_of) h in
          absurd (let clash : true ≡ false = ap (λ (r : Option ℕ). is_some r) (sym some) ∙ off in cc)

-- an item that isn't an entry point
pub scope_itself : (p : Program) (d : Located) → eqb d.item.tag entry_point ≡ false → scope_of p d ≡ scope_in_place p d
unfolding scope_of
scope_itself p d off = ap (λ (b : Bool). cond b (option_and_then (scope_in_place p) (scope_in_place p d)) (scope_in_place p d)) off

-- one that is
pub scope_of_subprogram : (p : Program) (d : Located) → eqb d.item.tag entry_point ≡ true → scope_of p d ≡ option_and_then (scope_in_place p) (scope_in_place p d)
unfolding scope_of
scope_of_subprogram p d on = ap (λ (b : Bool). cond b (option_and_then (scope_in_place p) (scope_in_place p d)) (scope_in_place p d)) on

-- ---- whether a scope is sought on the chain

-- where names have no scopes it isn't
pub not_sought : (p : Program) (d : Located) (class : LanguageClass) → not (is_c class) ≡ false → None ≡ option_map offset_of (around_target p (Some class) d)
not_sought p d class off = by (is_c class) off
  where
    by : (b : Bool) → not b ≡ false → None ≡ option_map offset_of (cond b None (first_open p (targets_of p d)))
    by true h = refl
    by false h = absurd (cc)

-- else it is the open item around the first target that has one
pub is_sought : (p : Program) (d : Located) (class : LanguageClass) → not (is_c class) ≡ true → first_open p (targets_of p d) ≡ around_target p (Some class) d
is_sought p d class on = by (is_c class) on
  where
    by : (b : Bool) → not b ≡ true → first_open p (targets_of p d) ≡ cond b None (first_open p (targets_of p d))
    by true h = absurd (cc)
    by false h = refl

-- ---- an entry point

-- around it there is nothing
pub nothing_around : (p : Program) (o : Option Located) → None ≡ option_map offset_of o → None ≡ option_map offset_of (option_and_then (scope_in_place p) o)
nothing_around p None h = refl
nothing_around p (Some e) h = absurd (cc)

-- this stands around it
pub one_around : (o : Option Located) (at : ℕ) → Some at ≡ option_map offset_of o → (e : Located) × (o ≡ Some e) × (e.item.at ≡ at)
one_around None at h = absurd (cc)
one_around (Some e) at h = (e, refl, (let same : e.item.at ≡ at = cc in same))

-- ---- an item at an offset

-- what is told of an item stands at its offset
pub told_there : (f : List ℕ) (p : Program) → program_of f ≡ Ok p → (o : ℕ) (d : Located) → IsAt p o d → (i : UnitItem) → IsItemOf p.sections i d → IsAt p i.offset d
told_there f p is o d here i own = subst (λ (n : ℕ). IsAt p n d) (sym own.offset) (own_there f p is o d here)

-- the item that was sought
pub item_there : (ss : List Section) (i : Option UnitItem) (x : UnitItem) (o : Option Located) (d : Located) → i ≡ Some x → o ≡ Some d → IsItemIn ss i o → IsItemOf ss x d
item_there ss i x o d found there h = subst (λ (q : Option Located). IsItemIn ss (Some x) q) there (subst (λ (j : Option UnitItem). IsItemIn ss j o) found h)

-- it isn't missing
pub not_missing : (ss : List Section) (i : Option UnitItem) (o : Option Located) (d : Located) → i ≡ None → o ≡ Some d → IsItemIn ss i o → ⊥
not_missing ss i o d none there h = subst (λ (q : Option Located). IsItemIn ss None q) there (subst (λ (j : Option UnitItem). IsItemIn ss j o) none h)
