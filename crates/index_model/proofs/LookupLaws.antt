-- In an index without a fault the path leads to the one slot of a name.
use Rattle.std.proofs.Common.{◌≡◌, ℕ, zero, suc, ◌+◌, ◌*◌, ◌/◌, ◌%◌, ◌^◌, ◌<◌, Bool, true, false, not, ◌||◌, ◌&&◌, cond, eqb, List, [], ◌∷◌, length, take, drop, find, Option, Some, None, unwrap_or, Result, Ok, Err, refl, arith, ap, sym, subst, ◌∙◌}
use Rattle.std.specs.Prelude.{slice_get, flat_map}
use Rattle.std.specs.List.{list_any, list_all, enumerate_from}
use Rattle.std.specs.Str.{bytes_eq}
use Rattle.std.proofs.lemmas.Bool.{eqb-true, and_parts}
use Rattle.std.proofs.lemmas.Bool.Decides.{nat_tests}
use Rattle.std.proofs.lemmas.Option.{slice_get_within}
use Rattle.std.proofs.lemmas.List.{append-nil}
use Rattle.std.proofs.lemmas.List.FromFn.{length-map-range_with_len}
use Rattle.std.proofs.lemmas.List.Folds.{list_any_at}
use Rattle.std.proofs.lemmas.Slice.Eq.{bytes_eq-Decides}
use Rattle.ix_base.specs.declared.fault.Fault.{Fault}
use Rattle.ix_base.specs.Reading.{Input}
use Rattle.index_model.specs.declared.answer.Main.{Main}
use Rattle.index_model.specs.Meaning.{each, holds_or, ◌>>=◌, ◌>>◌, fault}
use Rattle.index_model.specs.Layout.{below}
use Rattle.index_model.specs.GdbAreas.{Areas, areas, items}
use Rattle.index_model.specs.declared.index_code.TheConstants.{GDB_LOST_SLOT, GDB_TABLE_SIZE}
use Rattle.index_model.specs.Hashes.{path}
use Rattle.index_model.specs.GdbIndexRead.{Slot, GdbIndex, gdb_index_hits, slot_or_none, elements_of, is_other, is_found, reached, places_before, Address, is_table_size, slot_at, shortcut_at, whole_items, gdb_index}
use Rattle.index_model.specs.GdbPath.{path_end, hits_by_path, elements_at}
use Rattle.index_model.proofs.PathLaws.{path_has_each_slot}

flip : (b : Bool) → b ≡ true → not b ≡ false
flip true e = refl
flip false e = absurd cc

eqb_self : (n : ℕ) → eqb n n ≡ true
eqb_self n = grind (arith, nat_tests)

-- what stands on a list, behind nothing but what doesn't pass, is found
pub found_at : (other : ℕ → Bool) (k : ℕ) (xs : List ℕ) → list_any (λ o. eqb o k) xs ≡ true → list_all other (places_before k xs) ≡ true → other k ≡ false → find (λ o. not (other o)) xs ≡ Some k
unfolding places_before
found_at other k [] there before is = absurd cc
found_at other k (x ∷ xs) there before is =
    elim (eqb x k) as (λ b. eqb x k ≡ b → (b || list_any (λ o. eqb o k) xs) ≡ true → list_all other (cond b [] (x ∷ places_before k xs)) ≡ true → cond (not (other x)) (Some x) (find (λ o. not (other o)) xs) ≡ Some k) [
      | true ↦ λ same _ _. let e : x ≡ k = eqb-true _ _ same in let o : other x ≡ false = ap other e ∙ is in rw o (ap (λ (x : ℕ). Some x) e)
      | false ↦ λ _ more before.
          let parts = and_parts (other x) (list_all other (places_before k xs)) before in
          rw parts.0 (found_at other k xs more parts.1 is)
    ] refl there before

pub bind_ok : {A B : Type 0} (r : Result A Fault) (f : A → Result B Fault) (y : B) → (r >>= f) ≡ Ok y → (x : A) × (r ≡ Ok x) × (f x ≡ Ok y)
bind_ok (Ok x) f y e = (x, refl, e)
bind_ok (Err d) f y e = absurd cc

-- ---- what an index without a fault has

each_ok : {A B : Type 0} (meaning : A → Result B Fault) (xs : List A) (ys : List B) (k : ℕ) (x : A) → each meaning xs ≡ Ok ys → slice_get xs k ≡ Some x → (y : B) × (meaning x ≡ Ok y)
each_ok meaning [] ys k x e at = absurd cc
each_ok meaning (z ∷ zs) ys zero x e at =
    let b = bind_ok (meaning z) (λ first. each meaning zs >>= λ others. Ok (first ∷ others)) ys e in
    let same : z ≡ x = cc in
    (b.0, ap meaning (sym same) ∙ b.1)
each_ok meaning (z ∷ zs) ys (suc k) x e at =
    let b = bind_ok (meaning z) (λ first. each meaning zs >>= λ others. Ok (first ∷ others)) ys e in
    let c = bind_ok (each meaning zs) (λ others. Ok (b.0 ∷ others)) ys b.2 in
    each_ok meaning zs c.0 k x c.1 at

numbered : {X : Type 0} (n k j : ℕ) (xs : List X) (x : X) → slice_get xs k ≡ Some x → j ≡ n + k → slice_get (enumerate_from n xs) k ≡ Some (j, x)
numbered n k j [] x at e = absurd cc
numbered n zero j (y ∷ ys) x at e = let same : y ≡ x = cc in let place : n ≡ j = omega (arith, e) in cc
numbered n (suc k) j (y ∷ ys) x at e = numbered (n + 1) k j ys x at (omega (arith, e))

held : (test : Bool) (f : Fault) (y : record {}) → holds_or test f ≡ Ok y → test ≡ true
held true f y e = refl
held false f y e = absurd cc

-- a slot of a name is found on its path
is_found_at : (slots : List (Option Slot)) (ys : List (record {})) (k : ℕ) (slot : Slot) → each (reached slots) (enumerate_from 0 slots) ≡ Ok ys → slice_get slots k ≡ Some (Some slot) → is_found slots k slot ≡ true
is_found_at slots ys k slot e at =
    let r = each_ok (reached slots) (enumerate_from 0 slots) ys k (k, Some slot) e (numbered 0 k k slots (Some slot) at (omega arith)) in
    held (is_found slots k slot) (fault GDB_LOST_SLOT slot.at) r.0 r.1

abbrev Accepted : List (Option Slot) → Type 0
Accepted slots = (ys : List (record {})) × (each (reached slots) (enumerate_from 0 slots) ≡ Ok ys)

-- the path of a name ends at each slot that has it
ends_at : (power : ℕ) (slots : List (Option Slot)) (name : List ℕ) (k : ℕ) (slot : Slot) → length slots ≡ 2 ^ power → Accepted slots → slice_get slots k ≡ Some (Some slot) → bytes_eq slot.name name ≡ true → path_end slots name ≡ Some k
unfolding is_found
ends_at power slots name k slot size accepted at same =
    let name_is : slot.name ≡ name = (bytes_eq-Decides slot.name name).0 same in
    let within : k < 2 ^ power = omega (arith, slice_get_within slots k (Some slot) at, size) in
    let on = path_has_each_slot power name k within in
    let there : list_any (λ o. eqb o k) (path (2 ^ power) name) ≡ true = list_any_at (λ o. eqb o k) (path (2 ^ power) name) on.0 k on.1 (ap (λ (o : ℕ). eqb o k) on.2 ∙ eqb_self k) in
    let before : list_all (λ o. is_other name (slot_or_none slots o)) (places_before k (path (length slots) name)) ≡ true = subst (λ (name : List ℕ). list_all (λ o. is_other name (slot_or_none slots o)) (places_before k (path (length slots) name)) ≡ true) name_is (is_found_at slots accepted.0 k slot accepted.1 at) in
    let here : is_other name (slot_or_none slots k) ≡ false = ap (λ (o : Option (Option Slot)). is_other name (unwrap_or o None)) at ∙ flip _ same in
    found_at (λ o. is_other name (slot_or_none slots o)) k (path (length slots) name) (subst (λ (n : ℕ). list_any (λ o. eqb o k) (path n name) ≡ true) (sym size) there) before here

none_of : {X : Type 0} (f : X → List ℕ) (xs : List X) → ((j : ℕ) (y : X) → slice_get xs j ≡ Some y → f y ≡ []) → flat_map f xs ≡ []
none_of f [] nil = refl
none_of f (x ∷ xs) nil = rw (nil 0 x refl) (none_of f xs (λ j y at. nil (suc j) y at))

one_of : {X : Type 0} (f : X → List ℕ) (xs : List X) (k : ℕ) (x : X) → slice_get xs k ≡ Some x → ((j : ℕ) (y : X) → slice_get xs j ≡ Some y → (j ≡ k → ⊥) → f y ≡ []) → flat_map f xs ≡ f x
one_of f [] k x at nil = absurd cc
one_of f (z ∷ zs) zero x at nil = let same : z ≡ x = cc in rw (none_of f zs (λ j y at. nil (suc j) y at (λ e. absurd cc)), append-nil (f z)) (ap f same)
one_of f (z ∷ zs) (suc k) x at nil = rw (nil 0 z refl (λ e. absurd cc)) (one_of f zs k x at (λ j y at ne. nil (suc j) y at (λ e. ne cc)))

-- no slot but the path's end has the name
none_else : (power : ℕ) (slots : List (Option Slot)) (name : List ℕ) (end : Option ℕ) (j : ℕ) (y : Option Slot) → length slots ≡ 2 ^ power → Accepted slots → path_end slots name ≡ end → (end ≡ Some j → ⊥) → slice_get slots j ≡ Some y → elements_of name y ≡ []
none_else power slots name end j None size accepted ends ne at = refl
none_else power slots name end j (Some slot) size accepted ends ne at = elim (bytes_eq slot.name name) as (λ b. bytes_eq slot.name name ≡ b → cond b slot.elements [] ≡ []) [
  | true ↦ λ same. absurd (ne (sym ends ∙ ends_at power slots name j slot size accepted at same))
  | false ↦ λ _. refl
] refl

at_end : (power : ℕ) (slots : List (Option Slot)) (name : List ℕ) (k : ℕ) (o : Option (Option Slot)) → length slots ≡ 2 ^ power → Accepted slots → path_end slots name ≡ Some k → slice_get slots k ≡ o → flat_map (elements_of name) slots ≡ elements_of name (unwrap_or o None)
at_end power slots name k (Some y) size accepted ends at = one_of (elements_of name) slots k y at (λ j z there ne. none_else power slots name (Some k) j z size accepted ends (λ e. ne cc) there)
at_end power slots name k None size accepted ends at = none_of (elements_of name) slots (λ j z there. none_else power slots name (Some k) j z size accepted ends (λ e. absurd (gone j z e there)) there)
  where
    gone : (j : ℕ) (z : Option Slot) → Some k ≡ Some j → slice_get slots j ≡ Some z → ⊥
    gone j z e there = let same : k ≡ j = cc in let past : None ≡ Some z = sym at ∙ ap (slice_get slots) same ∙ there in cc

-- in a table of 2 ^ k slots of an index without a fault, the path leads to all that all slots together have of a name
in_a_power : (power : ℕ) (index : GdbIndex) (name : List ℕ) → length index.slots ≡ 2 ^ power → Accepted index.slots → gdb_index_hits index name ≡ hits_by_path index name
in_a_power power index name size accepted =
    elim (path_end index.slots name) as (λ o. path_end index.slots name ≡ o → flat_map (elements_of name) index.slots ≡ elements_at index.slots name o) [
      | None ↦ λ ends. none_of (elements_of name) index.slots (λ j z there. none_else power index.slots name None j z size accepted ends (λ e. absurd cc) there)
      | Some k ↦ λ ends. at_end power index.slots name k (slice_get index.slots k) size accepted ends refl
    ] refl

-- ---- what an index without a fault is

then_ok : {A B : Type 0} (r : Result A Fault) (s : Result B Fault) (y : B) → (r >> s) ≡ Ok y → (x : A) × (r ≡ Ok x) × (s ≡ Ok y)
then_ok (Ok x) s y e = (x, refl, e)
then_ok (Err d) s y e = absurd cc

length-each : {A B : Type 0} (meaning : A → Result B Fault) (xs : List A) (ys : List B) → each meaning xs ≡ Ok ys → length ys ≡ length xs
length-each meaning [] ys e = let same : [] ≡ ys = cc in ap length (sym same)
length-each meaning (z ∷ zs) ys e =
    let b = bind_ok (meaning z) (λ first. each meaning zs >>= λ others. Ok (first ∷ others)) ys e in
    let c = bind_ok (each meaning zs) (λ others. Ok (b.0 ∷ others)) ys b.2 in
    let same : b.0 ∷ c.0 ≡ ys = cc in
    ap length (sym same) ∙ ap (λ (n : ℕ). suc n) (length-each meaning zs c.0 c.1)

module _ (a : Areas) (addresses : List Address) where
  -- the steps of reading, the last of them first
  abbrev with_main : List (Option Slot) → Option Main → Result GdbIndex Fault
  with_main slots main = each (reached slots) (enumerate_from 0 slots) >> Ok (record { addresses = addresses; slots = slots; main = main })

  abbrev with_slots : List (Option Slot) → Result GdbIndex Fault
  with_slots slots = shortcut_at a >>= λ main. with_main slots main

  abbrev is_whole_table : Bool
  is_whole_table = eqb (length a.table.rest % 8) 0 && is_table_size (length a.table.rest / 8)

  abbrev with_table : Result GdbIndex Fault
  with_table = each (slot_at a) (items 8 a.table) >>= λ slots. with_slots slots

abbrev with_areas : Areas → Result GdbIndex Fault
with_areas a = whole_items a >>= λ addresses. holds_or (is_whole_table a addresses) (fault GDB_TABLE_SIZE a.table.at) >> with_table a addresses

length-items : (n : ℕ) (area : Input) → length (items n area) ≡ length area.rest / n
length-items n area = length-map-range_with_len (λ k. record { at = area.at + n * k; rest = take n (drop (n * k) area.rest) }) 0 (length area.rest / n)

record IsRead (index : GdbIndex) : Type 0 where
  size : is_table_size (length index.slots) ≡ true
  accepted : Accepted index.slots

is_read : (bytes : List ℕ) (index : GdbIndex) → gdb_index bytes ≡ Ok index → IsRead index
unfolding gdb_index
is_read bytes index e =
    let b = bind_ok (areas bytes) with_areas index e in
    let a = b.0 in
    let c = bind_ok (whole_items a) (λ addresses. holds_or (is_whole_table a addresses) (fault GDB_TABLE_SIZE a.table.at) >> with_table a addresses) index b.2 in
    let addresses = c.0 in
    let d = then_ok (holds_or (is_whole_table a addresses) (fault GDB_TABLE_SIZE a.table.at)) (with_table a addresses) index c.2 in
    let table = and_parts (eqb (length a.table.rest % 8) 0) (is_table_size (length a.table.rest / 8)) (held (is_whole_table a addresses) (fault GDB_TABLE_SIZE a.table.at) d.0 d.1) in
    let f = bind_ok (each (slot_at a) (items 8 a.table)) (λ slots. with_slots a addresses slots) index d.2 in
    let slots = f.0 in
    let g = bind_ok (shortcut_at a) (λ main. with_main a addresses slots main) index f.2 in
    let h = then_ok (each (reached slots) (enumerate_from 0 slots)) (Ok (record { addresses = addresses; slots = slots; main = g.0 })) index g.2 in
    let same : slots ≡ index.slots = slots_are addresses slots g.0 index h.2 in
    let size : length slots ≡ length a.table.rest / 8 = length-each (slot_at a) (items 8 a.table) slots f.1 ∙ length-items 8 a.table in
    record {
      size = ap (λ (n : ℕ). is_table_size n) (ap length (sym same) ∙ size) ∙ table.1;
      accepted = subst Accepted same (h.0, h.1);
    }
  where
    made : List Address → List (Option Slot) → Option Main → GdbIndex
    made addresses slots main = record { addresses = addresses; slots = slots; main = main }

    given : GdbIndex → Result GdbIndex Fault
    given index = Ok index

    slots_are : (addresses : List Address) (slots : List (Option Slot)) (main : Option Main) (index : GdbIndex) → given (made addresses slots main) ≡ given index → slots ≡ index.slots
    slots_are addresses slots main index e = let same : made addresses slots main ≡ index = cc in ap (λ (x : GdbIndex). x.slots) same

any_is : (p : ℕ → Bool) (xs : List ℕ) → list_any p xs ≡ true → (k : ℕ) × (p k ≡ true)
any_is p [] e = absurd cc
any_is p (x ∷ xs) e = elim (p x) as (λ b. p x ≡ b → (b || list_any p xs) ≡ true → (k : ℕ) × (p k ≡ true)) [
  | true ↦ λ is _. (x, is)
  | false ↦ λ _ more. any_is p xs more
] refl e

-- a table without slots has nothing
in_no_slots : (index : GdbIndex) (name : List ℕ) → length index.slots ≡ 0 → gdb_index_hits index name ≡ hits_by_path index name
unfolding path
in_no_slots index name e = none index.slots e
  where
    none : (slots : List (Option Slot)) → length slots ≡ 0 → flat_map (elements_of name) slots ≡ elements_at slots name (path_end slots name)
    none [] e = refl
    none (x ∷ xs) e = absurd (omega (arith, e))

-- in an index without a fault the path leads to all that all slots together have of a name
pub path_finds_all : (bytes : List ℕ) (index : GdbIndex) (name : List ℕ) → gdb_index bytes ≡ Ok index → gdb_index_hits index name ≡ hits_by_path index name
unfolding is_table_size
path_finds_all bytes index name e =
    let r = is_read bytes index e in
    let n = length index.slots in
    elim (eqb n 0) as (λ b. eqb n 0 ≡ b → (b || list_any (λ k. eqb n (2 ^ k)) (below 32)) ≡ true → gdb_index_hits index name ≡ hits_by_path index name) [
      | true ↦ λ is _. in_no_slots index name (eqb-true _ _ is)
      | false ↦ λ _ more. let k = any_is (λ k. eqb n (2 ^ k)) (below 32) more in in_a_power k.0 index name (eqb-true _ _ k.1) r.accepted
    ] refl r.size
