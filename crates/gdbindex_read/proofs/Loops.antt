-- What a loop over numbered items has left to do.
use Rattle.std.proofs.Common.{◌≡◌, ℕ, ◌+◌, ◌/◌, ◌<◌, ◌≤◌, Bool, true, false, cond, List, [], ◌∷◌, length, map, find, Option, Some, None, Result, Ok, Err, refl, ap, sym, ◌∙◌}
use Rattle.std.specs.List.{range_with_len}
use Rattle.common_laws.proofs.Ranges.{up_to, up_to_more, up_to_none, up_to_all}
use Rattle.ix_base.specs.declared.fault.Fault.{Fault}
use Rattle.ix_base.specs.Reading.{Input}
use Rattle.index_model.specs.GdbAreas.{items}
use Rattle.gdbindex_read.specs.Areas.{item}
use Rattle.index_model.specs.Meaning.{◌>>=◌, each, wrong_in}
use Rattle.index_model.proofs.FirstFaults.{then_none, then_some}

-- ---- a fault of one of them

module _ {A B : Type 0} (f : A → Result B Fault) (g : ℕ → A) where
  -- the first fault of the items from i up to n
  abbrev pub fault_from : ℕ → ℕ → Option Fault
  fault_from i n = wrong_in (each f (map g (up_to i n)))

  abbrev at_items : List ℕ → Option Fault
  at_items ks = wrong_in (each f (map g ks))

  pub fault_from_all : (n : ℕ) → fault_from 0 n ≡ wrong_in (each f (map g (range_with_len 0 n)))
  fault_from_all n = ap at_items (up_to_all n)

  pub fault_from_more : (i n : ℕ) → i < n → wrong_in (f (g i)) ≡ None → fault_from i n ≡ fault_from (i + 1) n
  fault_from_more i n lt e = ap at_items (up_to_more i n lt) ∙ then_none (f (g i)) (each f (map g (up_to (i + 1) n))) e

  pub fault_from_here : (i n : ℕ) (d : Fault) → i < n → wrong_in (f (g i)) ≡ Some d → fault_from i n ≡ Some d
  fault_from_here i n d lt e = ap at_items (up_to_more i n lt) ∙ then_some (f (g i)) (each f (map g (up_to (i + 1) n))) d e

  pub fault_from_none : (i n : ℕ) → n ≤ i → fault_from i n ≡ None
  fault_from_none i n le = ap at_items (up_to_none i n le)

  -- where none has a fault, the values are those that h gives
  pub each_is : (h : A → B) → ((x : A) (y : B) → f x ≡ Ok y → y ≡ h x) → (ks : List ℕ) → wrong_in (each f (map g ks)) ≡ None → each f (map g ks) ≡ Ok (map (λ k. h (g k)) ks)
  each_is h is [] e = refl
  each_is h is (k ∷ ks) e = by (f (g k)) (each f (map g ks)) (is (g k)) (each_is h is ks) e
    where
      by : (r : Result B Fault) (rest : Result (List B) Fault) → ((y : B) → r ≡ Ok y → y ≡ h (g k)) → (wrong_in rest ≡ None → rest ≡ Ok (map (λ j. h (g j)) ks)) → wrong_in (r >>= λ y. rest >>= λ ys. Ok (y ∷ ys)) ≡ None → (r >>= λ y. rest >>= λ ys. Ok (y ∷ ys)) ≡ Ok (h (g k) ∷ map (λ j. h (g j)) ks)
      by (Ok y) (Ok ys) here later e = let first : y ≡ h (g k) = here y refl in let others = later refl in let same : ys ≡ map (λ j. h (g j)) ks = cc in rw (first, same) refl
      by (Ok y) (Err d) here later e = absurd cc
      by (Err d) rest here later e = absurd cc

-- the first fault of the items of an area
pub all_items : {B : Type 0} (f : Input → Result B Fault) (n : ℕ) (area : Input) (count : ℕ) → count ≡ length area.rest / n → fault_from f (item n area) 0 count ≡ wrong_in (each f (items n area))
all_items f n area count e = fault_from_all f (item n area) count ∙ ap (λ (m : ℕ). wrong_in (each f (map (item n area) (range_with_len 0 m)))) e

-- a meaning with this fault
pub err_of : {A : Type 0} (r : Result A Fault) (d : Fault) → Some d ≡ wrong_in r → r ≡ Err d
err_of (Ok x) d e = absurd cc
err_of (Err x) d e = let same : d ≡ x = cc in ap (λ (y : Fault). Err y) (sym same)

-- ---- the first of them that passes

module _ {A : Type 0} (p : A → Bool) (g : ℕ → A) where
  -- the first of the items from i up to n that passes
  abbrev pub found_from : ℕ → ℕ → Option A
  found_from i n = find p (map g (up_to i n))

  abbrev among : List ℕ → Option A
  among ks = find p (map g ks)

  skip : (b : Bool) (x : A) (rest : Option A) → b ≡ false → cond b (Some x) rest ≡ rest
  skip b x rest e = rw e refl

  stop : (b : Bool) (x : A) (rest : Option A) → b ≡ true → cond b (Some x) rest ≡ Some x
  stop b x rest e = rw e refl

  pub found_from_all : (n : ℕ) → found_from 0 n ≡ find p (map g (range_with_len 0 n))
  found_from_all n = ap among (up_to_all n)

  pub found_from_more : (i n : ℕ) → i < n → p (g i) ≡ false → found_from i n ≡ found_from (i + 1) n
  found_from_more i n lt e = ap among (up_to_more i n lt) ∙ skip (p (g i)) (g i) (found_from (i + 1) n) e

  pub found_from_here : (i n : ℕ) → i < n → p (g i) ≡ true → found_from i n ≡ Some (g i)
  found_from_here i n lt e = ap among (up_to_more i n lt) ∙ stop (p (g i)) (g i) (found_from (i + 1) n) e

  pub found_from_none : (i n : ℕ) → n ≤ i → found_from i n ≡ None
  found_from_none i n le = ap among (up_to_none i n le)
