-- The pairs of a set, read one after the other.
use Rattle.std.proofs.Common.{◌≡◌, ℕ, suc, ◌+◌, ◌/◌, ◌<◌, ◌≤◌, Bool, true, false, cond, not, leb, ltb, List, [], ◌∷◌, ◌++◌, length, take, drop, Option, Some, None, Result, Ok, Err, refl, sym, ap, subst, ◌∙◌, arith, append_assoc, append-nil, length-drop, add-one, inl, inr}
use Rattle.std.specs.Prelude.{option_map, position}
use Rattle.std.specs.List.{position_or_len}
use Rattle.std.proofs.lemmas.Bool.{leb-true, ltb-true, ltb-false, lt-ltb, le-ltb, le-leb, cases_lt}
use Rattle.std.proofs.lemmas.List.{drop-drop, map-append}
use Rattle.std.proofs.lemmas.Option.{cond_some, same_Some}
use mathlib.Core.Logic.{◌⊎◌}
use Rattle.byteorder.specs.Endian.{little_number}
use Rattle.ix_base.specs.declared.fault.Fault.{Fault}
use Rattle.ix_base.specs.Reading.{Input, number, past, ◌>>=◌ as ◌>>=?◌}
use Rattle.index_model.specs.declared.range.Range.{Range}
use Rattle.index_model.specs.declared.range.UnitRange.{UnitRange}
use Rattle.index_model.specs.Ranges.{is_kept}
use Rattle.index_model.specs.Meaning.{fault}
use Rattle.index_model.specs.Sections.{field}
use Rattle.index_model.proofs.Meanings.{bind_some}
use Rattle.reach_model.specs.declared.code.TheConstants.{ARANGES_NO_END}
use Rattle.reach_model.specs.AddressSets.{Pair, pairs, is_end, before_end, pairs_in, kept_ranges}
use Rattle.aranges_read.specs.Sets.{next_pair, of_unit, with_pairs}

-- ---- the first that ends a set

position_first : {A : Type 0} (p : A → Bool) (x : A) (xs : List A) → position p (x ∷ xs) ≡ cond (p x) (Some 0) (option_map (λ n. n + 1) (position p xs))
position_first p x xs = by (p x)
  where
    at : ℕ → ℕ → Option ℕ
    at k n = cond (ltb k n) (Some k) None

    later : (k n : ℕ) (c : Bool) → ltb k n ≡ c → at (1 + k) (suc n) ≡ option_map (λ m. m + 1) (cond c (Some k) None)
    later k n true is = let lt : k < n = ltb-true k n is in rw (lt-ltb (1 + k) (suc n) (omega arith)) (ap (λ (m : ℕ). Some m) (let e : 1 + k ≡ k + 1 = omega arith in e))
    later k n false is = let le : n ≤ k = ltb-false k n is in rw (le-ltb (1 + k) (suc n) (omega arith)) refl

    first : (n : ℕ) → at 0 (suc n) ≡ Some 0
    first n = rw (lt-ltb 0 (suc n) (omega arith)) refl

    by : (b : Bool) → at (cond (not b) (1 + position_or_len p xs) 0) (suc (length xs)) ≡ cond b (Some 0) (option_map (λ n. n + 1) (position p xs))
    by true = first (length xs)
    by false = later (position_or_len p xs) (length xs) (ltb (position_or_len p xs) (length xs)) refl

-- the pairs before the end are none, or the first and those behind it
end_first : (p : Pair) (ps : List Pair) → before_end (p ∷ ps) ≡ cond (is_end p) (Some []) (option_map (λ qs. p ∷ qs) (before_end ps))
end_first p ps = ap (option_map (λ n. take n (p ∷ ps))) (position_first is_end p ps) ∙ by (is_end p) (position is_end ps)
  where
    one : (n : ℕ) → take (n + 1) (p ∷ ps) ≡ p ∷ take n ps
    one n = rw add-one refl

    by : (b : Bool) (o : Option ℕ) → option_map (λ n. take n (p ∷ ps)) (cond b (Some 0) (option_map (λ n. n + 1) o)) ≡ cond b (Some []) (option_map (λ qs. p ∷ qs) (option_map (λ n. take n ps) o))
    by true o = refl
    by false None = refl
    by false (Some n) = ap (λ (qs : List Pair). Some qs) (one n)

-- ---- the pairs in bytes

-- the pair in the first 16 bytes
abbrev pub pair_in : List ℕ → Pair
pair_in bytes = record { address = field 8 0 bytes; length = field 8 8 bytes }

pub none_in : (bytes : List ℕ) → length bytes < 16 → pairs_in bytes ≡ None
unfolding pairs
none_in bytes lt = let none : length bytes / 16 ≡ 0 = omega (arith, lt) in rw none refl

more_pairs : (bytes : List ℕ) (n : ℕ) → pairs (suc n) bytes ≡ pair_in bytes ∷ pairs n (drop 16 bytes)
unfolding pairs
more_pairs bytes n = refl

pub first_in : (bytes : List ℕ) → 16 ≤ length bytes → pairs_in bytes ≡ cond (is_end (pair_in bytes)) (Some []) (option_map (λ qs. pair_in bytes ∷ qs) (pairs_in (drop 16 bytes)))
first_in bytes le =
    let one : length bytes / 16 ≡ suc (length (drop 16 bytes) / 16) = omega (arith, le, length-drop 16 bytes) in
    ap (λ (n : ℕ). before_end (pairs n bytes)) one ∙ ap before_end (more_pairs bytes (length (drop 16 bytes) / 16)) ∙ end_first (pair_in bytes) (pairs (length (drop 16 bytes) / 16) (drop 16 bytes))

-- ---- the pair at the front

drop_none : (bytes : List ℕ) → drop 0 bytes ≡ bytes
drop_none [] = refl
drop_none (b ∷ bytes) = refl

address_in : (bytes : List ℕ) → little_number 8 bytes ≡ field 8 0 bytes
unfolding field
address_in bytes = ap (little_number 8) (sym (drop_none bytes))

length_in : (bytes : List ℕ) → little_number 8 (drop 8 bytes) ≡ field 8 8 bytes
unfolding field
length_in bytes = refl

number_is : (n : ℕ) (j : Input) (x : ℕ × Input) → number n j ≡ Some x → (n ≤ length j.rest) × (x ≡ (little_number n j.rest, past n j))
number_is n j x h = let p = cond_some (leb n (length j.rest)) (little_number n j.rest, past n j) x h in (leb-true _ _ p.0, sym p.1)

pub record IsFirst (i : Input) (p : Pair) (next : Input) : Type 0 where
  pub there : 16 ≤ length i.rest
  pub is : p ≡ pair_in i.rest
  pub rest : next.rest ≡ drop 16 i.rest

pub no_pair : (i : Input) → next_pair i ≡ None → length i.rest < 16
no_pair i none = by (cases_lt (length i.rest) 16)
  where
    whole : 16 ≤ length i.rest → next_pair i ≡ None → ⊥
    whole le is =
        let one : leb 8 (length i.rest) ≡ true = le-leb 8 (length i.rest) (omega (arith, le)) in
        let two : leb 8 (length (drop 8 i.rest)) ≡ true = le-leb 8 (length (drop 8 i.rest)) (omega (arith, le, length-drop 8 i.rest)) in
        absurd (let h = rw (one, two) at is in cc)

    by : (length i.rest < 16) ⊎ (16 ≤ length i.rest) → length i.rest < 16
    by (inl lt) = lt
    by (inr le) = absurd (whole le none)

pub is_first : (i : Input) (p : Pair) (next : Input) → next_pair i ≡ Some (p, next) → IsFirst i p next
is_first i p next is =
    let a = bind_some (number 8 i) (λ address. number 8 address.1 >>=? λ size. Some (record { address = address.0; length = size.0 }, size.1)) (p, next) is in
    let b = bind_some (number 8 a.0.1) (λ size. Some (record { address = a.0.0; length = size.0 }, size.1)) (p, next) a.2 in
    let first = number_is 8 i a.0 a.1 in
    let second = number_is 8 a.0.1 b.0 b.1 in
    let made : Pair × Input = (record { address = a.0.0; length = b.0.0 }, b.0.1) in
    let same : made ≡ (p, next) = same_Some made (p, next) b.2 in
    let behind : a.0.1.rest ≡ drop 8 i.rest = ap (λ (x : ℕ × Input). x.1.rest) first.1 in
    let address : a.0.0 ≡ field 8 0 i.rest = ap (λ (x : ℕ × Input). x.0) first.1 ∙ address_in i.rest in
    let size : b.0.0 ≡ field 8 8 i.rest = ap (λ (x : ℕ × Input). x.0) second.1 ∙ ap (little_number 8) behind ∙ length_in i.rest in
    let rest : b.0.1.rest ≡ drop 16 i.rest = ap (λ (x : ℕ × Input). x.1.rest) second.1 ∙ ap (drop 8) behind ∙ drop-drop 8 8 i.rest in
    let there : 16 ≤ length i.rest = omega (arith, first.0, second.0, ap length behind, length-drop 8 i.rest) in
    subst (λ (x : Pair × Input). IsFirst i x.0 x.1) same (record { there = there; is = λ j. record { address = address j; length = size j }; rest = rest })

-- ---- the ranges of pairs

module _ (unit place : ℕ) where
  with_none : (front : List UnitRange) → with_pairs front unit place None ≡ Err (fault ARANGES_NO_END place)
  with_none front = refl

  with_end : (front : List UnitRange) → with_pairs front unit place (Some []) ≡ Ok front
  with_end front = ap (λ (rs : List UnitRange). Ok rs) (append-nil front)

  abbrev range_of : Pair → Range
  range_of p = record { low = p.address; end = p.address + p.length }

  kept_first : (p : Pair) (ps : List Pair) → kept_ranges (p ∷ ps) ≡ kept_ranges (p ∷ []) ++ kept_ranges ps
  kept_first p ps = by (is_kept (range_of p))
    where
      by : (b : Bool) → cond b (range_of p ∷ kept_ranges ps) (kept_ranges ps) ≡ cond b (range_of p ∷ []) [] ++ kept_ranges ps
      by true = refl
      by false = refl

  with_first : (front : List UnitRange) (p : Pair) (o : Option (List Pair)) → with_pairs front unit place (option_map (λ qs. p ∷ qs) o) ≡ with_pairs (front ++ of_unit unit (kept_ranges (p ∷ []))) unit place o
  with_first front p None = refl
  with_first front p (Some ps) = ap (λ (rs : List UnitRange). Ok rs) (
      ap (λ (rs : List Range). front ++ of_unit unit rs) (kept_first p ps)
      ∙ ap (λ (rs : List UnitRange). front ++ rs) (map-append (λ (r : Range). record { unit = unit; range = r }) (kept_ranges (p ∷ [])) (kept_ranges ps))
      ∙ sym (append_assoc front (of_unit unit (kept_ranges (p ∷ []))) (of_unit unit (kept_ranges ps))))

  -- ---- the pairs that are left in an input

  module _ (front : List UnitRange) (i : Input) where
    abbrev left : Result (List UnitRange) Fault
    left = with_pairs front unit place (pairs_in i.rest)

    pub at_none : next_pair i ≡ None → left ≡ Err (fault ARANGES_NO_END place)
    at_none none = ap (with_pairs front unit place) (none_in i.rest (no_pair i none))

    module _ (p : Pair) (next : Input) (is : next_pair i ≡ Some (p, next)) where
      abbrev from_first : Pair → List ℕ → Option (List Pair)
      from_first q behind = cond (is_end q) (Some []) (option_map (λ qs. q ∷ qs) (pairs_in behind))

      by_test : (b : Bool) → is_end p ≡ b → pairs_in i.rest ≡ cond b (Some []) (option_map (λ qs. p ∷ qs) (pairs_in next.rest))
      by_test b test =
          let f = is_first i p next is in
          first_in i.rest f.there ∙ ap (λ (q : Pair). from_first q (drop 16 i.rest)) (sym f.is) ∙ ap (from_first p) (sym f.rest)
          ∙ ap (λ (d : Bool). cond d (Some []) (option_map (λ qs. p ∷ qs) (pairs_in next.rest))) test

      pub at_end : is_end p ≡ true → left ≡ Ok front
      at_end test = ap (with_pairs front unit place) (by_test true test) ∙ with_end front

      pub at_pair : is_end p ≡ false → left ≡ with_pairs (front ++ of_unit unit (kept_ranges (p ∷ []))) unit place (pairs_in next.rest)
      at_pair test = ap (with_pairs front unit place) (by_test false test) ∙ with_first front p (pairs_in next.rest)
