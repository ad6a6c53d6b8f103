-- Numbers of 4 bytes that stand one after the other, and the vectors that are made of them.
use Rattle.std.proofs.Common.{◌≡◌, ℕ, ◌+◌, ◌-◌, ◌*◌, ◌/◌, ◌%◌, ◌^◌, ◌<◌, ◌≤◌, bit_and, Bool, true, false, ◌&&◌, leb, ltb, cond, List, length, take, drop, map, min, get_or, Some, None, refl, arith, ap, sym, ◌∙◌}
use Rattle.std.specs.List.{list_all}
use Rattle.std.proofs.lemmas.Bool.{le-leb, leb-true, leb-false, lt-leb, and_right}
use Rattle.std.proofs.lemmas.List.{length-take, length-drop, get_or-take, get_or-drop, drop-drop, drop_more, drop_all}
use Rattle.std.proofs.lemmas.List.FromFn.{length-map-range_with_len, get_or-map-range_with_len}
use Rattle.std.proofs.lemmas.Nat.{and_mask}
use Rattle.std.proofs.lemmas.Option.{cond_some}
use Rattle.common_laws.proofs.Options.{cond_none}
use Rattle.common_laws.proofs.Lists.{map_agree}
use Rattle.byteorder.specs.Endian.{little_number}
use Rattle.ix_base.specs.Reading.{Input, bytes, number, past, input}
use Rattle.index_model.specs.Layout.{below, field}
use Rattle.gdbindex_read.specs.Pool.{vector_in, elements_seen}

-- ---- one number

four : (xs ys : List ℕ) → ((i : ℕ) → i < 4 → get_or xs i 0 ≡ get_or ys i 0) → little_number 4 xs ≡ little_number 4 ys
four xs ys same = rw (same 0 (omega arith), same 1 (omega arith), same 2 (omega arith), same 3 (omega arith)) refl

-- a number inside a part is that of the whole
in_part : (xs : List ℕ) (from size k : ℕ) → 4 * k + 4 ≤ size → field 4 (4 * k) (take size (drop from xs)) ≡ field 4 (from + 4 * k) xs
in_part xs from size k le = four (drop (4 * k) (take size (drop from xs))) (drop (from + 4 * k) xs) (λ i lt.
    get_or-drop (4 * k) (take size (drop from xs)) i 0
    ∙ get_or-take size (drop from xs) (4 * k + i) 0 (omega (arith, le, lt))
    ∙ get_or-drop from xs (4 * k + i) 0
    ∙ ap (λ (j : ℕ). get_or xs j 0) (shift i)
    ∙ sym (get_or-drop (from + 4 * k) xs i 0))
  where
    shift : (i : ℕ) → from + (4 * k + i) ≡ from + 4 * k + i
    shift i = omega arith

-- ---- a vector

module _ (pool : List ℕ) (offset : ℕ) where
  -- what a vector of so many elements is
  abbrev elements : ℕ → List ℕ
  elements count = map (λ k. field 4 (offset + 4 + 4 * k) pool) (below (cond (leb (4 * count) (length pool)) count 0))

  abbrev inside : ℕ → Bool
  inside count = leb (offset + 4) (length pool) && leb (offset + 4 + 4 * count) (length pool)

  unfit : inside (field 4 offset pool) ≡ false → vector_in pool offset ≡ None
  unfit e = rw e refl

  pub past_the_pool : length pool < offset → vector_in pool offset ≡ None
  past_the_pool lt = unfit (rw (lt-leb (offset + 4) (length pool) (omega (arith, lt))) refl)

  pub no_count : offset ≤ length pool → number 4 (input pool offset) ≡ None → vector_in pool offset ≡ None
  no_count le e =
      let short = leb-false 4 (length (drop offset pool)) (cond_none (leb 4 (length (drop offset pool))) (little_number 4 (drop offset pool), past 4 (input pool offset)) e) in
      unfit (rw (lt-leb (offset + 4) (length pool) (omega (arith, short, length-drop offset pool, le))) refl)

  module _ (le : offset ≤ length pool) (count : ℕ) (i : Input) (read : number 4 (input pool offset) ≡ Some (count, i)) where
    parts : (leb 4 (length (drop offset pool)) ≡ true) × (◌≡◌ {A = ℕ × Input} (little_number 4 (drop offset pool), past 4 (input pool offset)) (count, i))
    parts = cond_some (leb 4 (length (drop offset pool))) (little_number 4 (drop offset pool), past 4 (input pool offset)) (count, i) read

    count_is : field 4 offset pool ≡ count
    count_is = ap (λ (p : ℕ × Input). p.0) parts.1

    rest_is : drop 4 (drop offset pool) ≡ i.rest
    rest_is = ap (λ (p : ℕ × Input). p.1.rest) parts.1

    long : offset + 4 ≤ length pool
    long = omega (arith, leb-true 4 (length (drop offset pool)) parts.0, length-drop offset pool, le)

    length-rest : length i.rest ≡ length pool - offset - 4
    length-rest = ap length (sym rest_is) ∙ length-drop 4 (drop offset pool) ∙ ap (λ (n : ℕ). n - 4) (length-drop offset pool)

    pub no_elements : bytes (4 * count) i ≡ None → vector_in pool offset ≡ None
    no_elements e =
        let short = leb-false (4 * count) (length i.rest) (cond_none (leb (4 * count) (length i.rest)) (take (4 * count) i.rest, past (4 * count) i) e) in
        let out : leb (offset + 4 + 4 * count) (length pool) ≡ false = lt-leb (offset + 4 + 4 * count) (length pool) (omega (arith, short, length-rest, long)) in
        unfit (and_right (leb (offset + 4) (length pool)) _ (ap (λ (n : ℕ). leb (offset + 4 + 4 * n) (length pool)) count_is ∙ out))

    module _ (bs : List ℕ) (j : Input) (taken : bytes (4 * count) i ≡ Some (bs, j)) where
      some : (leb (4 * count) (length i.rest) ≡ true) × (◌≡◌ {A = List ℕ × Input} (take (4 * count) i.rest, past (4 * count) i) (bs, j))
      some = cond_some (leb (4 * count) (length i.rest)) (take (4 * count) i.rest, past (4 * count) i) (bs, j) taken

      fits : 4 * count ≤ length i.rest
      fits = leb-true (4 * count) (length i.rest) some.0

      bs_are : bs ≡ take (4 * count) (drop 4 (drop offset pool))
      bs_are = sym (ap (λ (p : List ℕ × Input). p.0) some.1) ∙ ap (take (4 * count)) (sym rest_is)

      pub length-bytes : length bs ≡ 4 * count
      length-bytes = ap length (sym (ap (λ (p : List ℕ × Input). p.0) some.1)) ∙ length-take (4 * count) i.rest ∙ least
        where
          least : min (4 * count) (length i.rest) ≡ 4 * count
          least = omega (arith, fits)

      same : (k : ℕ) → k < 0 + count → field 4 (4 * k) bs ≡ field 4 (offset + 4 + 4 * k) pool
      same k lt =
          ap (field 4 (4 * k)) (bs_are ∙ ap (take (4 * count)) (drop-drop 4 offset pool))
          ∙ in_part pool (offset + 4) (4 * count) k (omega (arith, lt))

      count_of : length bs / 4 ≡ count
      count_of = omega (arith, length-bytes)

      pub vector_found : vector_in pool offset ≡ Some (elements_seen bs)
      vector_found =
          let first : leb (offset + 4) (length pool) ≡ true = le-leb (offset + 4) (length pool) long in
          let last : leb (offset + 4 + 4 * count) (length pool) ≡ true = le-leb (offset + 4 + 4 * count) (length pool) (omega (arith, fits, length-rest, long)) in
          let few : leb (4 * count) (length pool) ≡ true = le-leb (4 * count) (length pool) (omega (arith, fits, length-rest, long)) in
          let seen : elements_seen bs ≡ map (λ k. field 4 (offset + 4 + 4 * k) pool) (below count) = ap (λ (n : ℕ). map (λ k. field 4 (4 * k) bs) (below n)) count_of ∙ map_agree (λ k. field 4 (4 * k) bs) (λ k. field 4 (offset + 4 + 4 * k) pool) 0 count same in
          rw (count_is, first, last, few) (ap (λ (xs : List ℕ). Some xs) (sym seen))

-- ---- whether all elements pass

module _ (p : ℕ → Bool) (xs : List ℕ) (i : ℕ) where
  pub all_more : i < length xs → p (get_or xs i 0) ≡ true → list_all p (drop i xs) ≡ list_all p (drop (i + 1) xs)
  all_more lt e = rw (drop_more xs i 0 lt, e) refl

  pub all_here : i < length xs → p (get_or xs i 0) ≡ false → list_all p (drop i xs) ≡ false
  all_here lt e = rw (drop_more xs i 0 lt, e) refl

  pub all_none : length xs ≤ i → list_all p (drop i xs) ≡ true
  all_none le = rw (drop_all i xs le) refl

-- ---- the elements that are seen

pub length-seen : (bs : List ℕ) → length (elements_seen bs) ≡ length bs / 4
length-seen bs = length-map-range_with_len (λ k. field 4 (4 * k) bs) 0 (length bs / 4)

pub element : (bs : List ℕ) (i : ℕ) → i < length (elements_seen bs) → get_or (elements_seen bs) i 0 ≡ field 4 (4 * i) bs
element bs i lt = get_or-map-range_with_len (λ k. field 4 (4 * k) bs) 0 (length bs / 4) i i 0 (omega (arith, lt, length-seen bs)) (omega arith)

-- ---- the unit of an element

pub unit_is : (n units : ℕ) → ltb (bit_and n 16777215) units ≡ ltb (n % 2 ^ 24) units
unit_is n units = ap (λ (k : ℕ). ltb k units) (and_mask n 24)
