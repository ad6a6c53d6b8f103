-- Numbers of one size that stand one after the other.
use Rattle.std.proofs.Common.{◌≡◌, ℕ, zero, suc, ◌+◌, ◌*◌, ◌/◌, ◌<◌, ◌≤◌, Bool, true, false, leb, cond, List, ◌∷◌, length, take, drop, map, min, get_or, Option, Some, None, refl, arith, ap, sym, ◌∙◌}
use Rattle.std.specs.List.{range_with_len}
use Rattle.std.proofs.lemmas.Bool.{le-leb, leb-true, leb-false, lt-leb}
use Rattle.std.proofs.lemmas.Option.{unwrap_or-slice_get, cond_some}
use Rattle.std.proofs.lemmas.List.{length-take, length-drop, get_or-take, get_or-drop, drop-drop}
use Rattle.std.proofs.lemmas.List.FromFn.{length-map-range_with_len, get_or-map-range_with_len}
use Rattle.common_laws.proofs.Options.{cond_none}
use Rattle.common_laws.proofs.Lists.{map_agree}
use Rattle.byteorder.specs.Endian.{little_from, little_number}
use Rattle.ix_base.specs.Reading.{Input, bytes, past, ◌>>=◌}
use Rattle.index_model.specs.Layout.{below, nth}
use Rattle.index_model.specs.NameTables.{Table, numbers, table}
use Rattle.index_model.specs.Strings.{offset_size}
use Rattle.debugnames_read.specs.declared.numbers.Numbers.{Numbers}
use Rattle.debugnames_read.specs.Numbers.{number_at, number_count, table_seen}

-- ---- one number

-- a number goes by its own bytes
same_little : (n i : ℕ) (xs ys : List ℕ) → ((k : ℕ) → k < i + n → get_or xs k 0 ≡ get_or ys k 0) → little_from i n xs ≡ little_from i n ys
same_little zero i xs ys same = refl
same_little (suc n) i xs ys same = rw (same i (omega arith), same_little n (suc i) xs ys (λ k lt. same k (omega (arith, lt)))) refl

-- a number inside the front is that of the whole
in_front : (size m k : ℕ) (xs : List ℕ) → size * k + size ≤ m → number_at size (take m xs) k ≡ number_at size xs k
in_front size m k xs le = same_little size 0 (drop (size * k) (take m xs)) (drop (size * k) xs) (λ i lt.
    get_or-drop (size * k) (take m xs) i 0
    ∙ get_or-take m xs (size * k + i) 0 (omega (arith, le, lt))
    ∙ sym (get_or-drop (size * k) xs i 0))

-- ---- numbers of one size

-- what is read, where the bytes are there
abbrev if_some : {A : Type 0} → Bool → A → Input → Option (A × Input)
if_some b x j = cond b (Some (x, j)) None

abbrev with_first : ℕ → Option (List ℕ × Input) → Option (List ℕ × Input)
with_first x r = r >>= λ others. Some (x ∷ others.0, others.1)

-- the first number, and the others
abbrev first_then : ℕ → ℕ → Option (ℕ × Input) → Option (List ℕ × Input)
first_then size n r = r >>= λ first. with_first first.0 (numbers size n first.1)

add_first : (x : ℕ) (c : Bool) (xs : List ℕ) (j : Input) → with_first x (if_some c xs j) ≡ if_some c (x ∷ xs) j
add_first x true xs j = refl
add_first x false xs j = refl

module _ (size : ℕ) (dist : (a b : ℕ) → size * (a + b) ≡ size * a + size * b) (i : Input) where
  start : past (size * 0) i ≡ i
  start =
      let none : size * 0 ≡ 0 = omega arith in
      rw none (ap (λ (at : ℕ). let own : Input = record { at = at; rest = i.rest } in own) (omega arith))

  next : (a : ℕ) → past size (past (size * a) i) ≡ past (size * (a + 1)) i
  next a =
      let e : size * (a + 1) ≡ size * a + size = omega (arith, dist a 1) in
      rw (e, drop-drop size (size * a) i.rest) (ap (λ (at : ℕ). let own : Input = record { at = at; rest = drop (size * a + size) i.rest } in own) (omega arith))

  abbrev numbers_from : ℕ → ℕ → Option (List ℕ × Input)
  numbers_from a n = if_some (leb (size * (a + n)) (length i.rest)) (map (number_at size i.rest) (range_with_len a n)) (past (size * (a + n)) i)

  from : (a n : ℕ) → size * a ≤ length i.rest → numbers size n (past (size * a) i) ≡ numbers_from a n
  unfolding numbers
  from a zero le =
      let e : a + 0 ≡ a = omega arith in
      rw (e, le-leb (size * a) (length i.rest) le) refl
  from a (suc n) le =
      let e : a + suc n ≡ a + 1 + n = omega arith in
      let m : size * (a + 1 + n) ≡ size * (a + 1) + size * n = dist (a + 1) n in
      let one : size * (a + 1) ≡ size * a + size = omega (arith, dist a 1) in
      elim (leb size (length (drop (size * a) i.rest))) as (λ b. leb size (length (drop (size * a) i.rest)) ≡ b → first_then size n (if_some b (little_from 0 size (drop (size * a) i.rest)) (past size (past (size * a) i))) ≡ numbers_from a (suc n)) [
        | true ↦ λ t.
            let long : size * (a + 1) ≤ length i.rest = omega (arith, one, le, leb-true size (length (drop (size * a) i.rest)) t, length-drop (size * a) i.rest) in
            rw (next a, from (a + 1) n long, e) (add_first (number_at size i.rest a) (leb (size * (a + 1 + n)) (length i.rest)) (map (number_at size i.rest) (range_with_len (a + 1) n)) (past (size * (a + 1 + n)) i))
        | false ↦ λ t.
            let short : length i.rest < size * (a + 1 + n) = omega (arith, one, m, le, leb-false size (length (drop (size * a) i.rest)) t, length-drop (size * a) i.rest) in
            rw (e, lt-leb (size * (a + 1 + n)) (length i.rest) short) refl
      ] refl

  all : (n : ℕ) → numbers size n i ≡ if_some (leb (size * n) (length i.rest)) (map (number_at size i.rest) (below n)) (past (size * n) i)
  all n =
      let none : size * 0 ≤ length i.rest = omega arith in
      let e : 0 + n ≡ n = omega arith in
      ap (numbers size n) (sym start) ∙ from 0 n none ∙ ap (λ (m : ℕ). if_some (leb (size * m) (length i.rest)) (map (number_at size i.rest) (below n)) (past (size * m) i)) e

-- ---- a table

dist_of : (wide : Bool) (a b : ℕ) → offset_size wide * (a + b) ≡ offset_size wide * a + offset_size wide * b
dist_of true a b = omega arith
dist_of false a b = omega arith

within_of : (wide : Bool) (k n : ℕ) → k < n → offset_size wide * k + offset_size wide ≤ offset_size wide * n
within_of true k n lt = omega (arith, lt)
within_of false k n lt = omega (arith, lt)

count_of : (wide : Bool) (n m : ℕ) → m ≡ offset_size wide * n → m / offset_size wide ≡ n
count_of true n m e = omega (arith, e)
count_of false n m e = omega (arith, e)

module _ (wide : Bool) (n : ℕ) (i : Input) where
  abbrev size : ℕ
  size = offset_size wide

  abbrev at_place : Option (List ℕ × Input) → Option (Table × Input)
  at_place r = r >>= λ ns. Some (record { at = i.at; numbers = ns.0 }, ns.1)

  by_length : table size n i ≡ at_place (if_some (leb (size * n) (length i.rest)) (map (number_at size i.rest) (below n)) (past (size * n) i))
  by_length = ap at_place (all size (dist_of wide) i n)

  pub no_table : bytes (size * n) i ≡ None → table size n i ≡ None
  no_table e = by_length ∙ rw (cond_none (leb (size * n) (length i.rest)) (take (size * n) i.rest, past (size * n) i) e) refl

  module _ (bs : List ℕ) (j : Input) (read : bytes (size * n) i ≡ Some (bs, j)) where
    parts : (leb (size * n) (length i.rest) ≡ true) × (◌≡◌ {A = List ℕ × Input} (take (size * n) i.rest, past (size * n) i) (bs, j))
    parts = cond_some (leb (size * n) (length i.rest)) (take (size * n) i.rest, past (size * n) i) (bs, j) read

    bytes_are : take (size * n) i.rest ≡ bs
    bytes_are = ap (λ (p : List ℕ × Input). p.0) parts.1

    rest_is : past (size * n) i ≡ j
    rest_is = ap (λ (p : List ℕ × Input). p.1) parts.1

    fits : size * n ≤ length i.rest
    fits = leb-true (size * n) (length i.rest) parts.0

    pub count_read : number_count wide bs ≡ n
    count_read =
        let e : length bs ≡ min (size * n) (length i.rest) = ap length (sym bytes_are) ∙ length-take (size * n) i.rest in
        count_of wide n (length bs) (omega (arith, e, fits))

    numbers_are : map (number_at size i.rest) (below n) ≡ map (number_at size bs) (below (number_count wide bs))
    numbers_are =
        map_agree (number_at size i.rest) (number_at size bs) 0 n (λ k lt. sym (in_front size (size * n) k i.rest (within_of wide k n (omega (arith, lt)))) ∙ ap (λ (xs : List ℕ). number_at size xs k) bytes_are)
        ∙ ap (λ (m : ℕ). map (number_at size bs) (below m)) (sym count_read)

    pub table_read : table size n i ≡ Some (record { at = i.at; numbers = map (number_at size bs) (below (number_count wide bs)) }, j)
    table_read = by_length ∙ rw (parts.0, numbers_are, rest_is) refl

-- ---- the numbers that are seen

pub length-seen : (t : Numbers) → length (table_seen t).numbers ≡ number_count t.wide t.bytes.now
length-seen t = length-map-range_with_len (number_at (offset_size t.wide) t.bytes.now) 0 (number_count t.wide t.bytes.now)

pub number_seen : (t : Numbers) (k : ℕ) → k < length (table_seen t).numbers → nth (table_seen t).numbers k ≡ number_at (offset_size t.wide) t.bytes.now k
number_seen t k lt = unwrap_or-slice_get (table_seen t).numbers k 0 ∙ get_or-map-range_with_len (number_at (offset_size t.wide) t.bytes.now) 0 (number_count t.wide t.bytes.now) k k 0 (omega (arith, lt, length-seen t)) (omega arith)

-- a number that is there lies in the bytes
pub inside : (wide : Bool) (k n : ℕ) → k < n / offset_size wide → offset_size wide * k + offset_size wide ≤ n
inside true k n lt = omega (arith, lt)
inside false k n lt = omega (arith, lt)

module _ (t : Numbers) (k : ℕ) (lt : k < length (table_seen t).numbers) where
  pub lies : offset_size t.wide * k + offset_size t.wide ≤ length t.bytes.now
  lies = inside t.wide k (length t.bytes.now) (omega (arith, lt, length-seen t))

pub eight : (wide : Bool) (xs : List ℕ) (k n : ℕ) → wide ≡ true → n ≡ offset_size wide * k → little_number 8 (drop n xs) ≡ number_at (offset_size wide) xs k
eight true xs k n e h = ap (λ (m : ℕ). little_number 8 (drop m xs)) h
eight false xs k n e h = absurd cc

pub four : (wide : Bool) (xs : List ℕ) (k n : ℕ) → wide ≡ false → n ≡ offset_size wide * k → little_number 4 (drop n xs) ≡ number_at (offset_size wide) xs k
four true xs k n e h = absurd cc
four false xs k n e h = ap (λ (m : ℕ). little_number 4 (drop m xs)) h

pub size_is : (wide : Bool) → wide ≡ true → offset_size wide ≡ 8
size_is true e = refl
size_is false e = absurd cc

pub narrow_size : (wide : Bool) → wide ≡ false → offset_size wide ≡ 4
narrow_size true e = absurd cc
narrow_size false e = refl
