-- The places that were read can be searched once they are sorted.
use Rattle.std.proofs.Common.{[], ◌≡◌, ℕ, zero, suc, ◌+◌, ◌-◌, ◌<◌, ◌≤◌, ◌⊎◌, inl, inr, Bool, false, List, length, get_or, IsPermutation, is_lt, nat_cmp, add-one, sym, ap, ◌∙◌, arith}
use Rattle.std.specs.Ordering.{ordering_then}
use Rattle.std.proofs.lemmas.Bool.Decides.{nat_tests}
use Rattle.std.proofs.lemmas.List.Sorted.{All-permutation, Contains-permutation, length_permutation}
use Rattle.entry_scan.specs.declared.abbreviation.AbbrevHead.{AbbrevHead}
use Rattle.entry_scan.specs.declared.abbreviation.CodeIndex.{CodeIndex}
use Rattle.entry_scan.specs.AbbreviationTables.{place_at, in_front, IsSplit, IsSearchable, IsBefore}

-- how places are compared
abbrev place_cmp : CodeIndex → CodeIndex → Bool
place_cmp x y = is_lt (ordering_then (nat_cmp x.code y.code) (nat_cmp x.index y.index))

-- what a sort ensures
abbrev pub IsSortedPlaces : List CodeIndex → Type 0
IsSortedPlaces places = (k : ℕ) (d : CodeIndex) → 0 ≤ k → k + 1 < length places → place_cmp (get_or places (k + 1) d) (get_or places k d) ≡ false

not_less_code : (a b c d : ℕ) → is_lt (ordering_then (nat_cmp a c) (nat_cmp b d)) ≡ false → c ≤ a
not_less_code a b c d h = grind (arith, nat_tests)

not_less_index : (a b c d : ℕ) → is_lt (ordering_then (nat_cmp a c) (nat_cmp b d)) ≡ false → c ≡ a → d ≤ b
not_less_index a b c d h e = grind (arith, nat_tests)

before_next : (places : List CodeIndex) → IsSortedPlaces places → (k : ℕ) (d : CodeIndex) → suc k < length places → IsBefore (get_or places k d) (get_or places (suc k) d)
before_next places sorted k d lt =
    let next = sorted k d (omega arith) (omega arith) in
    let h = rw add-one at next in
    let x = get_or places k d in
    let y = get_or places (suc k) d in
    record { code = not_less_code y.code y.index x.code x.index h; index = not_less_index y.code y.index x.code x.index h }

before_self : (x : CodeIndex) → IsBefore x x
before_self x = record { code = omega arith; index = λ e. omega arith }

before_both : (x y z : CodeIndex) → IsBefore x y → IsBefore y z → IsBefore x z
before_both x y z p q =
    let c = p.code in
    let e = q.code in
    record { code = omega arith; index = λ same. let a = p.index (omega arith) in let b = q.index (omega arith) in omega arith }

either : (i j : ℕ) → i ≤ suc j → (i ≤ j) ⊎ (i ≡ suc j)
either i j le = grind arith

in_order : (places : List CodeIndex) → IsSortedPlaces places → (j i : ℕ) (d : CodeIndex) → i ≤ j → j < length places → IsBefore (get_or places i d) (get_or places j d)
in_order places sorted zero i d le lt = let e : i ≡ 0 = omega arith in rw e (before_self _)
in_order places sorted (suc j) i d le lt =
    elim (either i j le) [
      | inl near ↦ before_both _ (get_or places j d) _ (in_order places sorted j i d near (omega arith)) (before_next places sorted j d lt)
      | inr e ↦ rw e (before_self _)
    ]

-- a place says where a head is, and what code that has
abbrev Says : List AbbrevHead → CodeIndex → Type 0
Says heads o = (o.index < length heads) × ((d : AbbrevHead) → (get_or heads o.index d).code ≡ o.code)

place_says : (heads : List AbbrevHead) (o : CodeIndex) (k : ℕ) → k < length heads → ((d : AbbrevHead) → o ≡ place_at heads k d) → Says heads o
place_says heads o k lt is =
    let d : AbbrevHead = record { code = 0; tag = 0; start = 0; end = 0; front = record { count = 0; bytes = 0 }; marks = record { bits = 0 }; jumps = record { slots = [] }; children = false } in
    let index : o.index ≡ k = ap (λ (p : CodeIndex). p.index) (is d) in
    (omega arith, λ e. rw index (sym (ap (λ (p : CodeIndex). p.code) (is e))))

pub searchable : (heads : List AbbrevHead) (others sorted : List CodeIndex) → IsSplit heads others → IsPermutation others sorted → IsSortedPlaces sorted → IsSearchable heads sorted
searchable heads others sorted split permutation order =
    let same : length sorted ≡ length others = length_permutation others sorted permutation in
    let front : in_front heads sorted ≡ in_front heads others = ap (λ n. length heads - n) same in
    let fewer = split.fewer in
    record {
      fewer = omega arith;
      front = λ k d lt. split.front k d (omega arith);
      each = All-permutation (Says heads) others sorted permutation (λ k e lt. place_says heads (get_or others k e) (in_front heads others + k) (omega arith) (λ d. split.behind k d e lt));
      all = λ k d from lt. Contains-permutation others sorted (place_at heads k d) permutation
          (let at : in_front heads others + (k - in_front heads others) ≡ k = omega arith in
          (k - in_front heads others, omega arith, split.behind (k - in_front heads others) d (place_at heads k d) (omega arith) ∙ ap (λ n. place_at heads n d) at));
      sorted = λ i j d le lt. in_order sorted order j i d le lt;
    }
