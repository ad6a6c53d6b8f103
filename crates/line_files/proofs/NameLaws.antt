-- The last part of a path.
use Rattle.std.proofs.Common.{◌≡◌, ◌+◌, ◌-◌, ◌<◌, ◌≤◌, ℕ, Bool, true, false, not, eqb, List, length, take, drop, get_or, refl, ap, ◌∙◌, arith, length-drop}
use Rattle.std.specs.List.{after_last, suffix_len}
use Rattle.std.proofs.lemmas.List.Sums.{suffix_len_is}
use Rattle.std.proofs.lemmas.List.{take_all}
use Rattle.memchr.specs.Find.{NoneAfter, Nowhere, Passes}

-- whether a byte is a slash
abbrev is_slash : ℕ → Bool
is_slash b = eqb b 47

not_true : (b : Bool) → (b ≡ true → ⊥) → not b ≡ true
not_true true h = absurd (h refl)
not_true false h = refl

-- all from n on are others, and a slash stands before n
part_from : (path : List ℕ) (n : ℕ) → n ≤ length path → Nowhere (Passes is_slash path) n (length path) → (0 < n → is_slash (get_or path (n - 1) 0) ≡ true) → drop n path ≡ after_last is_slash path
part_from path n within none slash =
    let others : suffix_len (λ b. not (is_slash b)) path ≡ length path - n = suffix_len_is (λ b. not (is_slash b)) path n 0 within (λ k low high. not_true (is_slash (get_or path k 0)) (none k low high)) (λ some. ap not (slash some)) in
    let place : length path - (length path - n) ≡ n = omega (arith, within) in
    rw (others, place) refl

-- behind the last slash
pub behind_slash : (path : List ℕ) (k : ℕ) → NoneAfter (Passes is_slash path) 0 (length path) k → Passes is_slash path k → take (length path - (k + 1)) (drop (k + 1) path) ≡ after_last is_slash path
behind_slash path k last here =
    let within : k + 1 ≤ length path = omega (arith, last.high) in
    let place : k + 1 - 1 ≡ k = omega arith in
    take_all (length path - (k + 1)) (drop (k + 1) path) (omega (arith, length-drop (k + 1) path)) ∙ part_from path (k + 1) within last.after (λ some. ap (λ (j : ℕ). is_slash (get_or path j 0)) place ∙ here)

-- a path without a slash
pub no_slash : (path : List ℕ) → Nowhere (Passes is_slash path) 0 (length path) → path ≡ after_last is_slash path
no_slash path none = part_from path 0 (omega arith) none (λ some. absurd (omega (arith, some)))
