-- A string that is read from its end towards the front.
use Rattle.std.proofs.Common.{◌≡◌, ◌≢◌, ℕ, ◌+◌, ◌-◌, ◌*◌, ◌^◌, ◌%◌, ◌<◌, Bool, true, false, cond, eqb, List, [], ◌∷◌, length, drop, get_or, set, replicate, Option, Some, None, inl, inr, refl, sym, ap, subst, ◌∙◌, arith}
use mathlib.Core.Bool.{true≢false}
use Rattle.std.proofs.lemmas.Bool.{cases_lt, le-leb, eq-eqb, eqb-true, ne_eqb}
use Rattle.std.proofs.lemmas.Bool.Decides.{nat_tests}
use Rattle.std.proofs.lemmas.List.{drop_more, length-set, length-replicate, get_or-replicate, get_or-set_same, get_or-set_other, get_or_past}
use Rattle.std.proofs.Math.Nat.{mod-add-mod}
use Rattle.ix_base.specs.Reading.{before_zero}
use Rattle.string_ends.specs.declared.formula.Formula.{Formula}
use Rattle.string_ends.specs.declared.hashed.Hashed.{Hashed}
use Rattle.string_ends.specs.declared.tail.Tail.{Tail}
use Rattle.string_ends.specs.Formulas.{sum_by, weight}
use Rattle.string_ends.specs.Tails.{AreHashed, IsHashed, IsTail, print_of}
use Rattle.string_ends.specs.Texts.{text_in}
use Rattle.string_ends.proofs.HashLaws.{times_remainder}
use Rattle.string_ends.proofs.TextLaws.{zero_first, byte_first, text_from, text_inside}

module _ (strings : List ℕ) (at : ℕ) (within : at < length strings) where
  abbrev byte : ℕ
  byte = get_or strings at 0

  opened : drop at strings ≡ byte ∷ drop (at + 1) strings
  opened = drop_more strings at 0 within

  here : (o : Option (List ℕ)) → before_zero (drop at strings) ≡ o → text_in strings at ≡ o
  here o e = ap (λ (b : Bool). cond b (before_zero (drop at strings)) None) (le-leb at (length strings) (omega (arith, within))) ∙ e

  pub empty_there : byte ≡ 0 → text_in strings at ≡ Some []
  empty_there e = here (Some []) (ap before_zero opened ∙ zero_first byte (drop (at + 1) strings) (eq-eqb byte 0 e))

  pub longer_there : (text : List ℕ) → (byte ≡ 0 → ⊥) → text_in strings (at + 1) ≡ Some text → text_in strings at ≡ Some (byte ∷ text)
  longer_there text other e = here (Some (byte ∷ text)) (ap before_zero opened ∙ byte_first byte (drop (at + 1) strings) text (ne_eqb byte 0 other) (text_from strings text (at + 1) e))

-- a string with no bytes
pub no_bytes : (formula : Formula) (strings : List ℕ) (at : ℕ) (t : Tail) → t ≡ record { at = at; sum = 0; weight = 1; print = 0; is_beyond_ascii = false } → text_in strings at ≡ Some [] → IsTail formula strings t
no_bytes formula strings at t is there = record {
  text = [];
  there = ap (λ (x : Tail). text_in strings x.at) is ∙ there;
  sum = ap (λ (x : Tail). x.sum) is;
  weight = ap (λ (x : Tail). x.weight) is;
  print = ap (λ (x : Tail). x.print) is;
  beyond = ap (λ (x : Tail). x.is_beyond_ascii) is;
}

-- a byte more
pub sum_more : (m : ℕ) (term : ℕ → ℕ) (b : ℕ) (bs : List ℕ) (t w s x y : ℕ) → t ≡ term b % 2 ^ 32 → w ≡ weight m bs → s ≡ sum_by m term bs → x ≡ (t * w) % 2 ^ 32 → y ≡ (x + s) % 2 ^ 32 → y ≡ sum_by m term (b ∷ bs)
sum_more m term b bs t w s x y is ws ss xs ys =
    ys ∙ ap (λ (k : ℕ). (k + s) % 2 ^ 32) xs ∙ mod-add-mod (t * w) (2 ^ 32) s
    ∙ (λ i. (is i * ws i + ss i) % 2 ^ 32) ∙ times_remainder (term b) (weight m bs) (sum_by m term bs) (2 ^ 32)

pub print_more : (b : ℕ) (bs : List ℕ) (p x y : ℕ) → p ≡ print_of bs → x ≡ (p * 0x9e3779b97f4a7c15) % 2 ^ 64 → y ≡ (x + (b + 1)) % 2 ^ 64 → y ≡ print_of (b ∷ bs)
print_more b bs p x y ps xs ys =
    ys ∙ ap (λ (k : ℕ). (k + (b + 1)) % 2 ^ 64) xs ∙ mod-add-mod (p * 0x9e3779b97f4a7c15) (2 ^ 64) (b + 1)
    ∙ ap (λ (k : ℕ). (k * 0x9e3779b97f4a7c15 + (b + 1)) % 2 ^ 64) ps ∙ ap (λ (k : ℕ). k % 2 ^ 64) regroup
  where
    regroup : print_of bs * 0x9e3779b97f4a7c15 + (b + 1) ≡ print_of bs * 0x9e3779b97f4a7c15 + b + 1
    regroup = omega arith

-- a string begins within the section, or behind its last byte
pub begins_within : (strings : List ℕ) (at : ℕ) (text : List ℕ) → text_in strings at ≡ Some text → 0 < at → at - 1 < length strings
begins_within strings at text e some = omega (arith, text_inside strings text at e, some)

-- ---- what is known of several strings

pub hashed_more : (formula : Formula) (strings offsets : List ℕ) (hashes : List (Option Hashed)) (n : ℕ) (h : Hashed) → n < length offsets → AreHashed formula strings offsets hashes → IsHashed formula strings (get_or offsets n 0) h → AreHashed formula strings offsets (set hashes n (Some h))
hashed_more formula strings offsets hashes n h lt are is = record {
  size = length-set hashes n (Some h) ∙ are.size;
  each = λ k x e. by k x (eqb k n) refl e;
}
  where
    by : (k : ℕ) (x : Hashed) (b : Bool) → eqb k n ≡ b → get_or (set hashes n (Some h)) k None ≡ Some x → IsHashed formula strings (get_or offsets k 0) x
    by k x true same e =
        let at = eqb-true k n same in
        let own : Some h ≡ Some x = sym (ap (λ (j : ℕ). get_or (set hashes n (Some h)) j None) at ∙ get_or-set_same hashes n (Some h) None (omega (arith, are.size, lt))) ∙ e in
        let value : h ≡ x = cc in
        subst (λ (j : ℕ). IsHashed formula strings (get_or offsets j 0) x) (sym at) (subst (IsHashed formula strings (get_or offsets n 0)) value is)
    by k x false other e =
        let apart : k ≢ n = λ is. true≢false (sym (let same : eqb k n ≡ true = grind (arith, nat_tests) in same) ∙ other) in
        are.each k x (sym (get_or-set_other hashes n k (Some h) None apart) ∙ e)

pub none_hashed : (formula : Formula) (strings offsets : List ℕ) (hashes : List (Option Hashed)) → hashes ≡ replicate (length offsets) None → AreHashed formula strings offsets hashes
none_hashed formula strings offsets hashes is = record {
  size = ap length is ∙ length-replicate (length offsets) None;
  each = λ k h e. absurd (never k h (sym (ap (λ (hs : List (Option Hashed)). get_or hs k None) is) ∙ e));
}
  where
    never : (k : ℕ) (h : Hashed) → get_or (replicate (length offsets) None) k None ≡ Some h → ⊥
    never k h e = elim (cases_lt k (length offsets)) as (λ _. ⊥) [
      | inl lt ↦ let clash : None ≡ Some h = sym (get_or-replicate (length offsets) k None None lt) ∙ e in absurd cc
      | inr le ↦ let clash : None ≡ Some h = sym (get_or_past (replicate (length offsets) None) k None (omega (arith, length-replicate {A = Option Hashed} (length offsets) None, le))) ∙ e in absurd cc
    ]
