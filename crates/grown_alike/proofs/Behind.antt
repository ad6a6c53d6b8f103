-- Readers go on as before where more bytes follow.
use Rattle.std.proofs.Common.{◌≡◌, ℕ, zero, suc, ◌+◌, ◌-◌, ◌≤◌, Bool, true, cond, leb, List, [], ◌∷◌, ◌++◌, length, drop, Some, refl, ap, ◌∙◌, arith, length-append}
use Rattle.std.proofs.lemmas.Bool.{leb-true, le-leb}
use Rattle.std.proofs.lemmas.List.{drop-append-le, get_or_append_left}
use Rattle.std.proofs.lemmas.Option.{cond_some}
use Rattle.index_model.proofs.GrownTexts.{before_stays}
use Rattle.byteorder.specs.Endian.{little_number, little_from}
use Rattle.ix_base.specs.Reading.{Input, past, number, before_zero, offset, input}
use Rattle.grown_alike.proofs.Kept.{SomeStays}

-- the same place, where more bytes follow
abbrev pub grown : List ℕ → Input → Input
grown more i = record { at = i.at; rest = i.rest ++ more }

-- the same value, and what is left with more bytes behind it
abbrev pub onwards : {A : Type 0} → List ℕ → A × Input → A × Input
onwards more x = (x.0, grown more x.1)

abbrev made : ℕ → List ℕ → Input
made at rest = record { at = at; rest = rest }

-- bytes that are there are passed
pub past_grown : (n : ℕ) (more : List ℕ) (i : Input) → n ≤ length i.rest → past n (grown more i) ≡ grown more (past n i)
past_grown n more i le = ap (made (i.at + n)) (drop-append-le n i.rest more le)

-- bytes from any place on are the front of grown ones
pub input_grown : (bytes more : List ℕ) (place : ℕ) → (behind : List ℕ) × (input (bytes ++ more) place ≡ grown behind (input bytes place))
input_grown bytes more place = (drop (place - length bytes) more, ap (made place) (from bytes place))
  where
    from : (xs : List ℕ) (n : ℕ) → drop n (xs ++ more) ≡ drop n xs ++ drop (n - length xs) more
    from xs zero = let none : 0 - length xs ≡ 0 = omega arith in rw none refl
    from [] (suc n) = let none : suc n - 0 ≡ suc n = omega arith in rw none refl
    from (x ∷ xs) (suc n) = from xs n ∙ ap (λ (k : ℕ). drop n xs ++ drop k more) (let same : n - length xs ≡ suc n - length (x ∷ xs) = omega arith in same)

-- ---- numbers of some bytes

same_number : (k n : ℕ) (xs more : List ℕ) → k + n ≤ length xs → little_from k n (xs ++ more) ≡ little_from k n xs
same_number k zero xs more le = refl
same_number k (suc n) xs more le = rw (get_or_append_left xs more 0 k (omega (arith, le)), same_number (suc k) n xs more (omega (arith, le))) refl

pub number_stays : (n : ℕ) (more : List ℕ) (i : Input) → SomeStays (onwards more) (number n i) (number n (grown more i))
number_stays n more i = record {
  on = λ x is.
      let p = cond_some (leb n (length i.rest)) (little_number n i.rest, past n i) x is in
      let le : n ≤ length i.rest = leb-true _ _ p.0 in
      let there : leb n (length (i.rest ++ more)) ≡ true = le-leb n (length (i.rest ++ more)) (omega (arith, le, length-append i.rest more)) in
      rw (there, same_number 0 n i.rest more (omega (arith, le)), past_grown n more i le) (ap (λ (y : ℕ × Input). Some (onwards more y)) p.1);
}

pub offset_stays : (wide : Bool) (more : List ℕ) (i : Input) → SomeStays (onwards more) (offset wide i) (offset wide (grown more i))
offset_stays wide = number_stays (cond wide 8 4)

-- ---- texts

-- a text that stands in some bytes from a place on stands there in grown bytes
pub text_stays : (bytes more : List ℕ) (place : ℕ) → SomeStays (λ (text : List ℕ). text) (before_zero (drop place bytes)) (before_zero (drop place (bytes ++ more)))
text_stays bytes more place = record {
  on = λ text is.
      let g = input_grown bytes more place in
      ap (λ (i : Input). before_zero i.rest) g.1 ∙ before_stays g.0 (drop place bytes) text is;
}
