-- The parts of a name, one by one.
use Rattle.std.proofs.Common.{◌≡◌, ℕ, suc, ◌+◌, ◌-◌, ◌<◌, List, [], ◌∷◌, ◌++◌, length, take, refl, ap, arith, append_assoc}
use Rattle.std.specs.Prelude.{Option, Some, None, option_map, not}
use Rattle.std.specs.List.{prefix_len}
use Rattle.std.proofs.lemmas.List.{append-nil}
use Rattle.ada_spelling.specs.declared.parts.NamePart.TheVariants.{Ends, Refused, Gives}
use Rattle.ada_spelling.specs.Bytes.{is_letter}
use Rattle.ada_spelling.specs.Marks.{behind_marks}
use Rattle.ada_spelling.specs.Parts.{part_at, with_more, parts_from, parts_of}

-- a text, and the parts behind it
abbrev pub joined : List ℕ → Option (List ℕ) → Option (List ℕ)
joined text parts = option_map (λ more. text ++ more) parts

one_more : (n k : ℕ) (name : List ℕ) (at : ℕ) → k < n → parts_from (n - k) name at ≡ with_more (part_at name (behind_marks name at)) (λ next. parts_from (n - (k + 1)) name next)
unfolding parts_from
one_more n k name at h = let e : n - k ≡ suc (n - (k + 1)) = omega arith in ap (λ m. parts_from m name at) e

with_byte : (text : List ℕ) (b : ℕ) (parts : Option (List ℕ)) → joined (text ++ b ∷ []) parts ≡ joined text (option_map (λ bs. b ∷ bs) parts)
with_byte text b None = refl
with_byte text b (Some bs) = ap (λ (l : List ℕ). Some l) (append_assoc text (b ∷ []) bs)

-- behind a byte, the rest of the parts gives what the parts give
pub parts_more :
    (n k : ℕ) (name text : List ℕ) (at b next : ℕ) → k < n → part_at name (behind_marks name at) ≡ Gives b next
    → joined (text ++ b ∷ []) (parts_from (n - (k + 1)) name next) ≡ joined text (parts_from (n - k) name at)
parts_more n k name text at b next h e = rw (one_more n k name at h, e) (with_byte text b (parts_from (n - (k + 1)) name next))

pub parts_end :
    (n k : ℕ) (name text : List ℕ) (at : ℕ) → k < n → part_at name (behind_marks name at) ≡ Ends → joined text (parts_from (n - k) name at) ≡ Some text
parts_end n k name text at h e = rw (one_more n k name at h, e) (ap (λ (l : List ℕ). Some l) (append-nil text))

pub parts_refused :
    (n k : ℕ) (name text : List ℕ) (at : ℕ) → k < n → part_at name (behind_marks name at) ≡ Refused → joined text (parts_from (n - k) name at) ≡ None
parts_refused n k name text at h e = rw (one_more n k name at h, e) refl

pub parts_out : (n k : ℕ) (name text : List ℕ) (at : ℕ) → n - k ≡ 0 → joined text (parts_from (n - k) name at) ≡ Some text
unfolding parts_from
parts_out n k name text at e = rw e (ap (λ (l : List ℕ). Some l) (append-nil text))

-- what stands before the first letter, and all parts
pub parts_begin :
    (name text : List ℕ) (at : ℕ) → at ≡ prefix_len (λ b. not (is_letter b)) name → text ≡ take at name
    → joined text (parts_from (length name + 1 - 0) name at) ≡ parts_of name
unfolding parts_of
parts_begin name text at e f = let n : length name + 1 - 0 ≡ length name + 1 = omega arith in rw (n, f, e) refl
