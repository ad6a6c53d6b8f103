-- Pieces that are appended one after the other.
use Rattle.std.proofs.Common.{ℕ, ◌+◌, ◌-◌, ◌++◌, List, [], Option, Some, None, length, take, drop, append_assoc, append-nil, sym, ap, ◌∙◌, arith, subst}
use Rattle.std.proofs.lemmas.List.{take_rest, take_all}
use Rattle.std.proofs.Math.Seq.{take-add, take-append-add}
use Rattle.outside.specs.Written.{Appends, AppendsPrefix}

-- nothing is appended at first
pub appends_none : (told : Option (List ℕ)) → Appends told told []
appends_none None = tt
appends_none (Some xs) = sym (append-nil xs)

-- two pieces that are appended one after the other are appended together
pub appends_more : (a b c : Option (List ℕ)) (xs ys : List ℕ) → Appends a b xs → Appends b c ys → Appends a c (xs ++ ys)
appends_more None None None xs ys p q = tt
appends_more (Some a) (Some b) (Some c) xs ys p q = q ∙ ap (λ l. l ++ ys) p ∙ append_assoc a xs ys
appends_more None None (Some c) xs ys p q = q
appends_more None (Some b) c xs ys p q = absurd p
appends_more (Some a) None c xs ys p q = absurd p
appends_more (Some a) (Some b) None xs ys p q = q

-- a piece of what is left to write follows what was written
pub appends_piece : (a b c : Option (List ℕ)) (xs : List ℕ) (at n : ℕ) → Appends a b (take at xs) → Appends b c (take n (take (length xs - at) (drop at xs))) → Appends a c (take (at + n) xs)
appends_piece a b c xs at n p q =
    rw take-add (appends_more a b c (take at xs) (take n (drop at xs)) p (rw take_rest at q))

-- what is appended whole is a prefix of itself
pub appends-prefix : (a b : Option (List ℕ)) (xs : List ℕ) → Appends a b xs → AppendsPrefix a b xs
appends-prefix a b xs p =
    (length xs, let P : List ℕ → Type 0 = λ l. Appends a b l in subst P (sym (take_all (length xs) xs (omega arith))) p)

-- a prefix that follows a whole is a prefix of both together
pub appends_more_prefix : (a b c : Option (List ℕ)) (xs ys : List ℕ) → Appends a b xs → AppendsPrefix b c ys → AppendsPrefix a c (xs ++ ys)
appends_more_prefix a b c xs ys p q =
    (length xs + q.0, rw take-append-add (appends_more a b c xs (take q.0 ys) p q.1))
