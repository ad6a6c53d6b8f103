-- An attribute that may give an item a name is one of six.
use Rattle.std.proofs.Common.{◌≡◌, ℕ, Bool, true, false, cond, ◌||◌, List, [], ◌∷◌, Option, Some, refl, sym, ap, ◌∙◌, ⊎_elim}
use Rattle.std.specs.Prelude.{◌==◌, find, is_some, option_map}
use Rattle.std.specs.List.{list_any}
use Rattle.std.proofs.lemmas.Bool.{eq-eqb, ne_eqb, cases_eq}
use Rattle.index_model.specs.Attributes.{attribute}
use Rattle.index_model.specs.Forms.{Value}
use Rattle.index_model.specs.Tags.{is_one_of}
use Rattle.index_model.specs.Walk.{Item}
use Rattle.gdb_entries.specs.Chains.{is_naming}

abbrev Numbered : Type 0
Numbered = ℕ × Value

-- the first of these values with the number
abbrev first_with : ℕ → List Numbered → Option Value
first_with n vs = option_map (λ v. v.1) (find (λ v. v.0 == n) vs)

either_swapped : (a b c d : Bool) → ((a || b) || (c || d)) ≡ ((a || c) || (b || d))
either_swapped true b true d = refl
either_swapped true b false d = refl
either_swapped false true true d = refl
either_swapped false true false d = refl
either_swapped false false true d = refl
either_swapped false false false d = refl

none_of : {A : Type 0} (xs : List A) → list_any (λ x. false) xs ≡ false
none_of [] = refl
none_of (x ∷ xs) = none_of xs

any_either : {A : Type 0} (p q : A → Bool) (xs : List A) → list_any (λ x. p x || q x) xs ≡ (list_any p xs || list_any q xs)
any_either p q [] = refl
any_either p q (x ∷ xs) = ap (λ (b : Bool). (p x || q x) || b) (any_either p q xs) ∙ either_swapped (p x) (q x) (list_any p xs) (list_any q xs)

-- a value with the number is found where there is one
any_is_found : (n : ℕ) (vs : List Numbered) → list_any (λ v. n == v.0) vs ≡ is_some (first_with n vs)
any_is_found n [] = refl
any_is_found n (v ∷ vs) = ⊎_elim
    (λ (same : v.0 ≡ n).
    ap (λ (b : Bool). b || list_any (λ (x : Numbered). n == x.0) vs) (eq-eqb n v.0 (sym same)) ∙
    sym (ap (λ (b : Bool). is_some (option_map (λ (x : Numbered). x.1) (cond b (Some v) (find (λ (x : Numbered). x.0 == n) vs)))) (eq-eqb v.0 n same)))
    (λ (other : v.0 ≡ n → ⊥).
    ap (λ (b : Bool). b || list_any (λ (x : Numbered). n == x.0) vs) (ne_eqb n v.0 (λ e. other (sym e))) ∙
    any_is_found n vs ∙
    sym (ap (λ (b : Bool). is_some (option_map (λ (x : Numbered). x.1) (cond b (Some v) (find (λ (x : Numbered). x.0 == n) vs)))) (ne_eqb v.0 n other)))
    (cases_eq v.0 n)

-- a value with one of the numbers is there where some number has one
pub any_of_numbers : (ns : List ℕ) (vs : List Numbered) → list_any (λ v. is_one_of ns v.0) vs ≡ list_any (λ n. is_some (first_with n vs)) ns
any_of_numbers [] vs = none_of vs
any_of_numbers (n ∷ ns) vs =
    any_either (λ (v : Numbered). n == v.0) (λ (v : Numbered). is_one_of ns v.0) vs ∙
    ap (λ (b : Bool). b || list_any (λ (v : Numbered). is_one_of ns v.0) vs) (any_is_found n vs) ∙
    ap (λ (b : Bool). is_some (first_with n vs) || b) (any_of_numbers ns vs)

six : (a b c d e f : Bool) → (a || (b || (c || (d || (e || (f || false)))))) ≡ (a || b || c || d || e || f)
six true b c d e f = refl
six false true c d e f = refl
six false false true d e f = refl
six false false false true e f = refl
six false false false false true f = refl
six false false false false false true = refl
six false false false false false false = refl

-- an item is named where it has one of the six attributes
pub named_by : (d : Item) → list_any (λ v. is_naming v.0) d.values ≡ (is_some (attribute 0x03 d) || is_some (attribute 0x6E d) || is_some (attribute 0x2007 d) || is_some (attribute 0x47 d) || is_some (attribute 0x31 d) || is_some (attribute 0x54 d))
named_by d =
    any_of_numbers (0x03 ∷ 0x6E ∷ 0x2007 ∷ 0x47 ∷ 0x31 ∷ 0x54 ∷ []) d.values ∙
    six (is_some (attribute 0x03 d)) (is_some (attribute 0x6E d)) (is_some (attribute 0x2007 d)) (is_some (attribute 0x47 d)) (is_some (attribute 0x31 d)) (is_some (attribute 0x54 d))
