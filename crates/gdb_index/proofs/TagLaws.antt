-- A tag that is listed is small.
use Rattle.std.proofs.Common.{◌≡◌, ℕ, ◌≤◌, Bool, true, false, cond, ◌||◌, eqb, leb, List, [], ◌∷◌, Option, Some, refl, sym, arith}
use Rattle.std.specs.List.{list_all}
use Rattle.std.proofs.lemmas.Bool.{true≢false, and_parts, eqb-true, leb-true}
use Rattle.index_model.specs.Tags.{is_one_of}
use Rattle.gdb_entries.specs.declared.kinds.Kinds.{Kinds}
use Rattle.gdb_entries.specs.Kinds.{kinds_of}

abbrev is_small : ℕ → Bool
is_small n = leb n 65535

-- one of these, which are small
one_is_small : (ns : List ℕ) (n : ℕ) → list_all is_small ns ≡ true → is_one_of ns n ≡ true → n ≤ 65535
one_is_small [] n all on = absurd (true≢false (sym on))
one_is_small (m ∷ ms) n all on = by (and_parts (is_small m) (list_all is_small ms) all) (one_is_small ms n) (eqb m n) refl on
  where
    by : (is_small m ≡ true) × (list_all is_small ms ≡ true) → (list_all is_small ms ≡ true → is_one_of ms n ≡ true → n ≤ 65535) → (b : Bool) → eqb m n ≡ b → (b || is_one_of ms n) ≡ true → n ≤ 65535
    by a more true is g = omega (arith, leb-true m 65535 a.0, eqb-true m n is)
    by a more false is g = more a.1 g

-- one of these, or of others that have kinds
one_or_other : (ns : List ℕ) (n : ℕ) (own kinds : Kinds) (others : Option Kinds) → list_all is_small ns ≡ true → (others ≡ Some kinds → n ≤ 65535) → cond (is_one_of ns n) (Some own) others ≡ Some kinds → n ≤ 65535
one_or_other ns n own kinds others all more is = by (is_one_of ns n) refl is
  where
    by : (b : Bool) → is_one_of ns n ≡ b → cond b (Some own) others ≡ Some kinds → n ≤ 65535
    by true on k = one_is_small ns n all on
    by false off k = more k

-- ---- the tags of each kind

abbrev types : List ℕ
types = 0x01 ∷ 0x02 ∷ 0x04 ∷ 0x12 ∷ 0x13 ∷ 0x15 ∷ 0x16 ∷ 0x17 ∷ 0x1F ∷ 0x20 ∷ 0x21 ∷ 0x24 ∷ 0x38 ∷ 0x39 ∷ 0x3B ∷ []

abbrev variables : List ℕ
variables = 0x27 ∷ 0x28 ∷ 0x34 ∷ []

abbrev functions : List ℕ
functions = 0x03 ∷ 0x2E ∷ []

abbrev modules : List ℕ
modules = 0x1E ∷ []

abbrev others : List ℕ
others = 0x08 ∷ 0x1D ∷ 0x45 ∷ []

-- a tag that has kinds
pub tag_fits : (tag : ℕ) (kinds : Kinds) → kinds_of tag ≡ Some kinds → tag ≤ 65535
unfolding kinds_of
tag_fits tag kinds is =
    one_or_other types tag _ kinds _ refl
    (λ a. one_or_other variables tag _ kinds _ refl
    (λ b. one_or_other functions tag _ kinds _ refl
    (λ d. one_or_other modules tag _ kinds _ refl
    (λ e. one_or_other others tag _ kinds _ refl
    (λ none. absurd (cc)) e) d) b) a) is
