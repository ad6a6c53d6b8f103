-- The orders of a `.debug_names`: of its names, and of the rows of its abbreviations.
use Rattle.std.proofs.Common.{◌≡◌, ℕ, ◌%◌, Bool, true, false, cond, List, [], ◌∷◌, refl, arith}
use Rattle.std.specs.Prelude.{nat_lt, nat_eq}
use mathlib.Core.Bool.{not, ◌&&◌, ◌||◌}
use Rattle.index_model.specs.NameIndex.{Row, row_lt, name_lt}
use Rattle.index_model.specs.Ordered.{bytes_lt}
use Rattle.index_model.specs.Hashes.{name_hash}
use Rattle.index_model.proofs.Orders.{IsOrder, order_by}

-- ---- the order of names

abbrev pub index_key : ℕ → List ℕ → List ℕ
index_key n a = name_hash a % n ∷ name_hash a ∷ a

one_name : (n : ℕ) (a b : List ℕ) → index_key n a ≡ index_key n b → a ≡ b
one_name n a b e = cc

pub by_index_key : (n : ℕ) (a b : List ℕ) → name_lt n a b ≡ bytes_lt (index_key n a) (index_key n b)
unfolding bytes_lt
by_index_key n a b = refl

pub name_order : (n : ℕ) → IsOrder (name_lt n)
name_order n = order_by (name_lt n) (index_key n) (one_name n) (by_index_key n)

-- ---- the order of rows

abbrev bit : Bool → ℕ
bit b = cond b 1 0

abbrev row_key : Row → List ℕ
row_key r = r.0 ∷ bit r.1 ∷ []

one_bit : (a b : Bool) → bit a ≡ bit b → a ≡ b
one_bit true true e = refl
one_bit false false e = refl
one_bit true false e = absurd (omega arith)
one_bit false true e = absurd (omega arith)

one_row : (a b : Row) → row_key a ≡ row_key b → a ≡ b
one_row a b e =
    let tag : a.0 ≡ b.0 = cc in
    let types : a.1 ≡ b.1 = one_bit a.1 b.1 (cc) in
    λ i. (tag i, types i)

by_tags : (l e p q : Bool) → (l || ((e && not p) && q)) ≡ (l || (e && (nat_lt (bit p) (bit q) || (nat_eq (bit p) (bit q) && false))))
by_tags l true true true = refl
by_tags l true true false = refl
by_tags l true false true = refl
by_tags l true false false = refl
by_tags l false true true = refl
by_tags l false true false = refl
by_tags l false false true = refl
by_tags l false false false = refl

row_by_key : (a b : Row) → row_lt a b ≡ bytes_lt (row_key a) (row_key b)
unfolding bytes_lt
row_by_key a b = by_tags (nat_lt a.0 b.0) (nat_eq a.0 b.0) a.1 b.1

pub row_order : IsOrder row_lt
row_order = order_by row_lt row_key one_row row_by_key
