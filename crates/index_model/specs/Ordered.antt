-- Lists of distinct items.
use Rattle.std.specs.Prelude.{ℕ, Bool, true, false, not, ◌&&◌, ◌||◌, nat_lt, nat_eq, if◌then◌else◌, List, [], ◌∷◌, filter, position, unwrap_or}

-- the first of each set of items that are the same, in the order of the list
unfoldable pub distinct : {A : Type 0} → (A → A → Bool) → List A → List A
distinct same [] = []
distinct same (x ∷ xs) = x ∷ filter (λ y. not (same x y)) (distinct same xs)

-- an item at its place in an ascending list, unless it stands there
unfoldable pub with_item : {A : Type 0} → (A → A → Bool) → A → List A → List A
with_item less x [] = x ∷ []
with_item less x (y ∷ ys) = if less x y then x ∷ y ∷ ys else if less y x then y ∷ with_item less x ys else y ∷ ys

-- the distinct items, ascending
unfoldable pub ascending : {A : Type 0} → (A → A → Bool) → List A → List A
ascending less [] = []
ascending less (x ∷ xs) = with_item less x (ascending less xs)

-- the order of the first bytes that differ; a text comes before those that go on behind it
unfoldable pub bytes_lt : List ℕ → List ℕ → Bool
bytes_lt xs [] = false
bytes_lt [] (y ∷ ys) = true
bytes_lt (x ∷ xs) (y ∷ ys) = nat_lt x y || (nat_eq x y && bytes_lt xs ys)

-- the place of the first item that is the same as x, which stands in the list
abbrev pub place_of : {A : Type 0} → (A → A → Bool) → A → List A → ℕ
place_of same x xs = unwrap_or (position (same x) xs) 0
