-- The last piece that an iterator over pieces gives.
use Rattle.std.proofs.Common.{◌≡◌, ℕ, List, [], ◌∷◌, map, refl, ap, ◌∙◌}
use Rattle.std.specs.Prelude.{Option, Some, None}
use Rattle.std.specs.Borrow.{Bor}
use Rattle.std.specs.List.{last_or}
use Rattle.std.specs.Iterator.{Drains, YieldsFirstRef}
use Rattle.std.proofs.lemmas.Iterator.{items_from_drains}
use Rattle.std.proofs.lemmas.Iterator.Consumers.{YieldsList-from_first}
use Rattle.index_model.specs.AdaNames.{last_of}

-- the bytes of the last item, if there is one
abbrev pub seen : Option (Bor (List ℕ)) → List ℕ
seen None = []
seen (Some piece) = piece.now

ends : (x : Bor (List ℕ)) (xs : List (Bor (List ℕ))) → seen (last_or (Some x) xs) ≡ last_of (map (λ p. p.now) (x ∷ xs))
ends x [] = refl
ends x (y ∷ ys) = ends y ys

last_seen : (xs : List (Bor (List ℕ))) → seen (last_or None xs) ≡ last_of (map (λ p. p.now) xs)
last_seen [] = refl
last_seen (x ∷ xs) = ends x xs

-- what `last` gives of the pieces that are left
pub last_is : (ps : List (List ℕ)) (r : Option (Bor (List ℕ))) → (xs : List (Bor (List ℕ))) × Drains (YieldsFirstRef (λ (rest : List (List ℕ)). rest)) ps xs × (r ≡ last_or None xs) → seen r ≡ last_of ps
last_is ps r h =
    let view : Bor (List ℕ) → List ℕ = λ p. p.now in
    let left : List (List ℕ) → List (List ℕ) = λ rest. rest in
    let all : map view h.0 ≡ ps = items_from_drains h.0 (h.1.1.0, h.1.1.1, λ _. (h.1.0, h.1.1.2)) (YieldsList-from_first view left ps refl) in
    ap seen h.2 ∙ last_seen h.0 ∙ ap last_of all
