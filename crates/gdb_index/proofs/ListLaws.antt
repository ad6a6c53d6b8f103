-- Lists of parts.
use Rattle.std.proofs.Common.{◌≡◌, List, [], ◌∷◌, ◌++◌, map, flat_map, refl, ap, ◌∙◌}
use Rattle.std.proofs.lemmas.List.{map-append}

-- a map goes into each part
pub map_flat_map : {X A B : Type 0} (f : A → B) (g : X → List A) (xs : List X) → map f (flat_map g xs) ≡ flat_map (λ x. map f (g x)) xs
map_flat_map f g [] = refl
map_flat_map {B = B} f g (x ∷ xs) = map-append f (g x) (flat_map g xs) ∙ ap (λ (l : List B). map f (g x) ++ l) (map_flat_map f g xs)
