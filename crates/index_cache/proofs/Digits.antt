-- The digits of a build-id, and the name with them.
use Rattle.std.proofs.Common.{◌≡◌, ℕ, List, [], ◌∷◌, ◌++◌, refl, ap, ◌∙◌}
use Rattle.std.specs.Prelude.{codes, flat_map}
use Rattle.hex.specs.Hex.{encode_with, lower_digits}
use Rattle.reach_model.specs.BuildIds.{cache_name, two_digits}

encoded : (id : List ℕ) → encode_with lower_digits id ≡ flat_map two_digits id
unfolding encode_with
encoded [] = refl
encoded (b ∷ bs) = ap (λ (rest : List ℕ). two_digits b ++ rest) (encoded bs)

-- a name that was put together from its front on
pub named : (store id front digits longer name : List ℕ) → front ≡ store → digits ≡ encode_with lower_digits id → longer ≡ front ++ digits → name ≡ longer ++ codes ".gdb-index" → name ≡ cache_name store id
unfolding cache_name
named store id front digits longer name begins is more all =
    let joined : longer ≡ store ++ flat_map two_digits id = more ∙ (λ i. begins i ++ (is ∙ encoded id) i) in
    all ∙ ap (λ (l : List ℕ). l ++ codes ".gdb-index") joined
