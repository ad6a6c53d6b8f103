-- Bytes that are taken from the front of what is left.
use Rattle.std.proofs.Common.{◌≡◌, ℕ, ◌+◌, ◌++◌, List, take, drop, take-append-drop, sym, ap, ◌∙◌}
use Rattle.std.proofs.lemmas.List.{drop-drop}

-- a copy of the front, and what is left behind it
pub front_taken : (left bytes held into : List ℕ) (at n : ℕ) → left ≡ drop at bytes → held ≡ bytes → take n into ≡ take n (drop at held) → left ≡ take n into ++ drop (at + n) bytes
front_taken left bytes held into at n is whole same =
    let copied : take n into ≡ take n (drop at bytes) = same ∙ ap (λ (l : List ℕ). take n (drop at l)) whole in
    is ∙ sym (take-append-drop n (drop at bytes)) ∙ ap (λ (l : List ℕ). l ++ drop n (drop at bytes)) (sym copied)
    ∙ ap (λ (l : List ℕ). take n into ++ l) (drop-drop n at bytes)
