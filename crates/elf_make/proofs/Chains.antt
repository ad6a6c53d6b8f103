-- Bytes that are appended part by part.
use Rattle.std.proofs.Common.{◌≡◌, ℕ, List, [], ◌∷◌, ◌++◌, sym, ap, ◌∙◌}
use Rattle.std.specs.Prelude.{flat_map}
use Rattle.std.proofs.lemmas.List.{append_assoc, append-nil}

-- the new bytes are the old ones and these parts
pub record Appends (old new : List ℕ) (parts : List (List ℕ)) : Type 0 where
  pub is : new ≡ old ++ flat_map (λ part. part) parts

pub nothing : (new : List ℕ) → Appends new new []
nothing new = record { is = sym (append-nil new) }

-- a part that is appended before others
infixr 20 ◌▸◌
pub ◌▸◌ : {old next new : List ℕ} {part : List ℕ} {parts : List (List ℕ)} → next ≡ old ++ part → Appends next new parts → Appends old new (part ∷ parts)
◌▸◌ {old = old} {next = next} {new = new} {part = part} {parts = parts} e more = record {
  is = more.is ∙ ap (λ xs. xs ++ flat_map (λ p. p) parts) e ∙ append_assoc old part (flat_map (λ p. p) parts);
}
