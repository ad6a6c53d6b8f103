-- A decoded name encoded, byte by byte.
use Rattle.std.proofs.Common.{◌≡◌, ℕ, ◌+◌, ◌<◌, ◌≤◌, List, [], ◌∷◌, ◌++◌, length, drop, get_or, refl, append_assoc}
use Rattle.std.specs.Prelude.{true, false, codes}
use Rattle.std.proofs.lemmas.List.{drop_more, drop_all, append-nil}
use Rattle.ada_spelling.specs.AdaNames.{without_bracket, opens_suffix, encoded_byte, encoded}

by_suffix : (b : ℕ) (bs : List ℕ) → opens_suffix b bs ≡ true → encoded (b ∷ bs) ≡ codes "." ++ without_bracket bs
unfolding encoded
by_suffix b bs e = rw e refl

pub by_byte : (b : ℕ) (bs : List ℕ) → opens_suffix b bs ≡ false → encoded (b ∷ bs) ≡ encoded_byte b ++ encoded bs
unfolding encoded
by_byte b bs e = rw e refl

pub of_nothing : encoded [] ≡ []
unfolding encoded
of_nothing = refl

-- a suffix ends the name
pub encoded_suffix :
    (name text : List ℕ) (at b : ℕ) → at < length name → b ≡ get_or name at 0 → opens_suffix b (drop (at + 1) name) ≡ true
    → text ++ (codes "." ++ without_bracket (drop (at + 1) name)) ≡ text ++ encoded (drop at name)
encoded_suffix name text at b h f e = rw (drop_more name at 0 h, ← f, by_suffix b (drop (at + 1) name) e) refl

-- behind any other byte, the rest gives what is left
pub encoded_more :
    (name text : List ℕ) (at b : ℕ) → at < length name → b ≡ get_or name at 0 → opens_suffix b (drop (at + 1) name) ≡ false
    → (text ++ encoded_byte b) ++ encoded (drop (at + 1) name) ≡ text ++ encoded (drop at name)
encoded_more name text at b h f e =
    rw (drop_more name at 0 h, ← f, by_byte b (drop (at + 1) name) e) (append_assoc text (encoded_byte b) (encoded (drop (at + 1) name)))

pub encoded_none : (name text : List ℕ) (at : ℕ) → length name ≤ at → text ++ encoded (drop at name) ≡ text
encoded_none name text at h = rw (drop_all at name h, of_nothing) (append-nil text)
