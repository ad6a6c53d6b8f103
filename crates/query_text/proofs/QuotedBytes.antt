-- What stands for the bytes of a name, one after the other.
use Rattle.std.proofs.Common.{◌≡◌, ℕ, ◌+◌, ◌<◌, List, [], ◌∷◌, ◌++◌, length, get_or, take, drop, sym, ap, ◌∙◌, append-nil, take-append-drop}
use Rattle.std.specs.Prelude.{flat_map}
use Rattle.std.proofs.lemmas.List.{take_more}
use Rattle.std.proofs.lemmas.List.Concat.{flat_map-append}
use Rattle.name_quotes.specs.Quotes.{quoted, quoted_byte}

abbrev pub bytes_of : List ℕ → List ℕ
bytes_of name = flat_map quoted_byte name

module _ (name : List ℕ) (i : ℕ) (lt : i < length name) where
  -- one more byte
  pub bytes_more : bytes_of (take (i + 1) name) ≡ bytes_of (take i name) ++ quoted_byte (get_or name i 0)
  bytes_more =
      ap bytes_of (take_more name i 0 lt) ∙ flat_map-append quoted_byte (take i name) (get_or name i 0 ∷ [])
      ∙ ap (λ (t : List ℕ). bytes_of (take i name) ++ t) (append-nil (quoted_byte (get_or name i 0)))

  -- what is left behind that
  pub bytes_whole : quoted name ≡ (bytes_of (take i name) ++ quoted_byte (get_or name i 0)) ++ bytes_of (drop (i + 1) name)
  unfolding quoted
  bytes_whole =
      ap bytes_of (sym (take-append-drop (i + 1) name)) ∙ flat_map-append quoted_byte (take (i + 1) name) (drop (i + 1) name)
      ∙ ap (λ (t : List ℕ). t ++ bytes_of (drop (i + 1) name)) bytes_more
