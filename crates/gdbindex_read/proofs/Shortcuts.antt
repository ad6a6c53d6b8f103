-- The shortcut to main.
use Rattle.std.proofs.Common.{◌≡◌, ℕ, List, length, Some, None, Ok, Err, refl}
use Rattle.std.proofs.lemmas.Bool.{eq-eqb, ne_eqb}
use Rattle.std.proofs.lemmas.List.{nil_from_length}
use Rattle.index_model.specs.declared.index_code.TheConstants.{GDB_BAD_NAME}
use Rattle.index_model.specs.Meaning.{fault}
use Rattle.index_model.specs.Layout.{field}
use Rattle.index_model.specs.GdbAreas.{Areas}
use Rattle.index_model.specs.GdbIndexRead.{shortcut_at}
use Rattle.gdbindex_read.specs.Pool.{string_in}

module _ (a : Areas) where
  pub no_bytes : length a.shortcut.rest ≡ 0 → shortcut_at a ≡ Ok None
  unfolding shortcut_at
  no_bytes e = rw (nil_from_length a.shortcut.rest e) refl

  pub no_language : field 4 0 a.shortcut.rest ≡ 0 → shortcut_at a ≡ Ok None
  unfolding shortcut_at
  no_language e = rw (eq-eqb (field 4 0 a.shortcut.rest) 0 e) refl

  module _ (some : field 4 0 a.shortcut.rest ≡ 0 → ⊥) where
    pub named : (name : List ℕ) → string_in a.pool.rest (field 4 4 a.shortcut.rest) ≡ Some name → shortcut_at a ≡ Ok (Some (record { language = field 4 0 a.shortcut.rest; name = name }))
    unfolding shortcut_at
    named name e = rw (ne_eqb (field 4 0 a.shortcut.rest) 0 some, e) refl

    pub unnamed : string_in a.pool.rest (field 4 4 a.shortcut.rest) ≡ None → shortcut_at a ≡ Err (fault GDB_BAD_NAME a.shortcut.at)
    unfolding shortcut_at
    unnamed e = rw (ne_eqb (field 4 0 a.shortcut.rest) 0 some, e) refl
