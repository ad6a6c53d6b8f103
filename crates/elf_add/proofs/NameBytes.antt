-- The bytes of the names' section, by its header.
use Rattle.std.proofs.Common.{◌≡◌, ℕ, ◌+◌, ◌*◌, ◌-◌, ◌≤◌, Bool, true, false, eqb, leb, List, [], length, take, drop, refl, ap, ◌∙◌, arith}
use Rattle.std.specs.Prelude.{not, ◌||◌}
use Rattle.std.proofs.lemmas.Bool.{ne_eqb, leb-true}
use Rattle.file_image.specs.declared.section_header.Header.{Header}
use Rattle.file_image.specs.Headers.{header_of, section_header, section_header_at}
use Rattle.index_model.specs.Sections.{bytes_from, header, header_at, is_empty, names, names_fit, names_index, table_at}

fit : (empty inside : Bool) → not empty ≡ true → (empty || inside) ≡ true → inside ≡ true
fit true inside some h = absurd cc
fit false inside some h = h

full : (empty : Bool) → not empty ≡ true → empty ≡ false
full true some = absurd cc
full false some = refl

void : (empty : Bool) → not empty ≡ false → empty ≡ true
void true none = refl
void false none = absurd cc

-- section 0 has no names
pub first_has_none : (file : List ℕ) → names_index file ≡ 0 → [] ≡ names file
first_has_none file e = rw e refl

-- h is the header of the names' section
module _ (file : List ℕ) (index : ℕ) (h : Header) (at : index ≡ names_index file) (is : h ≡ section_header_at file index) where
  same_header : header_of h ≡ header_at file (names_index file)
  unfolding section_header header header_at
  same_header = ap header_of is ∙ ap (λ i. header (bytes_from (table_at file + 64 * i) 64 file)) at

  pub names_inside : (index ≡ 0 → ⊥) → not (is_empty (header_of h)) ≡ true → names_fit file ≡ true → h.at + h.size ≤ length file
  names_inside later some fits =
      let g : eqb (names_index file) 0 ≡ false = ne_eqb _ _ (λ z. later (at ∙ z)) in
      leb-true _ _ (fit (is_empty (header_of h)) (leb (h.at + h.size) (length file)) some (rw (g, ← same_header) at fits))

  pub names_are : (index ≡ 0 → ⊥) → not (is_empty (header_of h)) ≡ true → take (h.at + h.size - h.at) (drop h.at file) ≡ names file
  names_are later some =
      let g : eqb (names_index file) 0 ≡ false = ne_eqb _ _ (λ z. later (at ∙ z)) in
      let e : is_empty (header_of h) ≡ false = full (is_empty (header_of h)) some in
      let size : h.at + h.size - h.at ≡ h.size = omega arith in
      rw (g, ← same_header, e, size) refl

  pub no_names : not (is_empty (header_of h)) ≡ false → [] ≡ names file
  no_names none = by (eqb (names_index file) 0) refl
    where
      e : is_empty (header_of h) ≡ true
      e = void (is_empty (header_of h)) none

      by : (b : Bool) → eqb (names_index file) 0 ≡ b → [] ≡ names file
      by true g = rw g refl
      by false g = rw (g, ← same_header, e) refl
