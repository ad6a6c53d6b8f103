-- Of bytes, the index of the names' section has four bytes.
use Rattle.std.proofs.Common.{◌≡◌, ℕ, ◌+◌, ◌*◌, ◌<◌, ◌^◌, Bool, true, false, cond, eqb, List, take, drop, Ok, sym, ap, ◌∙◌, subst, arith, slice_index}
use Rattle.std.proofs.lemmas.List.{drop-drop, drop-take, get_or-drop}
use Rattle.byteorder.specs.Endian.{little_number}
use Rattle.byteorder.specs.Numbers.{little_from-lt, little_from-take}
use Rattle.index_model.specs.Sections.{Section, field, header, header_at, names_index, sections_of, table_at}
use Rattle.reach_model.specs.Added.{Addition, added}
use Rattle.reach_model.specs.AddedSections.{Fits, IsClearOfTheHeader, sections_then}
use Rattle.added_alike.proofs.Alike.{sections_are_added_below}

module _ (file : List ℕ) (bytes : (k : ℕ) → slice_index file k < 256) where
  number_fits : (n p : ℕ) → little_number n (drop p file) < 256 ^ n
  number_fits n p = little_from-lt 0 n (drop p file) (λ k. subst (λ (b : ℕ). b < 256) (sym (get_or-drop p file k 0)) (bytes (p + k)))

  link_fits : (header_at file 0).link < 2 ^ 32
  unfolding header_at header field
  link_fits =
      let there : List ℕ = drop (table_at file + 64 * 0) file in
      let e : little_number 4 (drop 40 (take 64 there)) ≡ little_number 4 (drop (table_at file + 64 * 0 + 40) file) =
      ap (little_number 4) (drop-take 40 24 there) ∙ little_from-take 0 4 24 (drop 40 there) (omega arith) ∙ ap (little_number 4) (drop-drop 40 (table_at file + 64 * 0) file) in
      subst (λ (n : ℕ). n < 2 ^ 32) (sym e) (number_fits 4 (table_at file + 64 * 0 + 40))

  short_fits : field 2 62 file < 2 ^ 16
  unfolding field
  short_fits = number_fits 2 62

  by_field : (b : Bool) → cond b (header_at file 0).link (field 2 62 file) < 2 ^ 32
  by_field true = link_fits
  by_field false = omega (arith, short_fits)

  pub index_fits : names_index file < 2 ^ 32
  unfolding names_index
  index_fits = by_field (eqb (field 2 62 file) 0xFFFF)

-- the law of a file of bytes: of larger numbers the index may have more than the four bytes of a link
pub sections_of_bytes_are_added : (file : List ℕ) (sections : List Section) (addition : Addition) → ((k : ℕ) → slice_index file k < 256) → sections_of file ≡ Ok sections → IsClearOfTheHeader file → Fits file sections addition → sections_of (added file sections addition) ≡ Ok (sections_then file sections addition)
sections_of_bytes_are_added file sections addition bytes is clear allowed = sections_are_added_below file sections addition is clear allowed (index_fits file bytes)
