-- What a file without a fault in its sections has.
use Rattle.std.proofs.Common.{◌≡◌, ◌+◌, ◌*◌, ◌≤◌, ℕ, Bool, true, false, leb, ltb, List, [], length, Result, Ok, Err, refl}
use Rattle.std.specs.Prelude.{◌&&◌, None}
use Rattle.std.proofs.lemmas.Bool.{leb-true}
use Rattle.ix_base.specs.declared.fault.Fault.{Fault}
use Rattle.index_model.specs.Gives.{Stop}
use Rattle.ix_base.specs.declared.or_memory.OrMemory.TheVariants as stops
use Rattle.index_model.specs.Meaning.{◌>>◌, holds_or}
use Rattle.index_model.specs.Gives.{StopsAs}
use Rattle.index_model.specs.Sections.{Section, ident, names_fit, names_index, section_count, sections_of, table_at, table_fits}
use Rattle.index_model.proofs.Meanings.{holds_ok}
use Rattle.file_image.specs.Headers.{with_table}
use Rattle.elf_add.specs.Adders.{adder_of}

first_ok : {B : Type 0} (r : Result (record {}) Fault) (s : Result B Fault) (y : B) → (r >> s) ≡ Ok y → (r ≡ Ok (record {})) × (s ≡ Ok y)
first_ok (Ok x) s y is = (refl, is)
first_ok (Err e) s y is = absurd cc

both_left : (a b : Bool) → (a && b) ≡ true → a ≡ true
both_left true b e = refl
both_left false b e = absurd cc

last_ok : (b : Bool) (e : Fault) → holds_or b e ≡ Ok (record {}) → b ≡ true
last_ok true e is = refl
last_ok false e is = absurd cc

-- at a stop of the sections
pub at_sections : (file : List ℕ) (s : Stop) → StopsAs s (sections_of file) → StopsAs s (adder_of file)
unfolding adder_of
at_sections file stops.Memory h = tt
at_sections file (stops.Cause e) is = rw is refl

module _ (file : List ℕ) (sections : List Section) (opened : sections_of file ≡ Ok sections) where
  pub adder_is : adder_of file ≡ Ok (record { file = file; sections = sections; addition = record { sections = []; strings = None } })
  unfolding adder_of
  adder_is = rw opened refl

  has_ident : ident file ≡ Ok (record {})
  unfolding sections_of
  has_ident = (first_ok (ident file) _ sections opened).0

  has_table : table_fits file ≡ Ok (record {})
  unfolding sections_of
  has_table = (first_ok (table_fits file) _ sections (first_ok (ident file) _ sections opened).1).0

  pub table_opened : with_table file ≡ Ok file
  unfolding with_table
  table_opened = rw (has_ident, has_table) refl

  pub long : 64 ≤ length file
  unfolding ident
  long = leb-true 64 (length file) (both_left (leb 64 (length file)) _ (holds_ok _ _ _ (record {}) has_ident).0)

  pub table_inside : table_at file + 64 * section_count file ≤ length file
  unfolding table_fits
  table_inside = leb-true _ _ (holds_ok (leb (table_at file + 64 * section_count file) (length file)) _ _ (record {}) (holds_ok _ _ _ (record {}) has_table).1).0

  pub names_inside : names_fit file ≡ true
  unfolding table_fits
  names_inside = last_ok (names_fit file) _ (holds_ok (ltb (names_index file) (section_count file)) _ _ (record {}) (holds_ok (leb (table_at file + 64 * section_count file) (length file)) _ _ (record {}) (holds_ok _ _ _ (record {}) has_table).1).1).1
