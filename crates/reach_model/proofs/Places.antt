-- The names of what is added for an index have places of four bytes.
use Rattle.std.proofs.Common.{◌≡◌, ℕ, ◌+◌, ◌<◌, ◌≤◌, ◌^◌, Bool, true, false, cond, eqb, List, [], ◌∷◌, ◌++◌, length, take, drop, Option, Some, None, Ok, refl, sym, ap, ◌∙◌, subst, arith}
use Rattle.std.proofs.lemmas.List.{length-drop, length-take}
use Rattle.ix_base.specs.declared.limits.TheConstants.{MAX_FILE_BYTES}
use Rattle.index_model.specs.declared.job.CacheKind.{CacheKind}
use Rattle.index_model.specs.declared.job.CacheKind.TheVariants.{Gdb8, Gdb9, Names}
use Rattle.index_model.specs.Sections.{Header, Section, content, header_at, index_named, is_empty, names, names_index, section_bytes}
use Rattle.index_model.specs.Cache.{cache_in}
use Rattle.index_model.specs.Faults.{Built, built_of}
use Rattle.reach_model.specs.Added.{Addition, debug_str, is_at, names_start, new_sections, strings_alone, strings_index}
use Rattle.reach_model.specs.AddedIndex.{addition_of, index_section}
use Rattle.reach_model.specs.AddedSections.{HavePlaces}
use Rattle.reach_model.proofs.Accepted.{Accepted, accepted}
use Rattle.reach_model.proofs.BuiltSections.{built_sections}
use Rattle.reach_model.proofs.Indexes.{index_as, index_of}
use Rattle.reach_model.proofs.Kept.{at_some, named_content, names_are}

-- ---- the names are bytes of the file

piece_by : (file : List ℕ) (place size : ℕ) (b : Bool) → length (cond b [] (take size (drop place file))) ≤ length file
piece_by file place size true = omega arith
piece_by file place size false = omega (arith, length-take size (drop place file), length-drop place file)

names_by : (file : List ℕ) (h : Header) (b : Bool) → length (cond b [] (content file h)) ≤ length file
names_by file h true = omega arith
names_by file h false = piece_by file h.at h.size (is_empty h)

pub names_within : (file : List ℕ) → length (names file) ≤ length file
names_within file = names_by file (header_at file (names_index file)) (eqb (names_index file) 0)

short_name : (kind : CacheKind) → length (index_section kind) ≤ 12
short_name Gdb8 = omega arith
short_name Gdb9 = omega arith
short_name Names = omega arith

-- ---- where they begin

module _ (file : List ℕ) (sections : List Section) (ok : Accepted file sections) (small : length file ≤ MAX_FILE_BYTES) where
  below : length (names file) ≤ 1073741824
  below = omega (arith, names_within file, small)

  -- the names' section is that `.debug_str`, where they share it
  shared : (i : ℕ) → index_named sections debug_str ≡ Some i → is_at (names_index file) (Some i) ≡ true → names file ≡ section_bytes sections debug_str
  shared i named is =
      let same : index_named sections debug_str ≡ Some (names_index file) = named ∙ at_some (names_index file) (Some i) is in
      names_are file sections ok ∙ sym (named_content file sections ok debug_str (names_index file) same).0

  module _ (name bytes text : List ℕ) (short : length name ≤ 12) (room : length (section_bytes sections debug_str) + length text ≤ 4294967295) where
    start_by : (i : ℕ) → index_named sections debug_str ≡ Some i → (b : Bool) → is_at (names_index file) (Some i) ≡ b → length (names file) + cond b (length text) 0 < 2 ^ 32
    start_by i named true is = omega (arith, ap length (shared i named is), room)
    start_by i named false is = omega (arith, below)

    places_by : (o : Option ℕ) → index_named sections debug_str ≡ o → HavePlaces (length (names file) + cond (is_at (names_index file) o) (length text) 0) ((record { name = name; content = bytes } ∷ []) ++ strings_alone o (Some text))
    places_by (Some i) named = (start_by i named (is_at (names_index file) (Some i)) refl, tt)
    places_by None named = (omega (arith, below), (omega (arith, below, short), tt))

  places : (name bytes : List ℕ) (strings : Option (List ℕ)) → length name ≤ 12 → ((text : List ℕ) → strings ≡ Some text → length (section_bytes sections debug_str) + length text ≤ 4294967295) → HavePlaces (names_start file sections (index_as name bytes strings)) (new_sections file sections (index_as name bytes strings))
  unfolding names_start new_sections strings_index
  places name bytes None short room = (omega (arith, below), tt)
  places name bytes (Some text) short room = places_by name bytes text short (room text refl) (index_named sections debug_str) refl

-- what is added for the index of a program within the limit
pub places_fit : (file : List ℕ) (b : Built) (kind : CacheKind) (addition : Addition) → length file ≤ MAX_FILE_BYTES → built_of file ≡ Ok b → addition_of (cache_in kind b) ≡ Some addition → HavePlaces (names_start file b.program.sections addition) (new_sections file b.program.sections addition)
places_fit file b kind addition small is add =
    let index = index_of kind b addition add in
    subst (λ (a : Addition). HavePlaces (names_start file b.program.sections a) (new_sections file b.program.sections a)) (sym index.is)
    (places file b.program.sections (accepted file b.program.sections (built_sections file b is)) small (index_section kind) index.bytes index.strings (short_name kind) index.room)
