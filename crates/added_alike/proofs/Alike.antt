-- A program with sections added is a file of these sections, and of those that it had.
use Rattle.std.proofs.Common.{◌≡◌, ℕ, ◌+◌, ◌*◌, ◌-◌, ◌<◌, ◌≤◌, ◌^◌, Bool, true, eqb, ◌||◌, List, ◌++◌, length, drop, flat_map, map, codes, Ok, refl, sym, ap, ◌∙◌, subst, arith, length-append}
use Rattle.std.specs.List.{enumerate_from}
use Rattle.index_model.specs.Sections.{Section, fits, header_at, headers_from, magic, names, names_fit, names_index, section_bytes, section_count, sections_from, sections_of, table_at}
use Rattle.reach_model.specs.Added.{NewSection, Addition, added, headers_at, names_start, new_names, new_sections, new_sections_from, section_pieces}
use Rattle.reach_model.specs.AddedSections.{Fits, IsClearOfTheHeader, more_at, new_section, old_section, sections_then}
use Rattle.reach_model.proofs.Accepted.{Accepted, accepted, is_accepted}
use Rattle.added_alike.proofs.Bytes.{same_start}
use Rattle.added_alike.proofs.Contents.{or_true}
use Rattle.added_alike.proofs.Fields.{count_added, drop-added, front_added, front_field, header_size_added, length-added, names_index_added, table_added, table_late}
use Rattle.added_alike.proofs.Grown.{names_grown}
use Rattle.added_alike.proofs.GrownNames.{new_names_there}
use Rattle.reach_model.proofs.Found.{found_by}
use Rattle.added_alike.proofs.Named.{found_old}
use Rattle.added_alike.proofs.NewSections.{ended_name, new_sections_are, plain}
use Rattle.added_alike.proofs.OldSections.{old_sections}
use Rattle.added_alike.proofs.Pieces.{StandFrom}
use Rattle.added_alike.proofs.Placed.{contents_stand}
use Rattle.added_alike.proofs.PlainNames.{new_are_names, new_are_plain, old_are_plain, without_zeros}
use Rattle.reach_model.proofs.Read.{ArePlain, all_plain, joined}
use Rattle.added_alike.proofs.Whole.{added_headers, length-whole, long, whole_added}

-- a program that may be added to, where the index of its names' section has four bytes, as the link of section 0 has
module _ (file : List ℕ) (sections : List Section) (addition : Addition) (ok : Accepted file sections) (clear : IsClearOfTheHeader file) (allowed : Fits file sections addition) (small : names_index file < 2 ^ 32) where
  abbrev then_ : List ℕ
  then_ = added file sections addition

  abbrev news : List NewSection
  news = new_sections file sections addition

  abbrev all : List Section
  all = sections_then file sections addition

  size : length then_ < 2 ^ 64
  size = allowed.size

  -- ---- its sections

  headers_there : drop (headers_at file sections addition + 64 * section_count file) then_ ≡ added_headers file sections addition
  headers_there = drop-added file sections addition ok size (headers_at file sections addition + 64 * section_count file) (omega (arith, table_late file sections addition ok size)) ∙ whole_added file sections addition ok

  names_there : drop (names_start file sections addition) (names then_) ≡ flat_map ended_name news
  unfolding new_names
  names_there = new_names_there file sections addition ok size clear small

  contents_there : StandFrom then_ (new_sections_from file sections addition) (map (λ s. s.content) news)
  unfolding section_pieces
  contents_there = contents_stand file sections addition ok size

  new_ones : sections_from then_ (section_count file) (headers_from then_ (section_count file) (length news)) ≡ Ok (map plain news)
  new_ones = new_sections_are then_ (headers_at file sections addition) (table_added file sections addition ok size) size news (section_count file) (names_start file sections addition) (new_sections_from file sections addition)
      headers_there names_there contents_there allowed.places (without_zeros news (new_are_names file sections addition allowed.names))

  all_are : all ≡ map (old_section file sections addition) (enumerate_from 1 sections) ++ map plain news
  unfolding sections_then new_section
  all_are = refl

  all_read : sections_from then_ 1 (headers_from then_ 1 (section_count then_ - 1)) ≡ Ok all
  all_read =
      let back : 1 + (section_count file - 1) ≡ section_count file = omega (arith, ok.names_index) in
      let count : section_count file - 1 + length news ≡ section_count then_ - 1 = omega (arith, ok.names_index, count_added file sections addition ok size) in
      let behind = subst (λ (k : ℕ). sections_from then_ k (headers_from then_ k (length news)) ≡ Ok (map plain news)) (sym back) new_ones in
      let joint = joined then_ (section_count file - 1) 1 (length news) (map (old_section file sections addition) (enumerate_from 1 sections)) (map plain news) (old_sections file sections addition ok size clear small) behind in
      subst (λ (k : ℕ). sections_from then_ 1 (headers_from then_ 1 k) ≡ Ok all) count (subst (λ (ss : List Section). sections_from then_ 1 (headers_from then_ 1 (section_count file - 1 + length news)) ≡ Ok ss) (sym all_are) joint)

  all_are_plain : ArePlain all
  all_are_plain = subst ArePlain (sym all_are) (all_plain (map (old_section file sections addition) (enumerate_from 1 sections)) (map plain news) (old_are_plain file sections addition sections 1 ok.plain) (new_are_plain news (new_are_names file sections addition allowed.names)))

  -- ---- its `.debug_info`

  abbrev info : List ℕ
  info = codes ".debug_info"

  info_there : 0 < length (section_bytes all info)
  info_there =
      let e = found_by sections info ok.info in
      let whole_info = found_old file sections addition info e.0 e.1 in
      omega (arith, ap length whole_info, length-append e.0.1.content (more_at file sections addition e.0.0), e.2)

  -- ---- its table of section headers

  table_within : table_at then_ + 64 * section_count then_ ≤ length then_
  table_within = omega (arith, table_added file sections addition ok size, count_added file sections addition ok size, length-added file sections addition ok size, length-whole file sections addition ok)

  index_within : names_index then_ < section_count then_
  index_within = omega (arith, names_index_added file sections addition ok size small, count_added file sections addition ok size, ok.names_index)

  names_inside : names_fit then_ ≡ true
  names_inside = subst (λ (k : ℕ). (eqb k 0 || fits then_ (header_at then_ k)) ≡ true) (sym (names_index_added file sections addition ok size small))
      (ap (λ (b : Bool). eqb (names_index file) 0 || b) (names_grown file sections addition ok size clear).fits ∙ or_true (eqb (names_index file) 0))

  -- ---- the file

  abbrev kinds : ℕ → Bool
  kinds k = eqb k 2 || eqb k 3

  then_is : Accepted then_ all
  then_is = record {
    long = omega (arith, length-added file sections addition ok size, long file sections addition ok);
    magic = same_start magic then_ file 4 (omega arith) (front_added file sections addition ok size 0 4 (omega arith)) ∙ ok.magic;
    wide = front_field file sections addition ok size 1 4 (omega arith) ∙ ok.wide;
    low_first = front_field file sections addition ok size 1 5 (omega arith) ∙ ok.low_first;
    kind = ap kinds (front_field file sections addition ok size 2 16 (omega arith)) ∙ ok.kind;
    header_size = header_size_added file sections addition ok size ∙ ok.header_size;
    table = table_within;
    names_index = index_within;
    names_fit = names_inside;
    sections = all_read;
    plain = all_are_plain;
    info = info_there;
  }

  pub sections_then_are : sections_of then_ ≡ Ok all
  sections_then_are = is_accepted then_ all then_is

-- the law, where that index has four bytes
pub sections_are_added_below : (file : List ℕ) (sections : List Section) (addition : Addition) → sections_of file ≡ Ok sections → IsClearOfTheHeader file → Fits file sections addition → names_index file < 2 ^ 32 → sections_of (added file sections addition) ≡ Ok (sections_then file sections addition)
sections_are_added_below file sections addition is clear allowed small = sections_then_are file sections addition (accepted file sections is) clear allowed small
