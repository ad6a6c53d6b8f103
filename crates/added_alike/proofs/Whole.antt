-- The bytes of a program with sections added: what stays, and where the section headers are.
use Rattle.std.proofs.Common.{◌≡◌, ℕ, ◌+◌, ◌*◌, ◌<◌, ◌≤◌, Bool, true, false, cond, eqb, List, [], ◌∷◌, ◌++◌, length, take, drop, refl, ap, ◌∙◌, arith}
use Rattle.std.proofs.lemmas.List.{append_assoc, length-append}
use Rattle.index_model.specs.Sections.{Section, bytes_from, names_index, section_count, table_at}
use Rattle.reach_model.specs.Added.{NewSection, Addition, body, grown_names, grown_strings, headers_at, is_at, names_at, names_start, new_count, new_header, new_headers, new_sections, new_sections_from, old_header, old_headers, padded, name_pieces, section_pieces, string_pieces, strings_at, strings_index}
use Rattle.added_alike.proofs.Bytes.{Begins, begins_first, begins_length, begins_on, drop_behind, length_from}
use Rattle.added_alike.proofs.Pieces.{padded_begins, pieces_begin, start_at}
use Rattle.added_alike.proofs.Chunks.{HaveSixtyFour, behind_all, length_of_all, list_at}
use Rattle.added_alike.proofs.NewHeaders.{length-new_header}
use Rattle.added_alike.proofs.HeaderFields.{length-first_header, length-moved}
use Rattle.reach_model.proofs.Accepted.{Accepted}

length-new_headers : (name place : ℕ) (ss : List NewSection) → length (new_headers name place ss) ≡ 64 * length ss
unfolding new_headers
length-new_headers name place [] = refl
length-new_headers name place (s ∷ ss) =
    let more : List ℕ = new_headers (name + length s.name + 1) (start_at place + length s.content) ss in
    omega (arith, length-append (new_header name (start_at place) (length s.content)) more, length-new_header name (start_at place) (length s.content), length-new_headers (name + length s.name + 1) (start_at place + length s.content) ss)

-- one of four headers has 64 bytes where each has
one_of_four : (a b c : Bool) (k l m n : List ℕ) → length k ≡ 64 → length l ≡ 64 → length m ≡ 64 → length n ≡ 64 → length (cond a k (cond b l (cond c m n))) ≡ 64
one_of_four true b c k l m n p q r s = p
one_of_four false true c k l m n p q r s = q
one_of_four false false true k l m n p q r s = r
one_of_four false false false k l m n p q r s = s

module _ (file : List ℕ) (sections : List Section) (addition : Addition) where
  -- the headers of the sections that are added
  abbrev pub added_headers : List ℕ
  added_headers = new_headers (names_start file sections addition) (new_sections_from file sections addition) (new_sections file sections addition)

  -- the file, but for its ELF header
  abbrev pub whole : List ℕ
  whole = padded (body file sections addition) ++ old_headers file sections addition ++ added_headers

  pub body_begins : Begins file (body file sections addition)
  unfolding body
  body_begins = pieces_begin file (string_pieces file sections addition ++ section_pieces file sections addition ++ name_pieces file sections addition)

  pub body_in_whole : Begins (body file sections addition) whole
  body_in_whole = begins_on (padded_begins (body file sections addition)) (begins_on (begins_first (padded (body file sections addition)) (old_headers file sections addition)) (begins_first (padded (body file sections addition) ++ old_headers file sections addition) added_headers))

  pub whole_begins : Begins file whole
  whole_begins = begins_on body_begins body_in_whole

  -- the program's header at an index
  abbrev pub own_bytes : ℕ → List ℕ
  own_bytes i = bytes_from (table_at file + 64 * i) 64 file

  module _ (ok : Accepted file sections) where
    pub long : 64 ≤ length whole
    long = omega (arith, ok.long, begins_length whole_begins)

    pub length-own : (i : ℕ) → i < section_count file → length (own_bytes i) ≡ 64
    length-own i lt = length_from (table_at file + 64 * i) 64 file (omega (arith, ok.table))

    sixty_four : HaveSixtyFour (old_header file sections addition) 0 (section_count file)
    unfolding old_header
    sixty_four i le lt =
        let size = length-own i (omega arith) in
        one_of_four (eqb i 0) (is_at i (strings_index file sections addition)) (eqb i (names_index file)) _ _ _ _
        (length-first_header (own_bytes i) size (new_count file sections addition) (names_index file))
        (length-moved (own_bytes i) size (strings_at file sections addition) (length (grown_strings file sections addition)))
        (length-moved (own_bytes i) size (names_at file sections addition) (length (grown_names file sections addition)))
        size

    -- ---- the table of section headers

    from_table : (n : ℕ) → drop (headers_at file sections addition + n) whole ≡ drop n (old_headers file sections addition ++ added_headers)
    unfolding headers_at
    from_table n =
        ap (drop (length (padded (body file sections addition)) + n)) (append_assoc (padded (body file sections addition)) (old_headers file sections addition) added_headers)
        ∙ drop_behind (length (padded (body file sections addition)) + n) n (padded (body file sections addition)) (old_headers file sections addition ++ added_headers) refl

    own_header : (i : ℕ) → i < section_count file → bytes_from (64 * i) 64 (old_headers file sections addition ++ added_headers) ≡ old_header file sections addition i
    unfolding old_headers
    own_header i lt =
        let e : 0 + i ≡ i = omega arith in
        list_at (old_header file sections addition) 0 (section_count file) i added_headers sixty_four lt ∙ ap (old_header file sections addition) e

    behind_own : drop (64 * section_count file) (old_headers file sections addition ++ added_headers) ≡ added_headers
    unfolding old_headers
    behind_own = behind_all (old_header file sections addition) 0 (section_count file) added_headers sixty_four

    length-old_headers : length (old_headers file sections addition) ≡ 64 * section_count file
    unfolding old_headers
    length-old_headers = length_of_all (old_header file sections addition) 0 (section_count file) sixty_four

    pub length-whole : length whole ≡ headers_at file sections addition + 64 * new_count file sections addition
    unfolding headers_at
    length-whole = omega (arith, length-append (padded (body file sections addition) ++ old_headers file sections addition) added_headers, length-append (padded (body file sections addition)) (old_headers file sections addition), length-old_headers, length-new_headers (names_start file sections addition) (new_sections_from file sections addition) (new_sections file sections addition))

    pub table_is_late : length file ≤ headers_at file sections addition
    unfolding headers_at
    table_is_late = omega (arith, begins_length body_begins, begins_length (padded_begins (body file sections addition)))

    pub whole_header : (i : ℕ) → i < section_count file → bytes_from (headers_at file sections addition + 64 * i) 64 whole ≡ old_header file sections addition i
    whole_header i lt = ap (take 64) (from_table (64 * i)) ∙ own_header i lt

    pub whole_added : drop (headers_at file sections addition + 64 * section_count file) whole ≡ added_headers
    whole_added = from_table (64 * section_count file) ∙ behind_own
