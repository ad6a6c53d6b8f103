-- The parts, put together as the code does it, are the program with what is added.
use Rattle.std.proofs.Common.{◌≡◌, ℕ, ◌+◌, ◌*◌, ◌≤◌, Bool, true, false, cond, eqb, List, [], ◌∷◌, ◌++◌, length, map, Option, Some, None, option_map, unwrap_or, refl, subst, sym, ap, ◌∙◌, arith}
use Rattle.std.specs.Prelude.{flat_map, replicate}
use Rattle.std.proofs.lemmas.Bool.{eqb-true, eqb-false, ne_eqb, eq-eqb}
use Rattle.std.proofs.lemmas.List.{length-append, length-map}
use Rattle.common_laws.proofs.Appended.{flat_map-map}
use Rattle.common_laws.proofs.Filters.{map_map}
use Rattle.index_model.specs.Layout.{below, ended}
use Rattle.index_model.specs.Sections.{Section, bytes_from, names, names_index, section_bytes, section_count, table_at}
use Rattle.reach_model.specs.Added.{Addition, NewSection as NewSectionOf, added, body, count_field, debug_str, first_header, grown, grown_names, grown_strings, headers_at, index_field, is_at, more_strings, moved, name_pieces, names_at, names_start, new_headers, new_names, new_sections, new_sections_from, old_header, old_headers, padded, padding, put, section_pieces, shares, string_pieces, strings_at, strings_index, with_pieces}
use Rattle.reach_model.specs.AddedSections.{HavePlaces}
use Rattle.elf_add.specs.declared.pieces.Grown.{Grown}
use Rattle.elf_add.specs.declared.pieces.Moved.{Moved}
use Rattle.elf_add.specs.declared.parts.AddedProgram.{AddedProgram}
use Rattle.elf_add.specs.declared.old_headers.Changes.{Changes}
use Rattle.elf_add.specs.Headers.{moved_at, with_place}
use Rattle.elf_add.specs.Parts.{IsPartsOf, IsStrings, first_behind, first_name_of, name_piece, named_in, names_moved, pieces_of_names, pieces_of_strings, shares_of, strings_grown, strings_moved}
use Rattle.elf_add.specs.Pieces.{content_of, grown_bytes, names_of, section_of}
use Rattle.elf_add.proofs.OldHeaders.{header_in}

-- ---- pieces

pieces_append : (xs ys : List (List ℕ)) (b : List ℕ) → with_pieces b (xs ++ ys) ≡ with_pieces (with_pieces b xs) ys
unfolding with_pieces
pieces_append [] ys b = refl
pieces_append (x ∷ xs) ys b = pieces_append xs ys (padded b ++ x)

padded_grows : (b : List ℕ) → length b ≤ length (padded b)
unfolding padded
padded_grows b = omega (arith, length-append b (replicate (padding (length b)) 0))

pieces_grow : (ps : List (List ℕ)) (b : List ℕ) → length b ≤ length (with_pieces b ps)
unfolding with_pieces
pieces_grow [] b = omega arith
pieces_grow (p ∷ ps) b = omega (arith, padded_grows b, length-append (padded b) p, pieces_grow ps (padded b ++ p))

-- ---- the place of a section whose bytes were placed anew

module _ (i ni : ℕ) (sa ss na ns : ℕ) (h : List ℕ) where
  abbrev strings_in : Option ℕ → Option Moved
  strings_in o = option_map (λ j. record { index = j; at = sa; size = ss }) o

  abbrev names_in : Option ℕ → Option Moved
  names_in o = cond (is_at ni o) None (Some (record { index = ni; at = na; size = ns }))

  abbrev place_then : Option ℕ → List ℕ
  place_then o = cond (is_at i o) (moved sa ss h) (cond (eqb i ni) (moved na ns h) h)

  same_test : eqb ni i ≡ eqb i ni
  same_test = by (eqb i ni) refl
    where
      by : (b : Bool) → eqb i ni ≡ b → eqb ni i ≡ b
      by true e = eq-eqb ni i (sym (eqb-true i ni e))
      by false e = ne_eqb ni i (λ same. eqb-false i ni e (sym same))

  names_alone : with_place (moved_at i None (Some (record { index = ni; at = na; size = ns }))) h ≡ cond (eqb i ni) (moved na ns h) h
  names_alone = by (eqb ni i) same_test
    where
      by : (b : Bool) → b ≡ eqb i ni → with_place (cond b (Some (record { index = ni; at = na; size = ns })) None) h ≡ cond (eqb i ni) (moved na ns h) h
      by true e = rw (← e) refl
      by false e = rw (← e) refl

  place_is : (o : Option ℕ) → with_place (moved_at i (strings_in o) (names_in o)) h ≡ place_then o
  place_is None = names_alone
  place_is (Some j) = by (eqb j i) (eqb j ni) refl refl
    where
      by : (a b : Bool) → eqb j i ≡ a → eqb j ni ≡ b
          → with_place (cond a (Some (record { index = j; at = sa; size = ss })) (moved_at i None (cond b None (Some (record { index = ni; at = na; size = ns }))))) h ≡ cond a (moved sa ss h) (cond (eqb i ni) (moved na ns h) h)
      by true b e f = refl
      by false true e f =
          let apart : eqb i ni ≡ false = ne_eqb i ni (λ same. eqb-false j i e (eqb-true j ni f ∙ sym same)) in
          rw apart refl
      by false false e f = names_alone

-- ---- the parts

agree : (f g : ℕ → List ℕ) → ((i : ℕ) → f i ≡ g i) → (xs : List ℕ) → flat_map f xs ≡ flat_map g xs
agree f g same [] = refl
agree f g same (x ∷ xs) = ap (λ ys. ys ++ flat_map f xs) (same x) ∙ ap (λ ys. g x ++ ys) (agree f g same xs)

module _ (p : AddedProgram) (file : List ℕ) (sections : List Section) (addition : Addition) (is : IsPartsOf p file sections addition) where
  shares_is : shares_of p ≡ shares file sections addition
  shares_is = ap (λ i. is_at i (option_map (λ g. g.index) p.strings)) is.names_index ∙ ap (is_at (names_index file)) is.strings_index

  contents_are : map content_of p.added.now ≡ section_pieces file sections addition
  unfolding section_pieces
  contents_are = sym (map_map section_of (λ s. s.content) p.added.now) ∙ ap (map (λ s. s.content)) is.added

  names_are : names_of p.added.now ≡ new_names file sections addition
  unfolding new_names
  names_are = sym (flat_map-map (λ s. ended s.name) section_of p.added.now) ∙ ap (flat_map (λ s. ended s.name)) is.added

  -- ---- `.debug_str`

  named_are : (b : Bool) → names_of (named_in b p.added.now) ≡ cond b (new_names file sections addition) []
  named_are true = names_are
  named_are false = refl

  strings_are : (g : Grown) → IsStrings (section_bytes sections debug_str) (unwrap_or addition.strings []) (Some g)
      → grown_bytes g (named_in (shares_of p) p.added.now) ≡ grown_strings file sections addition
  unfolding grown_strings more_strings
  strings_are g (own, more) =
      let names = names_of (named_in (shares_of p) p.added.now) in
      ap (λ xs. xs ++ (g.more.now ++ names)) own
      ∙ ap (λ xs. section_bytes sections debug_str ++ (xs ++ names)) more
      ∙ ap (λ xs. section_bytes sections debug_str ++ (unwrap_or addition.strings [] ++ xs)) (named_are (shares_of p) ∙ ap (λ b. cond b (new_names file sections addition) []) shares_is)

  strings_pieces : pieces_of_strings p ≡ string_pieces file sections addition
  unfolding string_pieces
  strings_pieces = by p.strings (strings_index file sections addition) is.strings_index is.strings
    where
      by : (o : Option Grown) (i : Option ℕ) → option_map (λ g. g.index) o ≡ i → IsStrings (section_bytes sections debug_str) (unwrap_or addition.strings []) o
          → strings_grown p o ≡ grown i (grown_strings file sections addition)
      by None None e h = refl
      by None (Some i) e h = absurd cc
      by (Some g) None e h = absurd cc
      by (Some g) (Some i) e h = ap (λ xs. xs ∷ []) (strings_are g h)

  strings_place : strings_moved p file ≡ option_map (λ j. record { index = j; at = strings_at file sections addition; size = length (grown_strings file sections addition) }) (strings_index file sections addition)
  unfolding strings_at
  strings_place = by p.strings is.strings ∙ ap (option_map {U = Moved} (λ j. record { index = j; at = length (padded file); size = length (grown_strings file sections addition) })) is.strings_index
    where
      by : (o : Option Grown) → IsStrings (section_bytes sections debug_str) (unwrap_or addition.strings []) o
          → option_map {U = Moved} (λ g. record { index = g.index; at = length (padded file); size = length (grown_bytes g (named_in (shares_of p) p.added.now)) }) o
          ≡ option_map {U = Moved} (λ j. record { index = j; at = length (padded file); size = length (grown_strings file sections addition) }) (option_map (λ g. g.index) o)
      by None h = refl
      by (Some g) h = ap (λ xs. Some (record { index = g.index; at = length (padded file); size = length xs })) (strings_are g h)

  first_name_is : first_name_of p ≡ names_start file sections addition
  unfolding names_start
  first_name_is =
      by p.strings (shares_of p) refl is.strings
      ∙ ap (λ b. length p.names.now + cond b (length (unwrap_or addition.strings [])) 0) shares_is
      ∙ ap (λ xs. length xs + cond (shares file sections addition) (length (unwrap_or addition.strings [])) 0) is.names
    where
      by : (o : Option Grown) (b : Bool) → b ≡ is_at p.names_index (option_map (λ g. g.index) o) → IsStrings (section_bytes sections debug_str) (unwrap_or addition.strings []) o
          → first_behind b (length p.names.now) o ≡ length p.names.now + cond b (length (unwrap_or addition.strings [])) 0
      by None true e h = absurd cc
      by None false e h = omega arith
      by (Some g) true e (own, more) = ap (λ xs. length p.names.now + length xs) more
      by (Some g) false e h = omega arith

  -- the names of the added sections have places
  pub places_are : HavePlaces (names_start file sections addition) (new_sections file sections addition) → HavePlaces (first_name_of p) (map section_of p.added.now)
  places_are h =
      let P : ℕ → Type 0 = λ n. HavePlaces n (map section_of p.added.now) in
      let Q : List NewSectionOf → Type 0 = λ ss. HavePlaces (names_start file sections addition) ss in
      subst P (sym first_name_is) (subst Q (sym is.added) h)

  -- ---- the names' section

  name_is : name_piece p ≡ grown_names file sections addition
  unfolding grown_names
  name_is = ap (λ xs. xs ++ names_of p.added.now) is.names ∙ ap (λ xs. names file ++ xs) names_are

  names_pieces : pieces_of_names p ≡ name_pieces file sections addition
  unfolding name_pieces
  names_pieces = ap (λ b. cond b [] (name_piece p ∷ [])) shares_is ∙ ap (λ xs. cond (shares file sections addition) [] (xs ∷ [])) name_is

  names_place : (before : List ℕ) → before ≡ with_pieces file (string_pieces file sections addition ++ section_pieces file sections addition)
      → names_moved p before ≡ cond (shares file sections addition) None (Some (record { index = names_index file; at = names_at file sections addition; size = length (grown_names file sections addition) }))
  unfolding names_at
  names_place before e =
      ap (λ b. cond b None (Some (record { index = p.names_index; at = length (padded before); size = length (name_piece p) }))) shares_is
      ∙ ap (λ i. cond (shares file sections addition) None (Some (record { index = i; at = length (padded before); size = length (name_piece p) }))) is.names_index
      ∙ ap (λ xs. cond (shares file sections addition) None (Some (record { index = names_index file; at = length (padded xs); size = length (name_piece p) }))) e
      ∙ ap (λ xs. cond (shares file sections addition) None (Some (record { index = names_index file; at = length (padded (with_pieces file (string_pieces file sections addition ++ section_pieces file sections addition))); size = length xs }))) name_is

  -- ---- headers

  abbrev changes_then : Changes
  changes_then = record {
    count = section_count file + length (new_sections file sections addition);
    names_index = names_index file;
    strings = option_map (λ j. record { index = j; at = strings_at file sections addition; size = length (grown_strings file sections addition) }) (strings_index file sections addition);
    names = cond (shares file sections addition) None (Some (record { index = names_index file; at = names_at file sections addition; size = length (grown_names file sections addition) }));
  }

  header_is : (i : ℕ) → header_in file changes_then i ≡ old_header file sections addition i
  unfolding old_header
  header_is i =
      let h = bytes_from (table_at file + 64 * i) 64 file in
      ap (cond (eqb i 0) (first_header (section_count file + length (new_sections file sections addition)) (names_index file) h))
      (place_is i (names_index file) (strings_at file sections addition) (length (grown_strings file sections addition)) (names_at file sections addition) (length (grown_names file sections addition)) h (strings_index file sections addition))

  headers_are : flat_map (header_in file changes_then) (below (section_count file)) ≡ old_headers file sections addition
  unfolding old_headers
  headers_are = agree (header_in file changes_then) (old_header file sections addition) header_is (below (section_count file))

-- ---- the whole

-- what the code appends, step by step
pub record IsJoined (p : AddedProgram) (b1 b2 b3 b4 b5 b6 b7 : List ℕ) (strings names : Option Moved) (count first_name end : ℕ) : Type 0 where
  pub of_file : b1 ≡ p.file.now
  pub of_strings : b2 ≡ with_pieces b1 (pieces_of_strings p)
  pub of_sections : b3 ≡ with_pieces b2 (map content_of p.added.now)
  pub of_names : b4 ≡ with_pieces b3 (pieces_of_names p)
  pub of_zeros : b5 ≡ padded b4
  pub of_old : b6 ≡ b5 ++ flat_map (header_in p.file.now (record { count = count; names_index = p.names_index; strings = strings; names = names })) (below p.count)
  pub of_new : b7 ≡ b6 ++ new_headers first_name end (map section_of p.added.now)
  pub strings_place : strings ≡ strings_moved p b1
  pub names_place : names ≡ names_moved p b3
  pub count_is : count ≡ p.count + length p.added.now
  pub first_is : first_name ≡ first_name_of p
  pub end_is : end ≡ length b2

module _ (p : AddedProgram) (b1 b2 b3 b4 b5 b6 b7 : List ℕ) (strings names : Option Moved) (count first_name end : ℕ) (j : IsJoined p b1 b2 b3 b4 b5 b6 b7 strings names count first_name end) where
  -- the ELF header lies in it
  pub joined_long : 64 ≤ length p.file.now → 64 ≤ length b7
  joined_long long =
      let one = ap length j.of_file in
      let two = pieces_grow (pieces_of_strings p) b1 in
      let three = pieces_grow (map content_of p.added.now) b2 in
      let four = pieces_grow (pieces_of_names p) b3 in
      let five = padded_grows b4 in
      omega (
        arith,
        one,
        two,
        three,
        four,
        five,
        ap length j.of_strings,
        ap length j.of_sections,
        ap length j.of_names,
        ap length j.of_zeros,
        ap length j.of_old,
        ap length j.of_new,
        length-append {A = ℕ},
      )

  module _ (file : List ℕ) (sections : List Section) (addition : Addition) (is : IsPartsOf p file sections addition) where
    first_is : b1 ≡ file
    first_is = j.of_file ∙ is.whole

    second_is : b2 ≡ with_pieces file (string_pieces file sections addition)
    second_is = j.of_strings ∙ ap (λ b. with_pieces b (pieces_of_strings p)) first_is ∙ ap (with_pieces file) (strings_pieces p file sections addition is)

    third_is : b3 ≡ with_pieces file (string_pieces file sections addition ++ section_pieces file sections addition)
    third_is =
        j.of_sections ∙ ap (λ b. with_pieces b (map content_of p.added.now)) second_is
        ∙ ap (with_pieces (with_pieces file (string_pieces file sections addition))) (contents_are p file sections addition is)
        ∙ sym (pieces_append (string_pieces file sections addition) (section_pieces file sections addition) file)

    fourth_is : b4 ≡ body file sections addition
    unfolding body
    fourth_is =
        j.of_names ∙ ap (λ b. with_pieces b (pieces_of_names p)) third_is
        ∙ ap (with_pieces (with_pieces file (string_pieces file sections addition ++ section_pieces file sections addition))) (names_pieces p file sections addition is)
        ∙ sym (pieces_append (string_pieces file sections addition ++ section_pieces file sections addition) (name_pieces file sections addition) file)

    fifth_is : b5 ≡ padded (body file sections addition)
    fifth_is = j.of_zeros ∙ ap padded fourth_is

    count_is : count ≡ section_count file + length (new_sections file sections addition)
    count_is = omega (arith, j.count_is, is.count, ap length is.added, length-map p.added.now section_of)

    changes_are : record { count = count; names_index = p.names_index; strings = strings; names = names } ≡ changes_then p file sections addition is
    changes_are =
        ap (λ n. record { count = n; names_index = p.names_index; strings = strings; names = names }) count_is
        ∙ ap (λ n. record { count = section_count file + length (new_sections file sections addition); names_index = n; strings = strings; names = names }) is.names_index
        ∙ ap (λ o. record { count = section_count file + length (new_sections file sections addition); names_index = names_index file; strings = o; names = names })
        (j.strings_place ∙ ap (strings_moved p) first_is ∙ strings_place p file sections addition is)
        ∙ ap (λ o. record { count = section_count file + length (new_sections file sections addition); names_index = names_index file; strings = (changes_then p file sections addition is).strings; names = o })
        (j.names_place ∙ names_place p file sections addition is b3 third_is)

    sixth_is : b6 ≡ padded (body file sections addition) ++ old_headers file sections addition
    sixth_is =
        j.of_old
        ∙ ap (λ b. b ++ flat_map (header_in p.file.now (record { count = count; names_index = p.names_index; strings = strings; names = names })) (below p.count)) fifth_is
        ∙ ap (λ xs. padded (body file sections addition) ++ xs) (
        ap (λ f. flat_map (header_in f (record { count = count; names_index = p.names_index; strings = strings; names = names })) (below p.count)) is.whole
        ∙ ap (λ c. flat_map (header_in file c) (below p.count)) changes_are
        ∙ ap (λ n. flat_map (header_in file (changes_then p file sections addition is)) (below n)) is.count
        ∙ headers_are p file sections addition is
        )

    new_are : new_headers first_name end (map section_of p.added.now) ≡ new_headers (names_start file sections addition) (new_sections_from file sections addition) (new_sections file sections addition)
    unfolding new_sections_from
    new_are =
        ap (λ n. new_headers n end (map section_of p.added.now)) (j.first_is ∙ first_name_is p file sections addition is)
        ∙ ap (λ n. new_headers (names_start file sections addition) n (map section_of p.added.now)) (j.end_is ∙ ap length second_is)
        ∙ ap (new_headers (names_start file sections addition) (length (with_pieces file (string_pieces file sections addition)))) is.added

    seventh_is : b7 ≡ padded (body file sections addition) ++ old_headers file sections addition ++ new_headers (names_start file sections addition) (new_sections_from file sections addition) (new_sections file sections addition)
    seventh_is = j.of_new ∙ ap (λ b. b ++ new_headers first_name end (map section_of p.added.now)) sixth_is ∙ ap (λ xs. padded (body file sections addition) ++ old_headers file sections addition ++ xs) new_are

    pub joined_is : (at : ℕ) (out : List ℕ) → at ≡ length b5 → out ≡ put 2 62 (index_field p.names_index) (put 2 60 (count_field count) (put 8 40 at b7)) → out ≡ added file sections addition
    unfolding added headers_at
    joined_is at out at_is out_is =
        out_is
        ∙ ap (λ i. put 2 62 (index_field i) (put 2 60 (count_field count) (put 8 40 at b7))) is.names_index
        ∙ ap (λ n. put 2 62 (index_field (names_index file)) (put 2 60 (count_field n) (put 8 40 at b7))) count_is
        ∙ ap (λ n. put 2 62 (index_field (names_index file)) (put 2 60 (count_field (section_count file + length (new_sections file sections addition))) (put 8 40 n b7))) (at_is ∙ ap length fifth_is)
        ∙ ap (λ b. put 2 62 (index_field (names_index file)) (put 2 60 (count_field (section_count file + length (new_sections file sections addition))) (put 8 40 (length (padded (body file sections addition))) b))) seventh_is
