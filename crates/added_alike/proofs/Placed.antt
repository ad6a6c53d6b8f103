-- Where the pieces stand in a program with sections added.
use Rattle.std.proofs.Common.{◌≡◌, ℕ, ◌+◌, ◌<◌, ◌≤◌, ◌^◌, Bool, false, cond, List, [], ◌∷◌, ◌++◌, length, take, Option, Some, sym, ap, subst, arith}
use Rattle.index_model.specs.Sections.{Section, bytes_from, names_index}
use Rattle.reach_model.specs.Added.{Addition, added, body, grown, grown_names, grown_strings, is_at, name_pieces, names_at, new_sections_from, padded, section_pieces, string_pieces, strings_at, strings_index, with_pieces}
use Rattle.added_alike.proofs.Bytes.{Begins, begins_length, begins_on}
use Rattle.added_alike.proofs.Pieces.{StandFrom, length-padded, pieces_begin, pieces_join, pieces_stand, stand_also, start_at}
use Rattle.reach_model.proofs.Accepted.{Accepted}
use Rattle.added_alike.proofs.Whole.{body_in_whole, whole}
use Rattle.added_alike.proofs.Fields.{drop-added, length-added}

-- the part stands at the place
pub record StandsAt (place : ℕ) (part bytes : List ℕ) : Type 0 where
  pub is : bytes_from place (length part) bytes ≡ part
  pub within : place + length part ≤ length bytes

module _ (file : List ℕ) (sections : List Section) (addition : Addition) where
  abbrev strings : List (List ℕ)
  strings = string_pieces file sections addition

  abbrev contents : List (List ℕ)
  contents = section_pieces file sections addition

  abbrev last : List (List ℕ)
  last = name_pieces file sections addition

  abbrev bytes : List ℕ
  bytes = whole file sections addition

  names_behind : body file sections addition ≡ with_pieces (with_pieces file (strings ++ contents)) last
  unfolding body
  names_behind = pieces_join file (strings ++ contents) last

  contents_behind : with_pieces file (strings ++ contents) ≡ with_pieces (with_pieces file strings) contents
  contents_behind = pieces_join file strings contents

  names_begin : Begins (with_pieces (with_pieces file (strings ++ contents)) last) bytes
  names_begin = subst (λ (w : List ℕ). Begins w bytes) names_behind (body_in_whole file sections addition)

  contents_begin : Begins (with_pieces (with_pieces file strings) contents) bytes
  contents_begin = subst (λ (w : List ℕ). Begins w bytes) contents_behind (begins_on (pieces_begin (with_pieces file (strings ++ contents)) last) names_begin)

  strings_begin : Begins (with_pieces file strings) bytes
  strings_begin = begins_on (pieces_begin (with_pieces file strings) contents) contents_begin

  module _ (ok : Accepted file sections) (fits : length (added file sections addition) < 2 ^ 64) where
    also : (place : ℕ) (cs : List (List ℕ)) → 64 ≤ place → StandFrom bytes place cs → StandFrom (added file sections addition) place cs
    also place cs late stands = stand_also cs place bytes (added file sections addition) (length-added file sections addition ok fits) (λ p n le. ap (take n) (drop-added file sections addition ok fits p le)) late stands

    strings_stand : StandFrom (added file sections addition) (length file) strings
    strings_stand = also (length file) strings ok.long (pieces_stand file strings bytes strings_begin)

    pub late_sections : 64 ≤ new_sections_from file sections addition
    unfolding new_sections_from
    late_sections = omega (arith, ok.long, begins_length (pieces_begin file strings))

    -- the bytes of the sections that are added
    pub contents_stand : StandFrom (added file sections addition) (new_sections_from file sections addition) contents
    unfolding new_sections_from
    contents_stand = also (length (with_pieces file strings)) contents late_sections (pieces_stand (with_pieces file strings) contents bytes contents_begin)

    names_stand : StandFrom (added file sections addition) (length (with_pieces file (strings ++ contents))) last
    names_stand = also (length (with_pieces file (strings ++ contents))) last (omega (arith, ok.long, begins_length (pieces_begin file (strings ++ contents)))) (pieces_stand (with_pieces file (strings ++ contents)) last bytes names_begin)

    first_stands : (at place : ℕ) (part : List ℕ) (cs : List (List ℕ)) → cs ≡ part ∷ [] → at ≡ start_at place → StandFrom (added file sections addition) place cs → StandsAt at part (added file sections addition)
    first_stands at place part cs one e stands =
        let s : StandFrom (added file sections addition) place (part ∷ []) = subst (λ (ds : List (List ℕ)). StandFrom (added file sections addition) place ds) one stands in
        let there : StandsAt (start_at place) part (added file sections addition) = record { is = s.0; within = s.1 } in
        subst (λ (k : ℕ). StandsAt k part (added file sections addition)) (sym e) there

    one_string : (i : ℕ) → strings_index file sections addition ≡ Some i → strings ≡ grown_strings file sections addition ∷ []
    unfolding string_pieces
    one_string i is = ap (λ (o : Option ℕ). grown o (grown_strings file sections addition)) is

    -- the `.debug_str` with the strings, where the program has one
    pub strings_placed : (i : ℕ) → strings_index file sections addition ≡ Some i → StandsAt (strings_at file sections addition) (grown_strings file sections addition) (added file sections addition)
    unfolding strings_at
    strings_placed i is = first_stands (length (padded file)) (length file) (grown_strings file sections addition) strings (one_string i is) (length-padded file) strings_stand

    one_names : is_at (names_index file) (strings_index file sections addition) ≡ false → last ≡ grown_names file sections addition ∷ []
    unfolding name_pieces
    one_names apart = ap (λ (b : Bool). cond b [] (grown_names file sections addition ∷ [])) apart

    -- the names' section with the names, where it is another
    pub names_placed : is_at (names_index file) (strings_index file sections addition) ≡ false → StandsAt (names_at file sections addition) (grown_names file sections addition) (added file sections addition)
    unfolding names_at
    names_placed apart = first_stands (length (padded (with_pieces file (strings ++ contents)))) (length (with_pieces file (strings ++ contents))) (grown_names file sections addition) last (one_names apart) (length-padded (with_pieces file (strings ++ contents))) names_stand
