-- The sections that are added, in the file with them.
use Rattle.std.proofs.Common.{◌≡◌, ℕ, ◌+◌, ◌*◌, ◌<◌, ◌≤◌, ◌^◌, List, [], ◌∷◌, ◌++◌, length, take, drop, map, flat_map, Ok, refl, sym, ap, ◌∙◌, subst, arith}
use Rattle.std.specs.List.{AllByRecursion as AllOf}
use Rattle.std.proofs.lemmas.List.{append_assoc, drop-drop, length-append}
use Rattle.ix_base.specs.Reading.{before_zero}
use Rattle.index_model.specs.Layout.{ended}
use Rattle.index_model.specs.Sections.{Header, Section, header, header_at, headers_from, names, sections_from, table_at}
use Rattle.reach_model.specs.Added.{NewSection, new_headers}
use Rattle.reach_model.specs.AddedSections.{HavePlaces}
use Rattle.added_alike.proofs.Bytes.{drop_behind}
use Rattle.added_alike.proofs.Contents.{content_there, fits_there}
use Rattle.added_alike.proofs.NewHeaders.{behind_first, first_of, new_header_is}
use Rattle.added_alike.proofs.Pieces.{StandFrom, start_at}
use Rattle.added_alike.proofs.Placed.{StandsAt}
use Rattle.reach_model.proofs.Read.{IsSection, no_sections, with_first}
use Rattle.added_alike.proofs.Texts.{HasNoZero, text_is}

-- a section without flags
abbrev pub plain : NewSection → Section
plain s = record { name = s.name; flags = 0; content = s.content }

abbrev pub ended_name : NewSection → List ℕ
ended_name s = ended s.name

-- the header of an added section, as it is read
abbrev read_header : ℕ → ℕ → ℕ → Header
read_header name place size = record { name = name; kind = 1; flags = 0; at = place; size = size; link = 0 }

module _ (f : List ℕ) (table : ℕ) (there : table_at f ≡ table) (short : length f < 2 ^ 64) where
  -- a section by its header
  by_header : (name place : ℕ) (s : NewSection) (rest : List ℕ) → drop name (names f) ≡ s.name ++ 0 ∷ rest → StandsAt place s.content f → HasNoZero s.name → IsSection f (read_header name place (length s.content)) (plain s)
  by_header name place s rest named stands none =
      let h : Header = read_header name place (length s.content) in
      record {
        fits = fits_there f h s.content refl refl stands;
        name = ap before_zero named ∙ text_is s.name rest none;
        flags = refl;
        content = sym (content_there f h s.content refl refl stands);
      }

  -- the header at an index
  header_is : (i name place : ℕ) (s : NewSection) (others : List NewSection) → drop (table + 64 * i) f ≡ new_headers name place (s ∷ others) → name < 2 ^ 32 → start_at place + length s.content ≤ length f → header_at f i ≡ read_header name (start_at place) (length s.content)
  unfolding header_at
  header_is i name place s others headers low within =
      ap (λ (t : ℕ). header (take 64 (drop (t + 64 * i) f))) there
      ∙ ap (λ (w : List ℕ). header (take 64 w)) headers
      ∙ ap header (first_of name place s others)
      ∙ new_header_is name (start_at place) (length s.content) low (omega arith) (omega arith)

  apart : (s : NewSection) (others : List NewSection) → flat_map ended_name (s ∷ others) ≡ s.name ++ 0 ∷ flat_map ended_name others
  apart s others = append_assoc s.name (0 ∷ []) (flat_map ended_name others)

  pub new_sections_are : (ss : List NewSection) (i name place : ℕ) → drop (table + 64 * i) f ≡ new_headers name place ss → drop name (names f) ≡ flat_map ended_name ss → StandFrom f place (map (λ s. s.content) ss) → HavePlaces name ss → AllOf (λ s. HasNoZero s.name) ss
      → sections_from f i (headers_from f i (length ss)) ≡ Ok (map plain ss)
  new_sections_are [] i name place headers named stand places none = no_sections f i
  new_sections_are (s ∷ ss) i name place headers named stand places none =
      let is = header_is i name place s ss headers places.0 stand.1 in
      let own : StandsAt (start_at place) s.content f = record { is = stand.0; within = stand.1 } in
      let first = by_header name (start_at place) s (flat_map ended_name ss) (named ∙ apart s ss) own none.0 in
      let here : IsSection f (header_at f i) (plain s) = subst (λ (h : Header). IsSection f h (plain s)) (sym is) first in
      let e : table + 64 * i + 64 ≡ table + 64 * (i + 1) = omega arith in
      let next : drop (table + 64 * (i + 1)) f ≡ new_headers (name + length s.name + 1) (start_at place + length s.content) ss =
      ap (λ (k : ℕ). drop k f) (sym e) ∙ sym (drop-drop 64 (table + 64 * i) f) ∙ ap (drop 64) headers ∙ behind_first name place s ss in
      let size : length (ended_name s) + 0 ≡ length s.name + 1 = omega (arith, length-append s.name (0 ∷ [])) in
      let n : name + (length s.name + 1) ≡ name + length s.name + 1 = omega arith in
      let further : drop (name + length s.name + 1) (names f) ≡ flat_map ended_name ss =
      ap (λ (k : ℕ). drop k (names f)) (sym n) ∙ sym (drop-drop (length s.name + 1) name (names f)) ∙ ap (drop (length s.name + 1)) named ∙ drop_behind (length s.name + 1) 0 (ended_name s) (flat_map ended_name ss) size in
      let others = new_sections_are ss (i + 1) (name + length s.name + 1) (start_at place + length s.content) next further stand.2 places.1 none.1 in
      with_first f i (length ss) (plain s) (map plain ss) here others
