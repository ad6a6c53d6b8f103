-- One section more in each of the lists that go over the added sections.
use Rattle.std.proofs.Common.{◌≡◌, ℕ, ◌+◌, ◌<◌, List, [], ◌∷◌, ◌++◌, length, get_or, drop, map, refl, subst, sym, ap, ◌∙◌, arith}
use Rattle.std.proofs.lemmas.List.{append_assoc, at_drop_more, drop_more}
use Rattle.reach_model.specs.Added.{new_header, new_headers, padded, padding, with_pieces}
use Rattle.reach_model.specs.AddedSections.{HavePlaces}
use Rattle.elf_add.specs.declared.pieces.NewSection.{NewSection}
use Rattle.elf_add.specs.Pieces.{content_of, section_of}

-- ---- pieces

pub no_piece : (bytes : List ℕ) → with_pieces bytes [] ≡ bytes
unfolding with_pieces
no_piece bytes = refl

first_piece : (bytes piece : List ℕ) (others : List (List ℕ)) → with_pieces bytes (piece ∷ others) ≡ with_pieces (padded bytes ++ piece) others
unfolding with_pieces
first_piece bytes piece others = refl

-- without a section
abbrev pub blank : NewSection
blank = record { name = record { ref_ptr = (0, 0); now = [] }; content = record { ref_ptr = (0, 0); now = [] } }

module _ (ss : List NewSection) (i : ℕ) (lt : i < length ss) where
  -- the section at i, and those behind it
  abbrev here : NewSection
  here = get_or ss i blank

  abbrev behind : List NewSection
  behind = drop (i + 1) ss

  pub next_piece : (bytes more : List ℕ) → more ≡ padded bytes ++ content_of here → with_pieces bytes (map content_of (drop i ss)) ≡ with_pieces more (map content_of behind)
  next_piece bytes more one =
      at_drop_more (λ xs. with_pieces bytes (map content_of xs)) ss i blank lt
      ∙ first_piece bytes (content_of here) (map content_of behind)
      ∙ ap (λ xs. with_pieces xs (map content_of behind)) (sym one)

  -- the header of the section at i, whose bytes begin at start
  pub next_header : (name place start : ℕ) (bytes more before : List ℕ) → start ≡ place + padding place
      → more ≡ bytes ++ new_header name start (length (content_of here))
      → bytes ++ new_headers name place (map section_of (drop i ss)) ≡ before
      → more ++ new_headers (name + (length here.name.now + 1)) (start + length (content_of here)) (map section_of behind) ≡ before
  unfolding new_headers
  next_header name place start bytes more before at one h =
      let e : name + (length here.name.now + 1) ≡ name + length here.name.now + 1 = omega arith in
      let step : new_headers name place (map section_of (drop i ss)) ≡ new_header name start (length (content_of here)) ++ new_headers (name + length here.name.now + 1) (start + length (content_of here)) (map section_of behind) =
      at_drop_more (λ xs. new_headers name place (map section_of xs)) ss i blank lt ∙ rw at refl in
      rw (one, e, append_assoc, ← step) h

  -- the name of the section at i has a place, and those of the sections behind it
  places_from : (name : ℕ) → HavePlaces name (map section_of (drop i ss)) → HavePlaces name (section_of here ∷ map section_of behind)
  places_from name h =
      let P : List NewSection → Type 0 = λ xs. HavePlaces name (map section_of xs) in
      subst P (drop_more ss i blank lt) h

  pub next_places : (name : ℕ) → HavePlaces name (map section_of (drop i ss)) → HavePlaces (name + (length here.name.now + 1)) (map section_of behind)
  next_places name h =
      let e : name + length here.name.now + 1 ≡ name + (length here.name.now + 1) = omega arith in
      let P : ℕ → Type 0 = λ n. HavePlaces n (map section_of behind) in
      subst P e (places_from name h).1

pub no_header : (name place : ℕ) → new_headers name place [] ≡ []
unfolding new_headers
no_header name place = refl
