-- The program's section headers, and the bytes of its sections, once others are added.
use Rattle.std.proofs.Common.{◌≡◌, ℕ, ◌+◌, ◌<◌, ◌≤◌, ◌^◌, Bool, true, false, eqb, List, [], ◌++◌, length, take, Option, Some, refl, sym, ap, ◌∙◌, subst, arith, pos_of_ne-zero}
use Rattle.std.proofs.lemmas.Bool.{ne_eqb, eqb-true}
use Rattle.std.proofs.lemmas.List.{append-nil}
use Rattle.index_model.specs.Sections.{Header, Section, bytes_from, content, fits, header, header_at, is_empty, names_index, section_count}
use Rattle.reach_model.specs.Added.{Addition, added, grown_names, grown_strings, is_at, more_strings, moved, names_at, new_names, old_header, strings_at, strings_index}
use Rattle.reach_model.specs.AddedSections.{IsClearOfTheHeader, more_at}
use Rattle.reach_model.proofs.Accepted.{Accepted}
use Rattle.added_alike.proofs.Bytes.{begins_length, from_begins}
use Rattle.added_alike.proofs.Contents.{content_stays, content_there, fits_still, fits_there}
use Rattle.added_alike.proofs.Fields.{drop-added, length-added, old_header_added}
use Rattle.added_alike.proofs.HeaderFields.{at_moved, flags_moved, kind_moved, name_moved, size_moved}
use Rattle.reach_model.proofs.Kept.{at_some, names_are, names_are_somewhere, names_inside, strings_content}
use Rattle.added_alike.proofs.Placed.{StandsAt, names_placed, strings_placed}
use Rattle.added_alike.proofs.Whole.{length-own, own_bytes, whole_begins}

-- a section whose header keeps its name and its flags, and whose bytes have more behind them
pub record IsGrown (f g : List ℕ) (h k : Header) (more : List ℕ) : Type 0 where
  pub name : k.name ≡ h.name
  pub flags : k.flags ≡ h.flags
  pub fits : fits g k ≡ true
  pub content : content g k ≡ content f h ++ more

-- a section that was moved behind the program
moved_grows : (f g own part more : List ℕ) (place : ℕ) → length own ≡ 64 → StandsAt place part g → length g < 2 ^ 64 → part ≡ content f (header own) ++ more → IsGrown f g (header own) (header (moved place (length part) own)) more
moved_grows f g own part more place size stands short is =
    let h : Header = header (moved place (length part) own) in
    let within = stands.within in
    let at : h.at ≡ place = at_moved own size place (length part) (omega arith) in
    let long : h.size ≡ length part = size_moved own size place (length part) (omega arith) in
    let there : StandsAt h.at part g = subst (λ (k : ℕ). StandsAt k part g) (sym at) stands in
    let bits = kind_moved own size place (length part) in
    record {
      name = name_moved own size place (length part);
      flags = flags_moved own size place (length part);
      fits = fits_there g h part bits long there;
      content = content_there g h part bits long there ∙ is;
    }

module _ (file : List ℕ) (sections : List Section) (addition : Addition) (ok : Accepted file sections) (fit : length (added file sections addition) < 2 ^ 64) (clear : IsClearOfTheHeader file) where
  abbrev then_ : List ℕ
  then_ = added file sections addition

  longer : length file ≤ length then_
  longer = omega (arith, length-added file sections addition ok fit, begins_length (whole_begins file sections addition))

  behind_same : (p n : ℕ) → 64 ≤ p → p + n ≤ length file → bytes_from p n then_ ≡ bytes_from p n file
  behind_same p n le within = ap (take n) (drop-added file sections addition ok fit p le) ∙ from_begins p n (whole_begins file sections addition) within

  module _ (i : ℕ) (some : 0 < i) (lt : i < section_count file) (inside : fits file (header_at file i) ≡ true) where
    abbrev own : List ℕ
    own = own_bytes file sections addition i

    abbrev index : Option ℕ
    index = strings_index file sections addition

    abbrev Grows : Header → List ℕ → Type 0
    Grows k more = IsGrown file then_ (header own) k more

    own_is : header_at file i ≡ header own
    unfolding header_at
    own_is = refl

    isnt_first : eqb i 0 ≡ false
    isnt_first = ne_eqb i 0 (λ e. omega arith)

    -- ---- the header by what i is the index of

    strings_header : is_at i index ≡ true → old_header file sections addition i ≡ moved (strings_at file sections addition) (length (grown_strings file sections addition)) own
    unfolding old_header
    strings_header e = rw (isnt_first, e) refl

    names_header : is_at i index ≡ false → eqb i (names_index file) ≡ true → old_header file sections addition i ≡ moved (names_at file sections addition) (length (grown_names file sections addition)) own
    unfolding old_header
    names_header e n = rw (isnt_first, e, n) refl

    same_header : is_at i index ≡ false → eqb i (names_index file) ≡ false → old_header file sections addition i ≡ own
    unfolding old_header
    same_header e n = rw (isnt_first, e, n) refl

    strings_more : is_at i index ≡ true → more_at file sections addition i ≡ more_strings file sections addition
    unfolding more_at
    strings_more e = rw e refl

    names_more : is_at i index ≡ false → eqb i (names_index file) ≡ true → more_at file sections addition i ≡ new_names file sections addition
    unfolding more_at
    names_more e n = rw (e, n) refl

    no_more : is_at i index ≡ false → eqb i (names_index file) ≡ false → more_at file sections addition i ≡ []
    unfolding more_at
    no_more e n = rw (e, n) refl

    -- ---- its bytes

    strings_part : index ≡ Some i → grown_strings file sections addition ≡ content file (header own) ++ more_strings file sections addition
    unfolding grown_strings
    strings_part is = ap (λ (w : List ℕ). w ++ more_strings file sections addition) (strings_content file sections ok addition i is ∙ ap (content file) own_is)

    strings_grow : is_at i index ≡ true → Grows (header (old_header file sections addition i)) (more_at file sections addition i)
    strings_grow e =
        let is : index ≡ Some i = at_some i index e in
        let m = moved_grows file then_ own (grown_strings file sections addition) (more_strings file sections addition) (strings_at file sections addition) (length-own file sections addition ok i lt) (strings_placed file sections addition ok fit i is) fit (strings_part is) in
        subst (λ (k : List ℕ). Grows (header k) (more_at file sections addition i)) (sym (strings_header e)) (subst (Grows (header (moved (strings_at file sections addition) (length (grown_strings file sections addition)) own))) (sym (strings_more e)) m)

    names_part : i ≡ names_index file → grown_names file sections addition ≡ content file (header own) ++ new_names file sections addition
    unfolding grown_names
    names_part is = ap (λ (w : List ℕ). w ++ new_names file sections addition) (names_are file sections ok ∙ ap (λ (k : ℕ). content file (header_at file k)) (sym is) ∙ ap (content file) own_is)

    names_grow : is_at i index ≡ false → eqb i (names_index file) ≡ true → Grows (header (old_header file sections addition i)) (more_at file sections addition i)
    names_grow e n =
        let is : i ≡ names_index file = eqb-true i (names_index file) n in
        let apart : is_at (names_index file) index ≡ false = ap (λ (k : ℕ). is_at k index) (sym is) ∙ e in
        let m = moved_grows file then_ own (grown_names file sections addition) (new_names file sections addition) (names_at file sections addition) (length-own file sections addition ok i lt) (names_placed file sections addition ok fit apart) fit (names_part is) in
        subst (λ (k : List ℕ). Grows (header k) (more_at file sections addition i)) (sym (names_header e n)) (subst (Grows (header (moved (names_at file sections addition) (length (grown_names file sections addition)) own))) (sym (names_more e n)) m)

    clear_of : (h : Header) → header_at file i ≡ h → is_empty h ≡ false → 64 ≤ h.at
    clear_of h e = subst (λ (k : Header). is_empty k ≡ false → 64 ≤ k.at) e (clear i some lt)

    as_it_was : Grows (header own) []
    as_it_was =
        let there : fits file (header own) ≡ true = ap (fits file) (sym own_is) ∙ inside in
        let away = clear_of (header own) own_is in
        record {
          name = refl;
          flags = refl;
          fits = fits_still file then_ (header own) there away longer behind_same;
          content = content_stays file then_ (header own) there away longer behind_same ∙ sym (append-nil (content file (header own)));
        }

    stays : is_at i index ≡ false → eqb i (names_index file) ≡ false → Grows (header (old_header file sections addition i)) (more_at file sections addition i)
    stays e n = subst (λ (k : List ℕ). Grows (header k) (more_at file sections addition i)) (sym (same_header e n)) (subst (Grows (header own)) (sym (no_more e n)) as_it_was)

    by_index : (a b : Bool) → is_at i index ≡ a → eqb i (names_index file) ≡ b → Grows (header (old_header file sections addition i)) (more_at file sections addition i)
    by_index true b e n = strings_grow e
    by_index false true e n = names_grow e n
    by_index false false e n = stays e n

    -- the section at the index
    pub grows : IsGrown file then_ (header_at file i) (header_at then_ i) (more_at file sections addition i)
    grows = subst (λ (k : Header). IsGrown file then_ (header_at file i) k (more_at file sections addition i)) (sym (old_header_added file sections addition ok fit i lt))
        (subst (λ (h : Header). IsGrown file then_ h (header (old_header file sections addition i)) (more_at file sections addition i)) (sym own_is) (by_index (is_at i index) (eqb i (names_index file)) refl refl))

  -- the names' section grows
  pub names_grown : IsGrown file then_ (header_at file (names_index file)) (header_at then_ (names_index file)) (more_at file sections addition (names_index file))
  names_grown = grows (names_index file) (pos_of_ne-zero (names_are_somewhere file sections ok)) ok.names_index (names_inside file sections ok)
