-- What a program's section of the strings holds, and that its names stand in a section with a header of its own.
use Rattle.std.proofs.Common.{◌≡◌, ℕ, zero, suc, ◌-◌, ◌<◌, Bool, true, false, cond, eqb, ◌||◌, List, [], length, drop, find, codes, option_and_then, Option, Some, None, Ok, sym, ap, ◌∙◌, subst, arith}
use Rattle.std.specs.List.{enumerate_from}
use Rattle.std.proofs.lemmas.Bool.{ne_eqb, eqb-true}
use Rattle.std.proofs.lemmas.Slice.Eq.{bytes_eq-Decides}
use Rattle.common_laws.proofs.Members.{of_find}
use Rattle.common_laws.proofs.Options.{of_option_map}
use Rattle.ix_base.specs.Reading.{before_zero}
use Rattle.index_model.specs.Sections.{Header, Section, content, fits, header_at, headers_from, index_named, names, names_index, section_bytes, section_count, sections_from}
use Rattle.reach_model.specs.Added.{Addition, debug_str, is_at, strings_index}
use Rattle.reach_model.proofs.Accepted.{Accepted}
use Rattle.reach_model.proofs.Found.{bytes_there, is_named_there}
use Rattle.reach_model.proofs.Read.{found_is, none_are, split_first}

abbrev some_index : ℕ → Option ℕ
some_index i = Some i

abbrev text_is : List ℕ → Option (List ℕ)
text_is text = Some text

-- an index is that of an option
pub at_some : (i : ℕ) (o : Option ℕ) → is_at i o ≡ true → o ≡ Some i
at_some i (Some j) e = ap some_index (eqb-true j i e)
at_some i None e = absurd cc

module _ (file : List ℕ) (sections : List Section) (ok : Accepted file sections) where
  -- ---- the section of a name

  -- a name's index is that of the header that has its bytes
  pub named_content : (name : List ℕ) (i : ℕ) → index_named sections name ≡ Some i → (section_bytes sections name ≡ content file (header_at file i)) × (0 < i) × (i < section_count file)
  named_content name i is =
      let e = of_option_map (λ (d : ℕ × Section). d.0) (find (is_named_there name) (enumerate_from 1 sections)) i is in
      let own = found_is file (is_named_there name) (section_count file - 1) 1 sections e.0 ok.sections e.1 in
      (bytes_there sections name e.0 e.1 ∙ own.2.content ∙ ap (λ (k : ℕ). content file (header_at file k)) e.2, omega (arith, own.0, e.2), omega (arith, own.1, e.2, ok.names_index))

  -- and of the header that has the name
  pub named_at : (name : List ℕ) (i : ℕ) → index_named sections name ≡ Some i → before_zero (drop (header_at file i).name (names file)) ≡ Some name
  named_at name i is =
      let e = of_option_map (λ (d : ℕ × Section). d.0) (find (is_named_there name) (enumerate_from 1 sections)) i is in
      let own = found_is file (is_named_there name) (section_count file - 1) 1 sections e.0 ok.sections e.1 in
      let same : e.0.1.name ≡ name = (bytes_eq-Decides e.0.1.name name).0 (of_find (is_named_there name) (enumerate_from 1 sections) e.0 e.1).1 in
      ap (λ (k : ℕ). before_zero (drop (header_at file k).name (names file))) (sym e.2) ∙ own.2.name ∙ ap text_is same

  -- ---- the section of the names

  no_text : (place : ℕ) (text : List ℕ) → before_zero (drop place []) ≡ Some text → ⊥
  no_text zero text is = cc
  no_text (suc place) text is = cc

  no_names : (ns : List ℕ) → ns ≡ [] → (h : Header) (text : List ℕ) → before_zero (drop h.name ns) ≡ Some text → ⊥
  no_names ns none h text is = no_text h.name text (subst (λ (xs : List ℕ). before_zero (drop h.name xs) ≡ Some text) none is)

  nameless : (n : ℕ) (ss : List Section) → names file ≡ [] → sections_from file 1 (headers_from file 1 n) ≡ Ok ss → 0 < length (section_bytes ss (codes ".debug_info")) → ⊥
  nameless zero ss none is some =
      let empty : 0 < length (section_bytes [] (codes ".debug_info")) = subst (λ (xs : List Section). 0 < length (section_bytes xs (codes ".debug_info"))) (sym (none_are file 1 ss is)) some in
      omega (arith, empty)
  nameless (suc n) ss none is some =
      let a = split_first file 1 n ss is in
      no_names (names file) none (header_at file 1) a.0.name a.2.name

  without_names : names_index file ≡ 0 → names file ≡ []
  without_names e = ap (λ (k : ℕ). cond (eqb k 0) [] (content file (header_at file (names_index file)))) e

  pub names_are_somewhere : names_index file ≡ 0 → ⊥
  names_are_somewhere e = nameless (section_count file - 1) sections (without_names e) ok.sections ok.info

  isnt_first : eqb (names_index file) 0 ≡ false
  isnt_first = ne_eqb (names_index file) 0 names_are_somewhere

  pub names_are : names file ≡ content file (header_at file (names_index file))
  names_are = ap (λ (b : Bool). cond b [] (content file (header_at file (names_index file)))) isnt_first

  pub names_inside : fits file (header_at file (names_index file)) ≡ true
  names_inside = sym (ap (λ (b : Bool). b || fits file (header_at file (names_index file))) isnt_first) ∙ ok.names_fit

  -- ---- the `.debug_str` that gets strings

  module _ (addition : Addition) where
    named_index : (strings : Option (List ℕ)) (i : ℕ) → option_and_then (λ text. index_named sections debug_str) strings ≡ Some i → index_named sections debug_str ≡ Some i
    named_index (Some text) i is = is
    named_index None i is = absurd cc

    pub strings_named : (i : ℕ) → strings_index file sections addition ≡ Some i → index_named sections debug_str ≡ Some i
    unfolding strings_index
    strings_named i is = named_index addition.strings i is

    pub strings_content : (i : ℕ) → strings_index file sections addition ≡ Some i → section_bytes sections debug_str ≡ content file (header_at file i)
    strings_content i is = (named_content debug_str i (strings_named i is)).0
