-- The program's sections in the file with sections added.
use Rattle.std.proofs.Common.{◌≡◌, ℕ, zero, suc, ◌+◌, ◌-◌, ◌<◌, ◌^◌, List, ◌++◌, length, drop, map, Ok, sym, ap, ◌∙◌, subst, arith}
use Rattle.std.specs.List.{enumerate_from}
use Rattle.ix_base.specs.Reading.{before_zero}
use Rattle.index_model.specs.Sections.{Header, Section, header_at, headers_from, names, names_index, section_count, sections_from}
use Rattle.reach_model.specs.Added.{Addition, added}
use Rattle.reach_model.specs.AddedSections.{IsClearOfTheHeader, more_at, old_section}
use Rattle.reach_model.proofs.Accepted.{Accepted}
use Rattle.added_alike.proofs.Grown.{IsGrown, grows}
use Rattle.added_alike.proofs.GrownNames.{names_then}
use Rattle.reach_model.proofs.Read.{IsSection, no_sections, none_are, split_first, with_first}
use Rattle.added_alike.proofs.Texts.{text_at_stays}

-- a section that is grown is the section of its header
grown_is : (f g : List ℕ) (h k : Header) (s : Section) (more names_behind : List ℕ) → names g ≡ names f ++ names_behind → IsGrown f g h k more → IsSection f h s → IsSection g k (record s { content = s.content ++ more })
grown_is f g h k s more behind ns grown own = record {
  fits = grown.fits;
  name = (λ i. before_zero (drop (grown.name i) (ns i))) ∙ text_at_stays h.name (names f) behind s.name own.name;
  flags = own.flags ∙ sym grown.flags;
  content = ap (λ (w : List ℕ). w ++ more) own.content ∙ sym grown.content;
}

module _ (file : List ℕ) (sections : List Section) (addition : Addition) (ok : Accepted file sections) (fit : length (added file sections addition) < 2 ^ 64) (clear : IsClearOfTheHeader file) (small : names_index file < 2 ^ 32) where
  abbrev then_ : List ℕ
  then_ = added file sections addition

  abbrev old : ℕ × Section → Section
  old = old_section file sections addition

  one_is : (i : ℕ) (s : Section) → 0 < i → i < section_count file → IsSection file (header_at file i) s → IsSection then_ (header_at then_ i) (old (i, s))
  unfolding old_section
  one_is i s some lt own = grown_is file then_ (header_at file i) (header_at then_ i) s (more_at file sections addition i) (more_at file sections addition (names_index file)) (names_then file sections addition ok fit clear small) (grows file sections addition ok fit clear i some lt own.fits) own

  all_are : (n i : ℕ) (ss : List Section) → 0 < i → i + n ≡ section_count file → sections_from file i (headers_from file i n) ≡ Ok ss → sections_from then_ i (headers_from then_ i n) ≡ Ok (map old (enumerate_from i ss))
  all_are zero i ss some end is = subst (λ (xs : List Section). sections_from then_ i (headers_from then_ i 0) ≡ Ok (map old (enumerate_from i xs))) (none_are file i ss is) (no_sections then_ i)
  all_are (suc n) i ss some end is =
      let a = split_first file i n ss is in
      let first = one_is i a.0 some (omega arith) a.2 in
      let others = all_are n (i + 1) a.1 (omega arith) (omega arith) a.3 in
      subst (λ (xs : List Section). sections_from then_ i (headers_from then_ i (suc n)) ≡ Ok (map old (enumerate_from i xs))) a.4 (with_first then_ i n (old (i, a.0)) (map old (enumerate_from (i + 1) a.1)) first others)

  pub old_sections : sections_from then_ 1 (headers_from then_ 1 (section_count file - 1)) ≡ Ok (map old (enumerate_from 1 sections))
  old_sections = all_are (section_count file - 1) 1 sections (omega arith) (omega (arith, ok.names_index)) ok.sections
