-- The sections of a file one by one, each by its header.
use Rattle.std.proofs.Common.{◌≡◌, ℕ, zero, suc, ◌+◌, ◌<◌, ◌≤◌, Bool, true, false, cond, not, List, [], ◌∷◌, ◌++◌, drop, find, Option, Some, Ok, refl, sym, ap, ◌∙◌, subst, arith}
use Rattle.std.specs.List.{enumerate_from, AllByRecursion as AllOf}
use Rattle.std.proofs.lemmas.Option.{same_Some}
use Rattle.ix_base.specs.declared.code.TheConstants.{COMPRESSED, SECTION_TABLE}
use Rattle.ix_base.specs.Reading.{before_zero}
use Rattle.index_model.specs.Meaning.{◌>>=◌, fault, holds_or, some_or}
use Rattle.index_model.specs.Sections.{Header, Section, content, fits, header_at, headers_from, is_compressed, names, none_compressed, section_from, sections_from}
use Rattle.index_model.proofs.Meanings.{bind_ok, holds_ok, same_ok, some_ok}

-- ---- one section

-- the section is that of the header
pub record IsSection (f : List ℕ) (h : Header) (s : Section) : Type 0 where
  pub fits : fits f h ≡ true
  pub name : before_zero (drop h.name (names f)) ≡ Some s.name
  pub flags : s.flags ≡ h.flags
  pub content : s.content ≡ content f h

pub section_is : (f : List ℕ) (i : ℕ) (h : Header) (s : Section) → section_from f i h ≡ Ok s → IsSection f h s
unfolding section_from
section_is f i h s is =
    let a = holds_ok (fits f h) (fault SECTION_TABLE i) (some_or (before_zero (drop h.name (names f))) (fault SECTION_TABLE i) >>= λ name. Ok (record { name = name; flags = h.flags; content = content f h })) s is in
    let b = some_ok (before_zero (drop h.name (names f))) (fault SECTION_TABLE i) (λ name. Ok (record { name = name; flags = h.flags; content = content f h })) s a.1 in
    let made : Section = record { name = b.0; flags = h.flags; content = content f h } in
    let same : made ≡ s = same_ok made s b.2 in
    record {
      fits = a.0;
      name = b.1 ∙ ap (λ (x : Section). given x.name) same;
      flags = sym (ap (λ (x : Section). x.flags) same);
      content = sym (ap (λ (x : Section). x.content) same);
    }
  where
    given : List ℕ → Option (List ℕ)
    given x = Some x

pub is_section : (f : List ℕ) (i : ℕ) (h : Header) (s : Section) → IsSection f h s → section_from f i h ≡ Ok s
unfolding section_from
is_section f i h s is =
    let inside = is.fits in
    let name = is.name in
    rw (inside, name) (λ j. Ok (record { name = s.name; flags = sym is.flags j; content = sym is.content j }))

-- ---- all sections

module _ (f : List ℕ) where
  first_and_others : (i : ℕ) (h : Header) (hs : List Header) (ss : List Section) → sections_from f i (h ∷ hs) ≡ Ok ss → (s : Section) × (others : List Section) × (section_from f i h ≡ Ok s) × (sections_from f (i + 1) hs ≡ Ok others) × (s ∷ others ≡ ss)
  unfolding sections_from
  first_and_others i h hs ss is =
      let a = bind_ok (section_from f i h) (λ first. sections_from f (i + 1) hs >>= λ others. Ok (first ∷ others)) ss is in
      let b = bind_ok (sections_from f (i + 1) hs) (λ others. Ok (a.0 ∷ others)) ss a.2 in
      (a.0, b.0, a.1, b.1, same_ok (a.0 ∷ b.0) ss b.2)

  pub one_more : (i : ℕ) (h : Header) (hs : List Header) (s : Section) (ss : List Section) → section_from f i h ≡ Ok s → sections_from f (i + 1) hs ≡ Ok ss → sections_from f i (h ∷ hs) ≡ Ok (s ∷ ss)
  unfolding sections_from
  one_more i h hs s ss first others = rw (first, others) refl

  -- of n headers from an index on, the first
  pub split_first : (i n : ℕ) (ss : List Section) → sections_from f i (headers_from f i (suc n)) ≡ Ok ss
      → (s : Section) × (others : List Section) × IsSection f (header_at f i) s × (sections_from f (i + 1) (headers_from f (i + 1) n) ≡ Ok others) × (s ∷ others ≡ ss)
  unfolding headers_from
  split_first i n ss is =
      let a = first_and_others i (header_at f i) (headers_from f (i + 1) n) ss is in
      (a.0, a.1, section_is f i (header_at f i) a.0 a.2, a.3, a.4)

  pub with_first : (i n : ℕ) (s : Section) (ss : List Section) → IsSection f (header_at f i) s → sections_from f (i + 1) (headers_from f (i + 1) n) ≡ Ok ss → sections_from f i (headers_from f i (suc n)) ≡ Ok (s ∷ ss)
  unfolding headers_from
  with_first i n s ss first others = one_more i (header_at f i) (headers_from f (i + 1) n) s ss (is_section f i (header_at f i) s first) others

  pub no_sections : (i : ℕ) → sections_from f i (headers_from f i 0) ≡ Ok []
  unfolding headers_from sections_from
  no_sections i = refl

  pub none_are : (i : ℕ) (ss : List Section) → sections_from f i (headers_from f i 0) ≡ Ok ss → [] ≡ ss
  unfolding headers_from sections_from
  none_are i ss is = same_ok [] ss is

  -- sections, and those that come behind them
  pub joined : (n i m : ℕ) (ss ts : List Section) → sections_from f i (headers_from f i n) ≡ Ok ss → sections_from f (i + n) (headers_from f (i + n) m) ≡ Ok ts → sections_from f i (headers_from f i (n + m)) ≡ Ok (ss ++ ts)
  joined zero i m ss ts front behind =
      let here : i + 0 ≡ i = omega arith in
      let count : 0 + m ≡ m = omega arith in
      let none = none_are i ss front in
      subst (λ (xs : List Section). sections_from f i (headers_from f i (0 + m)) ≡ Ok (xs ++ ts)) none (subst (λ (k : ℕ). sections_from f i (headers_from f i k) ≡ Ok ts) (sym count) (subst (λ (k : ℕ). sections_from f k (headers_from f k m) ≡ Ok ts) here behind))
  joined (suc n) i m ss ts front behind =
      let a = split_first i n ss front in
      let place : i + suc n ≡ i + 1 + n = omega arith in
      let count : suc (n + m) ≡ suc n + m = omega arith in
      let rest = joined n (i + 1) m a.1 ts a.3 (subst (λ (k : ℕ). sections_from f k (headers_from f k m) ≡ Ok ts) place behind) in
      let whole = with_first i (n + m) a.0 (a.1 ++ ts) a.2 rest in
      subst (λ (xs : List Section). sections_from f i (headers_from f i (suc n + m)) ≡ Ok (xs ++ ts)) a.4 (subst (λ (k : ℕ). sections_from f i (headers_from f i k) ≡ Ok (a.0 ∷ (a.1 ++ ts))) count whole)

  -- what is found is the section of its header
  pub found_is : (p : ℕ × Section → Bool) (n i : ℕ) (ss : List Section) (e : ℕ × Section) → sections_from f i (headers_from f i n) ≡ Ok ss → find p (enumerate_from i ss) ≡ Some e → (i ≤ e.0) × (e.0 < i + n) × IsSection f (header_at f e.0) e.1
  found_is p zero i ss e is found = absurd (let none : find p (enumerate_from i []) ≡ Some e = subst (λ (xs : List Section). find p (enumerate_from i xs) ≡ Some e) (sym (none_are i ss is)) found in cc)
  found_is p (suc n) i ss e is found =
      let a = split_first i n ss is in
      by a.0 a.1 a.2 (found_is p n (i + 1) a.1 e a.3) (p (i, a.0)) (subst (λ (xs : List Section). find p (enumerate_from i xs) ≡ Some e) (sym a.4) found)
    where
      by : (s : Section) (others : List Section) → IsSection f (header_at f i) s
          → (find p (enumerate_from (i + 1) others) ≡ Some e → (i + 1 ≤ e.0) × (e.0 < i + 1 + n) × IsSection f (header_at f e.0) e.1)
          → (b : Bool) → cond b (Some (i, s)) (find p (enumerate_from (i + 1) others)) ≡ Some e → (i ≤ e.0) × (e.0 < i + suc n) × IsSection f (header_at f e.0) e.1
      by s others here rest true h =
          let same : (i, s) ≡ e = same_Some (i, s) e h in
          let at : i ≡ e.0 = ap (λ (d : ℕ × Section). d.0) same in
          (omega arith, omega arith, subst (λ (d : ℕ × Section). IsSection f (header_at f d.0) d.1) same here)
      by s others here rest false h =
          let r = rest h in
          (omega arith, omega arith, r.2)

-- ---- none is compressed

abbrev pub ArePlain : List Section → Type 0
ArePlain ss = AllOf (λ s. is_compressed s ≡ false) ss

pub plain_are : (i : ℕ) (ss : List Section) (u : record {}) → none_compressed i ss ≡ Ok u → ArePlain ss
unfolding none_compressed
plain_are i [] u is = tt
plain_are i (s ∷ ss) u is = by (is_compressed s) refl (plain_are (i + 1) ss u) is
  where
    by : (b : Bool) → is_compressed s ≡ b → (none_compressed (i + 1) ss ≡ Ok u → ArePlain ss) → (holds_or (not b) (fault COMPRESSED i) >>= λ _. none_compressed (i + 1) ss) ≡ Ok u → ArePlain (s ∷ ss)
    by true e rest h = absurd cc
    by false e rest h = (e, rest h)

pub are_plain : (i : ℕ) (ss : List Section) → ArePlain ss → none_compressed i ss ≡ Ok (record {})
unfolding none_compressed
are_plain i [] all = refl
are_plain i (s ∷ ss) all = let here = all.0 in let rest = are_plain (i + 1) ss all.1 in rw (here, rest) refl

pub all_plain : (ss ts : List Section) → ArePlain ss → ArePlain ts → ArePlain (ss ++ ts)
all_plain [] ts a b = b
all_plain (s ∷ ss) ts a b = (a.0, all_plain ss ts a.1 b)
