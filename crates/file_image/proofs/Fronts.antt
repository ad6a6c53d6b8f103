-- Sections are read one after the other.
use Rattle.std.proofs.Common.{◌≡◌, ◌+◌, ◌-◌, ◌<◌, ◌≤◌, ℕ, suc, true, false, List, [], ◌∷◌, ◌++◌, drop, Result, Ok, Err, Some, None, refl, sym, ap, ◌∙◌, arith, append_assoc, append-nil}
use Rattle.ix_base.specs.declared.fault.Fault.{Fault}
use Rattle.ix_base.specs.declared.code.TheConstants.{SECTION_TABLE}
use Rattle.ix_base.specs.Reading.{before_zero}
use Rattle.index_model.specs.Meaning.{◌>>=◌, fault}
use Rattle.index_model.specs.Sections.{Section, Header, section_from, sections_from, header_at, headers_from, fits, names, content}
use Rattle.file_image.specs.Front.{with_front}

-- ---- one section

pub section_unfit : (f : List ℕ) (i : ℕ) (h : Header) → fits f h ≡ false → section_from f i h ≡ Err (fault SECTION_TABLE i)
unfolding section_from
section_unfit f i h e = rw e refl

pub section_unnamed : (f : List ℕ) (i : ℕ) (h : Header) → fits f h ≡ true → before_zero (drop h.name (names f)) ≡ None → section_from f i h ≡ Err (fault SECTION_TABLE i)
unfolding section_from
section_unnamed f i h e n = rw (e, n) refl

pub section_found : (f : List ℕ) (i : ℕ) (h : Header) (name : List ℕ) → fits f h ≡ true → before_zero (drop h.name (names f)) ≡ Some name → section_from f i h ≡ Ok (record { name = name; flags = h.flags; content = content f h })
unfolding section_from
section_found f i h name e n = rw (e, n) refl

-- ---- all sections

pub one_in_front : {A : Type 0} (front : List A) (x : A) (left : Result (List A) Fault) → with_front front (left >>= λ xs. Ok (x ∷ xs)) ≡ with_front (front ++ x ∷ []) left
one_in_front {A = A} front x (Ok xs) = ap (λ (ys : List A). Ok ys) (simp append_assoc)
one_in_front front x (Err e) = refl

-- the headers that are left, where there is one
next_header : (f : List ℕ) (i n : ℕ) → i < n → headers_from f i (n - i) ≡ header_at f i ∷ headers_from f (i + 1) (n - (i + 1))
unfolding headers_from
next_header f i n lt =
    let e : n - i ≡ suc (n - (i + 1)) = omega arith in
    rw e refl

-- what is still read
abbrev pub left_from : List ℕ → ℕ → ℕ → Result (List Section) Fault
left_from f i n = sections_from f i (headers_from f i (n - i))

next_left : (f : List ℕ) (i n : ℕ) → i < n → left_from f i n ≡ (section_from f i (header_at f i) >>= λ s. left_from f (i + 1) n >>= λ ss. Ok (s ∷ ss))
unfolding sections_from
next_left f i n lt = rw (next_header f i n lt) refl

module _ (f : List ℕ) (n i : ℕ) (front : List Section) (total : Result (List Section) Fault) (so_far : with_front front (left_from f i n) ≡ total) where
  pub one_more : (s : Section) → i < n → section_from f i (header_at f i) ≡ Ok s → with_front (front ++ s ∷ []) (left_from f (i + 1) n) ≡ total
  one_more s lt e =
      let now : left_from f i n ≡ (left_from f (i + 1) n >>= λ ss. Ok (s ∷ ss)) = next_left f i n lt ∙ ap (λ (r : Result Section Fault). r >>= λ s. left_from f (i + 1) n >>= λ ss. Ok (s ∷ ss)) e in
      sym (one_in_front front s (left_from f (i + 1) n)) ∙ ap (with_front front) (sym now) ∙ so_far

  pub no_more : (e : Fault) → i < n → section_from f i (header_at f i) ≡ Err e → total ≡ Err e
  no_more e lt is =
      let now : left_from f i n ≡ Err e = next_left f i n lt ∙ ap (λ (r : Result Section Fault). r >>= λ s. left_from f (i + 1) n >>= λ ss. Ok (s ∷ ss)) is in
      sym so_far ∙ ap (with_front front) now

  pub all_read : n ≤ i → total ≡ Ok front
  unfolding sections_from headers_from
  all_read le =
      let none : n - i ≡ 0 = omega arith in
      let now : left_from f i n ≡ Ok [] = rw none refl in
      sym so_far ∙ ap (with_front front) now ∙ ap (λ (xs : List Section). Ok xs) (append-nil front)
