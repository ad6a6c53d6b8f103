-- Addresses and lists of ranges stay, where the sections that hold them grow.
use Rattle.std.proofs.Common.{◌≡◌, ℕ, zero, suc, ◌+◌, ◌*◌, ◌≤◌, true, cond, ◌&&◌, eqb, List, [], ◌∷◌, ◌++◌, length, Result, Ok, Err, refl, sym, ap, subst, ◌∙◌, arith, length-append}
use Rattle.std.specs.Prelude.{codes}
use Rattle.ix_base.specs.declared.code.TheConstants.{NO_BASE, BAD_RANGE}
use Rattle.ix_base.specs.Reading.{Input, number, uleb, offset, input}
use Rattle.index_model.specs.declared.range.Range.{Range}
use Rattle.index_model.specs.Meaning.{◌>>=◌, some_or}
use Rattle.index_model.specs.Sections.{Section, section_bytes}
use Rattle.index_model.specs.Forms.{Value, Addr, AddrIndex, Offset, RangeIndex}
use Rattle.index_model.specs.Program.{Walked}
use Rattle.index_model.specs.Strings.{base_of, offset_size}
use Rattle.index_model.specs.RangeLists.{ListEntry, End, Base, Bounds, Offsets, top, Operand, EntryReader, indexed_address, address_of, pair_at, fixed, plain, index, one, two, long, kinds, kind_reader, kind_at, with_entry, list_from, list_at, list_offset, list_of}
use Rattle.grown_alike.specs.Grown.{Grows}
use Rattle.grown_alike.proofs.Kept.{OkStays, wrong_stays, ok_stays, choice_stays, read_stays, stays_then, Keeps, keeps_itself, keeps_then}
use Rattle.grown_alike.proofs.Behind.{grown, onwards, input_grown, number_stays}
use Rattle.grown_alike.proofs.Lebs.{uleb_stays}
use Rattle.grown_alike.proofs.Texts.{in_section, offset_keeps}

-- ---- entries of lists

-- what the one reads, the other reads where more bytes follow
abbrev GoesOn : {X : Type 0} → (Input → Result (X × Input) ℕ) → (Input → Result (X × Input) ℕ) → Type 0
GoesOn read other = (more : List ℕ) (i : Input) → OkStays (onwards more) (read i) (other (grown more i))

fixed_on : GoesOn fixed fixed
fixed_on more i = read_stays (onwards more) BAD_RANGE (number 8 i) (number 8 (grown more i)) (number_stays 8 more i)

plain_on : GoesOn plain plain
plain_on more i = read_stays (onwards more) BAD_RANGE (uleb i) (uleb (grown more i)) (uleb_stays more i)

one_on : (make : ℕ → ListEntry) (read other : Operand) → GoesOn read other → GoesOn (one make read) (one make other)
one_on make read other h more i =
    stays_then (onwards more) (onwards more) (read i) (other (grown more i)) _ _ (h more i) (λ a _.
    ok_stays (onwards more) (make a.0, a.1))

two_on : (make : ℕ → ℕ → ListEntry) (low low_too high high_too : Operand) → GoesOn low low_too → GoesOn high high_too → GoesOn (two make low high) (two make low_too high_too)
two_on make low low_too high high_too h k more i =
    stays_then (onwards more) (onwards more) (low i) (low_too (grown more i)) _ _ (h more i) (λ a _.
    stays_then (onwards more) (onwards more) (high a.1) (high_too (grown more a.1)) _ _ (k more a.1) (λ b _.
    ok_stays (onwards more) (make a.0 b.0, b.1)))

pair_on : GoesOn pair_at pair_at
unfolding pair_at
pair_on more i =
    stays_then (onwards more) (onwards more) (some_or (number 8 i) BAD_RANGE) (some_or (number 8 (grown more i)) BAD_RANGE) _ _ (fixed_on more i) (λ low _.
    stays_then (onwards more) (onwards more) (some_or (number 8 low.1) BAD_RANGE) (some_or (number 8 (grown more low.1)) BAD_RANGE) _ _ (fixed_on more low.1) (λ high _.
    ok_stays (onwards more) (cond (eqb low.0 0 && eqb high.0 0) End (cond (eqb low.0 top) (Base high.0) (Offsets low.0 high.0)), high.1)))

-- each of these readers goes on as the one beside it
abbrev RowsGoOn : List (ℕ × EntryReader) → List (ℕ × EntryReader) → Type 0
RowsGoOn [] [] = Unit {0}
RowsGoOn [] (s ∷ ss) = ⊥
RowsGoOn (r ∷ rs) [] = ⊥
RowsGoOn (r ∷ rs) (s ∷ ss) = (s.0 ≡ r.0) × GoesOn r.1 s.1 × RowsGoOn rs ss

rows_on : (rows others : List (ℕ × EntryReader)) → RowsGoOn rows others → (kind : ℕ) → GoesOn (kind_reader rows kind) (kind_reader others kind)
rows_on [] [] h kind more i = wrong_stays (onwards more) BAD_RANGE (Err BAD_RANGE)
rows_on [] (s ∷ ss) h kind more i = absurd h
rows_on (r ∷ rs) [] h kind more i = absurd h
rows_on (r ∷ rs) (s ∷ ss) h kind more i = rw h.0 (choice_stays (onwards more) (eqb r.0 kind) _ _ _ _ (h.1 more i) (rows_on rs ss h.2 kind more i))

-- ---- lists

module _ (read other : EntryReader) (h : GoesOn read other) (more : List ℕ) where
  entry_stays : (e : ListEntry) (base : ℕ) (f g : ℕ → Result (List Range) ℕ) → ((b : ℕ) → Keeps (f b) (g b)) → Keeps (with_entry e base f) (with_entry e base g)
  entry_stays End base f g later = keeps_itself (Ok [])
  entry_stays (Base b) base f g later = later b
  entry_stays (Bounds low end) base f g later = keeps_then (f base) (g base) _ _ (later base) (λ rs _. keeps_itself (Ok (record { low = low; end = end } ∷ rs)))
  entry_stays (Offsets low end) base f g later = keeps_then (f base) (g base) _ _ (later base) (λ rs _. keeps_itself (Ok (record { low = base + low; end = base + end } ∷ rs)))

  -- a list, with as much room for its entries or more
  from_stays : (n k : ℕ) → n ≤ k → (base : ℕ) (i : Input) → Keeps (list_from n read base i) (list_from k other base (grown more i))
  unfolding list_from
  from_stays zero k le base i = wrong_stays (λ (rs : List Range). rs) BAD_RANGE (list_from k other base (grown more i))
  from_stays (suc n) zero le base i = absurd (omega (arith, le))
  from_stays (suc n) (suc k) le base i =
      stays_then (onwards more) (λ (rs : List Range). rs) (read i) (other (grown more i)) _ _ (h more i) (λ e _.
      entry_stays e.0 base (λ b. list_from n read b e.1) (λ b. list_from k other b (grown more e.1)) (λ b. from_stays n k (omega (arith, le)) b e.1))

pub list_stays : (read other : EntryReader) → GoesOn read other → (base place : ℕ) (bytes more : List ℕ) → Keeps (list_at read base bytes place) (list_at other base (bytes ++ more) place)
unfolding list_at
list_stays read other h base place bytes more =
    let g = input_grown bytes more place in
    let n = length bytes in
    let k = length (bytes ++ more) in
    let stays = from_stays read other h g.0 n k (omega (arith, length-append bytes more)) base (input bytes place) in
    record { on = λ rs is. ap (λ (i : Input). list_from k other base i) g.1 ∙ stays.on rs is }

-- a number of eight bytes, without what stands behind it
number_keeps : (bytes more : List ℕ) (place : ℕ) → Keeps (some_or (number 8 (input bytes place)) BAD_RANGE >>= λ a. Ok a.0) (some_or (number 8 (input (bytes ++ more) place)) BAD_RANGE >>= λ a. Ok a.0)
number_keeps bytes more place = offset_keeps bytes more BAD_RANGE true place (λ a. a)

module _ (first second : List Section) (grows : Grows first second) (w : Walked) where
  indexed_keeps : (n : ℕ) → Keeps (indexed_address first w n) (indexed_address second w n)
  unfolding indexed_address
  indexed_keeps n =
      keeps_then (some_or (base_of 0x73 w) NO_BASE) (some_or (base_of 0x73 w) NO_BASE) _ _ (keeps_itself (some_or (base_of 0x73 w) NO_BASE)) (λ base _.
      in_section first second grows (codes ".debug_addr") (λ bytes. some_or (number 8 (input bytes (base + 8 * n))) BAD_RANGE >>= λ a. Ok a.0) (λ bytes more. number_keeps bytes more (base + 8 * n)))

  pub address_keeps : (v : Value) → Keeps (address_of first w v) (address_of second w v)
  unfolding address_of
  address_keeps (Addr a) = keeps_itself (Ok a)
  address_keeps (AddrIndex n) = indexed_keeps n
  address_keeps other = keeps_itself (Err BAD_RANGE)

  index_on : GoesOn (index first w) (index second w)
  index_on more i =
      stays_then (onwards more) (onwards more) (some_or (uleb i) BAD_RANGE) (some_or (uleb (grown more i)) BAD_RANGE) _ _ (plain_on more i) (λ n _.
      stays_then (λ (a : ℕ). a) (onwards more) (indexed_address first w n.0) (indexed_address second w n.0) _ _ (indexed_keeps n.0) (λ a _.
      ok_stays (onwards more) (a, n.1)))

  -- the entries of version 5
  kinds_on : RowsGoOn (kinds first w) (kinds second w)
  kinds_on =
      let at = index_on in (
        refl,
        (λ more i. ok_stays (onwards more) (End, i)),
        (
          refl,
          one_on Base (index first w) (index second w) at,
          (
            refl,
            two_on Bounds (index first w) (index second w) (index first w) (index second w) at at,
            (
              refl,
              two_on long (index first w) (index second w) plain plain at plain_on,
              (
                refl,
                two_on Offsets plain plain plain plain plain_on plain_on,
                (
                  refl,
                  one_on Base fixed fixed fixed_on,
                  (
                    refl,
                    two_on Bounds fixed fixed fixed fixed fixed_on fixed_on,
                    (
                      refl,
                      two_on long fixed fixed plain plain fixed_on plain_on,
                      tt,
                    ),
                  ),
                ),
              ),
            ),
          ),
        ),
      )

  kind_on : GoesOn (kind_at first w) (kind_at second w)
  unfolding kind_at
  kind_on more i =
      stays_then (onwards more) (onwards more) (some_or (number 1 i) BAD_RANGE) (some_or (number 1 (grown more i)) BAD_RANGE) _ _ (read_stays (onwards more) BAD_RANGE (number 1 i) (number 1 (grown more i)) (number_stays 1 more i)) (λ kind _.
      rows_on (kinds first w) (kinds second w) kinds_on kind.0 more kind.1)

  offset_of_list_keeps : (n : ℕ) → Keeps (list_offset first w n) (list_offset second w n)
  unfolding list_offset
  offset_of_list_keeps n =
      keeps_then (some_or (base_of 0x74 w) NO_BASE) (some_or (base_of 0x74 w) NO_BASE) _ _ (keeps_itself (some_or (base_of 0x74 w) NO_BASE)) (λ base _.
      let place = base + offset_size w.unit.wide * n in
      in_section first second grows (codes ".debug_rnglists") (λ bytes. some_or (offset w.unit.wide (input bytes place)) BAD_RANGE >>= λ o. Ok (base + o.0)) (λ bytes more. offset_keeps bytes more BAD_RANGE w.unit.wide place (λ o. base + o)))

  list_in : (name : List ℕ) (read other : EntryReader) → GoesOn read other → (base place : ℕ) → Keeps (list_at read base (section_bytes first name) place) (list_at other base (section_bytes second name) place)
  list_in name read other h base place =
      let more = grows.others name in
      subst (λ (bytes : List ℕ). Keeps (list_at read base (section_bytes first name) place) (list_at other base bytes place)) (sym more.1) (list_stays read other h base place (section_bytes first name) more.0)

  -- the list that a value names
  pub list_keeps : (base : ℕ) (v : Value) → Keeps (list_of first w base v) (list_of second w base v)
  unfolding list_of
  list_keeps base (RangeIndex n) =
      keeps_then (list_offset first w n) (list_offset second w n) _ _ (offset_of_list_keeps n) (λ place _.
      list_in (codes ".debug_rnglists") (kind_at first w) (kind_at second w) kind_on base place)
  list_keeps base (Offset o) = choice_stays (λ (rs : List Range). rs) (eqb w.unit.version 5) _ _ _ _
      (list_in (codes ".debug_rnglists") (kind_at first w) (kind_at second w) kind_on base o)
      (list_in (codes ".debug_ranges") pair_at pair_at pair_on base o)
  list_keeps base other = keeps_itself (Err BAD_RANGE)
