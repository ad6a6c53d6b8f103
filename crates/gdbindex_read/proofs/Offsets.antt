-- The offsets of the areas, one after the other.
use Rattle.std.proofs.Common.{◌≡◌, ◌⊎◌, inl, inr, subst, ℕ, ◌+◌, ◌-◌, ◌*◌, ◌<◌, ◌≤◌, Bool, true, false, ◌&&◌, leb, List, [], ◌∷◌, length, drop, map, Option, Some, None, Result, Ok, Err, refl, arith, ap, sym, ◌∙◌}
use Rattle.std.specs.Prelude.{slice_range}
use Rattle.std.proofs.lemmas.Bool.{leb-true, le-leb, lt-leb, and_parts}
use Rattle.std.proofs.lemmas.List.{length-take}
use Rattle.common_laws.proofs.Ranges.{up_to, up_to_more, up_to_none, up_to_all}
use Rattle.ix_base.specs.declared.fault.Fault.{Fault}
use Rattle.ix_base.specs.Reading.{Input}
use Rattle.index_model.specs.declared.index_code.TheConstants.{GDB_OFFSETS}
use Rattle.index_model.specs.Meaning.{◌>>=◌, ◌>>◌, fault, holds_or, wrong_in}
use Rattle.index_model.specs.GdbAreas.{Areas, area_at, areas_at, offsets_from}
use Rattle.gdbindex_read.specs.declared.header.Version.{Version}
use Rattle.gdbindex_read.specs.declared.header.Version.TheVariants.{Eight, Nine}
use Rattle.gdbindex_read.specs.Header.{version_number, header_length, offset_count, pool_field, offset_at, offsets, checked_offsets, AreInOrder}

-- none is less than the one before it or past the end
abbrev pub AreAscending : ℕ → ℕ → List ℕ → Type 0
AreAscending least end [] = Unit {0}
AreAscending least end (o ∷ os) = (least ≤ o) × (o ≤ end) × AreAscending o end os

-- the header has the version and its offsets
pub header_is : (v : Version) → header_length v ≡ 4 * offset_count v + 4
header_is Eight = refl
header_is Nine = refl

-- ---- what the loop has left

module _ (bytes : List ℕ) where
  -- the first fault of the offsets from number i up to n, where the one before them is `least`
  abbrev pub offset_fault : ℕ → ℕ → ℕ → Option Fault
  offset_fault least i n = wrong_in (offsets_from bytes (4 * i + 4) least (map (offset_at bytes) (up_to i n)))

  abbrev at_numbers : ℕ → ℕ → List ℕ → Option Fault
  at_numbers least i ks = wrong_in (offsets_from bytes (4 * i + 4) least (map (offset_at bytes) ks))

  then_more : (o : ℕ) (rest : Result (List ℕ) Fault) → wrong_in (rest >>= λ more. Ok (o ∷ more)) ≡ wrong_in rest
  then_more o (Ok os) = refl
  then_more o (Err d) = refl

  next_place : (i : ℕ) → 4 * i + 4 + 4 ≡ 4 * (i + 1) + 4
  next_place i = omega arith

  pub offset_more : (least i n : ℕ) → i < n → least ≤ offset_at bytes i → offset_at bytes i ≤ length bytes → offset_fault least i n ≡ offset_fault (offset_at bytes i) (i + 1) n
  unfolding offsets_from
  offset_more least i n lt low high =
      let t : (leb least (offset_at bytes i) && leb (offset_at bytes i) (length bytes)) ≡ true = rw (le-leb least (offset_at bytes i) low, le-leb (offset_at bytes i) (length bytes) high) refl in
      ap (at_numbers least i) (up_to_more i n lt) ∙ rw (t, then_more (offset_at bytes i)) (ap (λ (at : ℕ). wrong_in (offsets_from bytes at (offset_at bytes i) (map (offset_at bytes) (up_to (i + 1) n)))) (next_place i))

  pub offset_here : (least i n : ℕ) → i < n → (leb least (offset_at bytes i) && leb (offset_at bytes i) (length bytes)) ≡ false → offset_fault least i n ≡ Some (fault GDB_OFFSETS (4 * i + 4))
  unfolding offsets_from
  offset_here least i n lt t = ap (at_numbers least i) (up_to_more i n lt) ∙ rw t refl

  pub offset_next : (least i n o : ℕ) → i < n → o ≡ offset_at bytes i → least ≤ o → o ≤ length bytes → offset_fault least i n ≡ offset_fault o (i + 1) n
  offset_next least i n o lt e low high = offset_more least i n lt (subst (λ (x : ℕ). least ≤ x) e low) (subst (λ (x : ℕ). x ≤ length bytes) e high) ∙ ap (λ (x : ℕ). offset_fault x (i + 1) n) (sym e)

  pub offset_wrong : (least i n o : ℕ) → i < n → o ≡ offset_at bytes i → (o < least) ⊎ ((least ≤ o) × (length bytes < o)) → offset_fault least i n ≡ Some (fault GDB_OFFSETS (4 * i + 4))
  offset_wrong least i n o lt e wrong = offset_here least i n lt (ap (λ (x : ℕ). leb least x && leb x (length bytes)) (sym e) ∙ test wrong)
    where
      second : (b : Bool) → (b && false) ≡ false
      second true = refl
      second false = refl

      test : (o < least) ⊎ ((least ≤ o) × (length bytes < o)) → (leb least o && leb o (length bytes)) ≡ false
      test (inl low) = rw (lt-leb least o low) refl
      test (inr high) = rw (lt-leb o (length bytes) high.1) (second (leb least o))

  pub offset_none : (least i n : ℕ) → n ≤ i → offset_fault least i n ≡ None
  unfolding offsets_from
  offset_none least i n le = ap (at_numbers least i) (up_to_none i n le)

  -- ---- offsets without a fault

  pub record Sound (least at : ℕ) (os : List ℕ) : Type 0 where
    pub are : offsets_from bytes at least os ≡ Ok os
    pub ascend : AreAscending least (length bytes) os

  pub sound : (least at : ℕ) (os : List ℕ) → wrong_in (offsets_from bytes at least os) ≡ None → Sound least at os
  unfolding offsets_from
  sound least at [] e = record { are = refl; ascend = tt }
  sound least at (o ∷ os) e = by (leb least o && leb o (length bytes)) refl (sound o (at + 4) os) e
    where
      rest_none : (rest : Result (List ℕ) Fault) → wrong_in (rest >>= λ more. Ok (o ∷ more)) ≡ None → wrong_in rest ≡ None
      rest_none rest e = sym (then_more o rest) ∙ e

      by : (b : Bool) → (leb least o && leb o (length bytes)) ≡ b → (wrong_in (offsets_from bytes (at + 4) o os) ≡ None → Sound o (at + 4) os) → wrong_in (holds_or b (fault GDB_OFFSETS at) >> (offsets_from bytes (at + 4) o os >>= λ more. Ok (o ∷ more))) ≡ None → Sound least at (o ∷ os)
      by false t more e = absurd cc
      by true t more e =
          let later = more (rest_none (offsets_from bytes (at + 4) o os) e) in
          let parts = and_parts (leb least o) (leb o (length bytes)) t in
          record { are = rw (t, later.are) refl; ascend = (leb-true least o parts.0, leb-true o (length bytes) parts.1, later.ascend) }

  -- the header is whole and its offsets have no fault
  pub in_order : (v : Version) → header_length v ≤ length bytes → AreAscending (header_length v) (length bytes) (offsets bytes v) → AreInOrder bytes v
  in_order Eight whole h = record { whole = whole; types = h.2.0; addresses = h.2.2.0; table = h.2.2.2.0; shortcut = h.2.2.2.2.0; pool = omega arith; end = h.2.2.2.2.1 }
  in_order Nine whole h = record { whole = whole; types = h.2.0; addresses = h.2.2.0; table = h.2.2.2.0; shortcut = h.2.2.2.2.0; pool = h.2.2.2.2.2.0; end = h.2.2.2.2.2.1 }

  pub cut_header : (v : Version) → length bytes < header_length v → checked_offsets bytes v ≡ Err (fault GDB_OFFSETS 4)
  cut_header v lt = rw (lt-leb (header_length v) (length bytes) lt) refl

  whole_is : (v : Version) → header_length v ≤ length bytes → checked_offsets bytes v ≡ offsets_from bytes 4 (header_length v) (offsets bytes v)
  whole_is v le = rw (le-leb (header_length v) (length bytes) le) refl

  all_numbers : (v : Version) → offset_fault (header_length v) 0 (offset_count v) ≡ wrong_in (offsets_from bytes 4 (header_length v) (offsets bytes v))
  all_numbers v = ap (at_numbers (header_length v) 0) (up_to_all (offset_count v))

  wrong_is : (r : Result (List ℕ) Fault) (d : Fault) → wrong_in r ≡ Some d → r ≡ Err d
  wrong_is (Ok x) d e = absurd cc
  wrong_is (Err x) d e = let same : x ≡ d = cc in ap (λ (y : Fault). Err y) same

  pub refused : (v : Version) (d : Fault) → header_length v ≤ length bytes → offset_fault (header_length v) 0 (offset_count v) ≡ Some d → checked_offsets bytes v ≡ Err d
  refused v d le e = whole_is v le ∙ wrong_is _ d (sym (all_numbers v) ∙ e)

  pub record Accepted (v : Version) : Type 0 where
    pub value : checked_offsets bytes v ≡ Ok (offsets bytes v)
    pub order : AreInOrder bytes v

  pub accepted : (v : Version) → header_length v ≤ length bytes → offset_fault (header_length v) 0 (offset_count v) ≡ None → Accepted v
  accepted v le e =
      let s = sound (header_length v) 4 (offsets bytes v) (sym (all_numbers v) ∙ e) in
      record { value = whole_is v le ∙ s.are; order = in_order v le s.ascend }

  -- ---- the areas between the offsets

  abbrev pub areas_of : ℕ → Areas
  areas_of pool = record {
    cus = area_at bytes (offset_at bytes 0) (offset_at bytes 1);
    types = area_at bytes (offset_at bytes 1) (offset_at bytes 2);
    addresses = area_at bytes (offset_at bytes 2) (offset_at bytes 3);
    table = area_at bytes (offset_at bytes 3) (offset_at bytes 4);
    shortcut = area_at bytes (offset_at bytes 4) pool;
    pool = area_at bytes pool (length bytes);
  }

  abbrev pub made : Input → Input → Input → Input → Input → Input → Areas
  made c t a s m p = record { cus = c; types = t; addresses = a; table = s; shortcut = m; pool = p }

  pub areas_are : (v : Version) → areas_at bytes (version_number v) (offsets bytes v) ≡ areas_of (offset_at bytes (pool_field v))
  unfolding areas_at
  areas_are Eight = refl
  areas_are Nine = refl

  pub length-area : (from to : ℕ) → length (slice_range bytes from to) ≤ to - from
  length-area from to = omega (arith, length-take (to - from) (drop from bytes))

  -- areas that lie between these places
  module _ (o0 o1 o2 o3 o4 pool : ℕ) {c t a s m p : Input} where
    pub areas_made : c ≡ area_at bytes o0 o1 → t ≡ area_at bytes o1 o2 → a ≡ area_at bytes o2 o3 → s ≡ area_at bytes o3 o4 → m ≡ area_at bytes o4 pool → p ≡ area_at bytes pool (length bytes) → o0 ≡ offset_at bytes 0 → o1 ≡ offset_at bytes 1 → o2 ≡ offset_at bytes 2 → o3 ≡ offset_at bytes 3 → o4 ≡ offset_at bytes 4 → made c t a s m p ≡ areas_of pool
    areas_made c_is t_is a_is s_is m_is p_is e0 e1 e2 e3 e4 = rw (c_is, t_is, a_is, s_is, m_is, p_is, e0, e1, e2, e3, e4) refl
