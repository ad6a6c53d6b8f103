-- Units lie in their sections.
use Rattle.std.proofs.Common.{◌≡◌, ℕ, zero, suc, ◌+◌, ◌-◌, ◌<◌, ◌≤◌, ◌^◌, List, [], ◌∷◌, ◌++◌, length, take, drop, get_or, Some, subst, sym, ap, ◌∙◌, arith, length-drop}
use Rattle.std.specs.Prelude.{slice_get}
use Rattle.std.proofs.lemmas.Option.{get_or_from_slice_get}
use Rattle.std.proofs.lemmas.List.{take-append-le, drop-append-le, length-take-le}
use Rattle.std.proofs.Math.Seq.{drop-append-add}
use Rattle.index_model.specs.declared.unit.Part.TheVariants.{Info, Types}
use Rattle.index_model.specs.Sections.{Section}
use Rattle.index_model.specs.declared.unit.Part.{Part}
use Rattle.index_model.specs.declared.unit.Unit.{Unit as UnitHeader}
use Rattle.file_image.specs.Inside.{Spans, base_of, size_of, IsInside, AreInside, IsWhole}
use Rattle.file_image.specs.Images.{Image, unit_bytes}

abbrev Lies : ℕ → ℕ → UnitHeader → Part → Type 0
Lies info types u p = record { start : base_of p info ≤ u.start; end : u.start + u.length ≤ base_of p info + size_of p info types }

lies_inside : (info types : ℕ) (u : UnitHeader) → Lies info types u u.part → u.body ≤ u.length → IsInside info types u
lies_inside info types u h header = record { start = h.start; end = h.end; header = header }

-- a unit that takes bytes of its section lies in it
pub spans_inside : (info types : ℕ) (section : Part) (from to : ℕ) (u : UnitHeader) → Spans section (base_of section info) from to u → to ≤ size_of section info types → IsInside info types u
spans_inside info types section from to u h le =
    let lies : Lies info types u section = record { start = omega (arith, h.start); end = omega (arith, h.end) } in
    lies_inside info types u (subst (Lies info types u) (sym h.part) lies) h.header

-- one unit more
pub inside_push : (info types : ℕ) (us : List UnitHeader) (u : UnitHeader) → AreInside info types us → IsInside info types u → AreInside info types (us ++ u ∷ [])
inside_push info types [] u all is = (is, tt)
inside_push info types (v ∷ vs) u all is = (all.0, inside_push info types vs u all.1 is)

-- ---- one of the units

inside_at : (info types : ℕ) (us : List UnitHeader) (k : ℕ) (d : UnitHeader) → AreInside info types us → k < length us → IsInside info types (get_or us k d)
inside_at info types [] k d all lt = absurd (omega arith)
inside_at info types (v ∷ vs) zero d all lt = all.0
inside_at info types (v ∷ vs) (suc k) d all lt = inside_at info types vs k d all.1 (omega arith)

-- the unit with a number lies in its section
pub unit_inside : (i : Image) (info types : List ℕ) (k : ℕ) (u : UnitHeader) → IsWhole i info types → k < length i.units → u ≡ get_or i.units k u → IsInside (length info) (length types) u
unit_inside i info types k u whole lt is = let P : UnitHeader → Type 0 = IsInside (length info) (length types) in subst P (sym is) (inside_at (length info) (length types) i.units k u whole.inside lt)

lies_in : (info types : ℕ) (u : UnitHeader) (p : Part) → IsInside info types u → u.part ≡ p → Lies info types u p
lies_in info types u p h is = let here : Lies info types u u.part = record { start = h.start; end = h.end } in subst (Lies info types u) is here

pub in_info : (info types : ℕ) (u : UnitHeader) → IsInside info types u → u.part ≡ Info → u.start + u.length ≤ info
in_info info types u h is = let l = lies_in info types u Info h is in omega (arith, l.end)

pub in_types : (info types : ℕ) (u : UnitHeader) → IsInside info types u → u.part ≡ Types → (info ≤ u.start) × (u.start + u.length ≤ info + types)
in_types info types u h is = let l = lies_in info types u Types h is in (l.start, l.end)

-- ---- the bytes of a unit

-- what a caller may know of the bytes of a unit
pub record BytesOf (ss : List Section) (bytes : List ℕ) (u : UnitHeader) : Type 0 where
  pub own : bytes ≡ unit_bytes ss u
  pub header : u.body ≤ length bytes
  pub small : u.start + length bytes < 2 ^ 63

joined_info : (info types : List ℕ) (at n : ℕ) → at + n ≤ length info → take n (drop at info) ≡ take n (drop at (info ++ types))
joined_info info types at n le =
    let enough : n ≤ length (drop at info) = omega (arith, length-drop at info) in
    sym (ap (take n) (drop-append-le at info types (omega arith)) ∙ take-append-le n (drop at info) types enough)

joined_types : (info types : List ℕ) (at n : ℕ) → length info ≤ at → take n (drop (at - length info) types) ≡ take n (drop at (info ++ types))
joined_types info types at n le =
    let e : at ≡ length info + (at - length info) = omega arith in
    sym (ap (λ (k : ℕ). take n (drop k (info ++ types))) e ∙ ap (take n) (drop-append-add info types (at - length info)))

-- of a unit of `.debug_info`
pub bytes_in_info : (i : Image) (info types : List ℕ) (k : ℕ) (w : UnitHeader) (bytes : List ℕ) → IsWhole i info types → k < length i.units → w ≡ get_or i.units k w → w.part ≡ Info → bytes ≡ take w.length (drop w.start info) → (u : UnitHeader) → slice_get i.units k ≡ Some u → BytesOf i.sections bytes u
bytes_in_info i info types k w bytes whole lt is part own u e =
    let inside = unit_inside i info types k w whole lt is in
    let end = in_info (length info) (length types) w inside part in
    let long : length bytes ≡ w.length = ap length own ∙ length-take-le w.length (drop w.start info) (omega (arith, end, length-drop w.start info)) in
    let of_w : BytesOf i.sections bytes w = record {
      own = rw (← whole.of_info, ← whole.of_types) (own ∙ joined_info info types w.start w.length end);
      header = omega (arith, inside.header, long);
      small = omega (arith, end, long, whole.small_info);
    } in
    subst (BytesOf i.sections bytes) (is ∙ get_or_from_slice_get i.units k u w e) of_w

-- of a unit of `.debug_types`
pub bytes_in_types : (i : Image) (info types : List ℕ) (k : ℕ) (w : UnitHeader) (bytes : List ℕ) → IsWhole i info types → k < length i.units → w ≡ get_or i.units k w → w.part ≡ Types → bytes ≡ take w.length (drop (w.start - length info) types) → (u : UnitHeader) → slice_get i.units k ≡ Some u → BytesOf i.sections bytes u
bytes_in_types i info types k w bytes whole lt is part own u e =
    let inside = unit_inside i info types k w whole lt is in
    let ends = in_types (length info) (length types) w inside part in
    let long : length bytes ≡ w.length = ap length own ∙ length-take-le w.length (drop (w.start - length info) types) (omega (arith, ends, length-drop (w.start - length info) types)) in
    let of_w : BytesOf i.sections bytes w = record {
      own = rw (← whole.of_info, ← whole.of_types) (own ∙ joined_types info types w.start w.length ends.0);
      header = omega (arith, inside.header, long);
      small = omega (arith, ends, long, whole.small_info, whole.small_types);
    } in
    subst (BytesOf i.sections bytes) (is ∙ get_or_from_slice_get i.units k u w e) of_w
