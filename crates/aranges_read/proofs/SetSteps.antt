-- The sets of a table, read one after the other.
use Rattle.std.proofs.Common.{◌≡◌, ℕ, zero, suc, ◌+◌, ◌<◌, ◌≤◌, Bool, true, false, cond, leb, eqb, List, [], ◌∷◌, ◌++◌, length, take, Some, Result, Ok, Err, refl, sym, ap, subst, ◌∙◌, arith, append_assoc, append-nil, length-drop}
use Rattle.std.proofs.lemmas.Bool.{leb-true}
use Rattle.std.proofs.lemmas.Option.{cond_some, same_Some}
use Rattle.ix_base.specs.declared.fault.Fault.{Fault}
use Rattle.index_model.specs.Gives.{Stop}
use Rattle.ix_base.specs.declared.or_memory.OrMemory.TheVariants as stops
use Rattle.ix_base.specs.Reading.{Input, Length, past, part, initial_length}
use Rattle.index_model.specs.declared.range.UnitRange.{UnitRange}
use Rattle.index_model.specs.declared.unit.Unit.{Unit as UnitHeader}
use Rattle.index_model.specs.Gives.{StopsAs}
use Rattle.index_model.specs.Meaning.{◌>>=◌, fault}
use Rattle.index_model.specs.Tiling.{up_to, tiles}
use Rattle.index_model.proofs.Meanings.{bind_ok, some_ok, bind_some, same_ok}
use Rattle.index_model.proofs.TilingLaws.{Advances, tiles_item, tiles_fault, tiles_end}
use Rattle.index_model.proofs.UnitReads.{Passes, initial_passes}
use Rattle.reach_model.specs.declared.code.TheConstants.{ARANGES_LENGTH, ARANGES_NO_END}
use Rattle.reach_model.specs.AddressSets.{AddressSet, SetParts, set_header, set_parts, unit_of_set, pairs_in, kept_ranges, next_set}
use Rattle.aranges_read.specs.Sets.{of_unit, ranges_in, with_set, with_sets}

-- ---- a set takes a byte at least

fewer : (n : ℕ) (i j : Input) → Passes n i j → 0 < n → length j.rest < length i.rest
fewer n i j h some = omega (arith, some, h.there, length-drop n i.rest, ap (λ (x : Input). length x.rest) h.on)

no_more : (n : ℕ) (i j : Input) → Passes n i j → length j.rest ≤ length i.rest
no_more n i j h = omega (arith, h.there, length-drop n i.rest, ap (λ (x : Input). length x.rest) h.on)

length_fewer : (i : Input) (x : Length × Input) → initial_length i ≡ Some x → length x.1.rest < length i.rest
length_fewer i x is = let p = initial_passes i x is in fewer p.0 i x.1 p.2 p.1

part_no_more : (n : ℕ) (i : Input) (x : Input × Input) → part n i ≡ Some x → length x.1.rest ≤ length i.rest
part_no_more n i x is =
    let p = cond_some (leb n (length i.rest)) (record { at = i.at; rest = take n i.rest }, past n i) x is in
    let le : n ≤ length i.rest = leb-true _ _ p.0 in
    omega (arith, le, length-drop n i.rest, ap (λ (y : Input × Input). length y.1.rest) p.1)

parts_fewer : (i : Input) (x : SetParts × Input) → set_parts i ≡ Some x → length x.1.rest < length i.rest
unfolding set_parts
parts_fewer i x is =
    let l = bind_some (initial_length i) _ x is in
    let o = bind_some (part l.0.0.length l.0.1) _ x l.2 in
    let h = bind_some (set_header l.0.0.wide o.0.0) _ x o.2 in
    let lt : length o.0.1.rest < length i.rest = omega (arith, length_fewer i l.0 l.1, part_no_more l.0.0.length l.0.1 o.0 o.1) in
    subst (λ (y : SetParts × Input). length y.1.rest < length i.rest) (same_Some _ x h.2) lt

module _ (units : List UnitHeader) where
  set_advances : Advances (next_set units)
  unfolding next_set
  set_advances k i x is =
      let p = some_ok (set_parts i) (fault ARANGES_LENGTH i.at) _ x is in
      let u = bind_ok (unit_of_set units i.at p.0.0.header) _ x p.2 in
      let q = some_ok (pairs_in p.0.0.pairs) (fault ARANGES_NO_END i.at) _ x u.2 in
      let made : AddressSet × Input = (record { unit = u.0; ranges = kept_ranges q.0 }, p.0.1) in
      subst (λ (y : AddressSet × Input). length y.1.rest < length i.rest) (same_ok made x q.2) (parts_fewer i p.0 p.1)

  -- ---- sets have no numbers

  same_set : (k : ℕ) (i : Input) → next_set units k i ≡ next_set units 0 i
  unfolding next_set
  same_set k i = refl

  same_up_to : (n k : ℕ) (i : Input) → up_to n (next_set units) k i ≡ up_to n (next_set units) 0 i
  unfolding up_to
  same_up_to zero k i = refl
  same_up_to (suc n) k i =
      ap (λ (r : Result (AddressSet × Input) Fault). cond (eqb (length i.rest) 0) (Ok []) (r >>= λ first. up_to n (next_set units) (k + 1) first.1 >>= λ others. Ok (first.0 ∷ others))) (same_set k i)
      ∙ by (eqb (length i.rest) 0) (next_set units 0 i) (λ j. same_up_to n (k + 1) j ∙ sym (same_up_to n 1 j))
    where
      by : (b : Bool) (r : Result (AddressSet × Input) Fault) → ((j : Input) → up_to n (next_set units) (k + 1) j ≡ up_to n (next_set units) 1 j) → cond b (Ok []) (r >>= λ first. up_to n (next_set units) (k + 1) first.1 >>= λ others. Ok (first.0 ∷ others)) ≡ cond b (Ok []) (r >>= λ first. up_to n (next_set units) (0 + 1) first.1 >>= λ others. Ok (first.0 ∷ others))
      by true r same = refl
      by false (Err f) same = refl
      by false (Ok x) same = ap (λ (left : Result (List AddressSet) Fault). left >>= λ others. Ok (x.0 ∷ others)) (same x.1)

  abbrev pub sets_in : Input → Result (List AddressSet) Fault
  sets_in i = tiles (next_set units) 0 i

  -- ---- the sets that are left

  one_more : (front : List UnitRange) (s : AddressSet) (left : Result (List AddressSet) Fault) → with_sets front (left >>= λ others. Ok (s ∷ others)) ≡ with_sets (front ++ of_unit s.unit s.ranges) left
  one_more front s (Ok ss) = ap (λ (rs : List UnitRange). Ok rs) (sym (append_assoc front (of_unit s.unit s.ranges) (ranges_in ss)))
  one_more front s (Err f) = refl

  module _ (front : List UnitRange) (i : Input) (some : length i.rest ≡ 0 → ⊥) where
    -- one more set was read
    pub after_set : (new : List UnitRange) (next : Input) → with_set front (next_set units 0 i) ≡ Ok (new, next) → with_sets front (sets_in i) ≡ with_sets new (sets_in next)
    after_set new next is =
        let s = bind_ok (next_set units 0 i) _ (new, next) is in
        let same : (front ++ of_unit s.0.0.unit s.0.0.ranges, s.0.1) ≡ (new, next) = same_ok _ (new, next) s.2 in
        ap (with_sets front) (tiles_item (next_set units) set_advances 0 i s.0 some s.1 ∙ ap (λ (left : Result (List AddressSet) Fault). left >>= λ others. Ok (s.0.0 ∷ others)) (same_up_to (length s.0.1.rest) (0 + 1) s.0.1))
        ∙ one_more front s.0.0 (sets_in s.0.1)
        ∙ ap (λ (x : List UnitRange × Input). with_sets x.0 (sets_in x.1)) same

    -- fewer bytes are left
    pub after_set_fewer : (new : List UnitRange) (next : Input) → with_set front (next_set units 0 i) ≡ Ok (new, next) → length next.rest < length i.rest
    after_set_fewer new next is =
        let s = bind_ok (next_set units 0 i) _ (new, next) is in
        let same : (front ++ of_unit s.0.0.unit s.0.0.ranges, s.0.1) ≡ (new, next) = same_ok _ (new, next) s.2 in
        subst (λ (x : List UnitRange × Input). length x.1.rest < length i.rest) same (set_advances 0 i s.0 s.1)

    -- the next set has a fault
    pub at_fault : (stop : Stop) → StopsAs stop (with_set front (next_set units 0 i)) → StopsAs stop (with_sets front (sets_in i))
    at_fault stops.Memory h = tt
    at_fault (stops.Cause f) h = ap (with_sets front) (tiles_fault (next_set units) set_advances 0 i f some (of_set (next_set units 0 i) h))
      where
        of_set : (r : Result (AddressSet × Input) Fault) → with_set front r ≡ Err f → r ≡ Err f
        of_set (Ok x) e = absurd cc
        of_set (Err g) e = cc

  -- no set is left
  pub at_sets_end : (front : List UnitRange) (i : Input) → length i.rest ≡ 0 → with_sets front (sets_in i) ≡ Ok front
  at_sets_end front i none = ap (with_sets front) (tiles_end (next_set units) set_advances 0 i none) ∙ ap (λ (rs : List UnitRange). Ok rs) (append-nil front)

-- a table whose sets have a fault has it
pub of_sets_stop : (stop : Stop) (sets : Result (List AddressSet) Fault) → StopsAs stop (with_sets [] sets) → StopsAs stop sets
of_sets_stop stops.Memory sets h = tt
of_sets_stop (stops.Cause f) (Ok ss) h = absurd cc
of_sets_stop (stops.Cause f) (Err g) h = cc
