-- The entries of a file lie inside their units, its ranges are of its units, and main is one of its entries.
use Rattle.std.proofs.Common.{◌≡◌, ℕ, ◌+◌, ◌-◌, ◌<◌, ◌≤◌, Bool, true, false, cond, not, ◌&&◌, eqb, List, [], ◌∷◌, length, filter, find, flat_map, map, Option, Some, None, Ok, refl, sym, ap, subst, ◌∙◌, arith, ⊎_elim}
use Rattle.std.specs.Prelude.{All, Contains, slice_get, bytes_eq, option_to_list, IsSomeAnd}
use Rattle.std.specs.Option.{option_or, option_map}
use Rattle.std.proofs.lemmas.Slice.Eq.{bytes_eq-Decides}
use Rattle.std.proofs.lemmas.Option.{cond_some, same_Some, slice_get_within}
use Rattle.common_laws.proofs.Members.{contains_here, contains_later, contains_cases, of_map, of_filter, of_flat_map, to_flat_map}
use Rattle.index_model.specs.declared.entry.Entry.{Entry}
use Rattle.index_model.specs.declared.range.Range.{Range}
use Rattle.index_model.specs.declared.range.UnitRange.{UnitRange}
use Rattle.index_model.specs.declared.unit.Unit.{Unit as UnitHeader}
use Rattle.index_model.specs.Attributes.{says_main}
use Rattle.index_model.specs.Chains.{linkage_name_of}
use Rattle.index_model.specs.Entries.{entry_of, may_have_linkage, linkage_entry_of, entries_of_link, entries_of}
use Rattle.index_model.specs.Faults.{program_of, links_of, all_ranges}
use Rattle.index_model.specs.Languages.{language_of}
use Rattle.index_model.specs.LawsRanges.{IsLeastUnit}
use Rattle.index_model.specs.Links.{Link, links_in, is_link_indexed, indexed_in}
use Rattle.index_model.specs.MainProgram.{full_name, is_named_main, main_in, main_of}
use Rattle.index_model.specs.Meaning.{each}
use Rattle.index_model.specs.Pieces.{IsPieces}
use Rattle.index_model.specs.Program.{Walked, Program}
use Rattle.index_model.specs.Ranges.{ranges_of, unit_ranges, ranges_in, unit_at}
use Rattle.index_model.proofs.MaximalLaws.{pieces_are_maximal}
use Rattle.index_model.proofs.Meanings.{bind_ok, same_ok}
use Rattle.index_model.proofs.Scans.{AreScans}
use Rattle.index_model.proofs.ShardRoots.{program_numbered, numbered_high}
use Rattle.index_model.proofs.UnitAtLaws.{unit_at_least}
use Rattle.address_map.proofs.Halves.{are_the_pieces}
use Rattle.range_lists.proofs.Runs.{scan_unit}
use Rattle.debugnames_write.specs.Conditions.{IsInside}
use Rattle.gdbindex_write.specs.Writable.{HasUnit, IsMainOf, is_plainly_named}
use Rattle.index_pool.proofs.Built.{built, built_with}
use Rattle.index_pool.proofs.Counts.{stands}
use Rattle.index_pool.proofs.FileUnits.{all_of}
use Rattle.index_pool.proofs.Owners.{each_member, in_optional, link_unit}
use Rattle.index_pool.proofs.Picks.{any_of}
use Rattle.index_pool.proofs.RangeLoop.{scans_count}

-- ---- entries

module _ (p : Program) where
  linkage_place : (e : Entry) (name : Option (List ℕ)) (n : Entry) → linkage_entry_of e name ≡ Some n → n.offset ≡ e.offset
  unfolding linkage_entry_of
  linkage_place e None n is = absurd (cc is)
  linkage_place e (Some name) n is = ap (λ (x : Entry). x.offset) (sym (cond_some (may_have_linkage e.tag && not (bytes_eq name e.name)) (record e { linkage = true; name = name; tail = 0 }) n is).1)

  entry_place : (k : Link) → (entry_of k).offset ≡ k.entry.item.at
  unfolding entry_of
  entry_place k = refl

  -- an entry has the offset of the item that it is of
  link_place : (k : Link) (y : Entry) → Contains (entries_of_link p k) y → y.offset ≡ k.entry.item.at
  unfolding entries_of_link
  link_place k y c = ⊎_elim
      (λ (same : entry_of k ≡ y). ap (λ (x : Entry). x.offset) (sym same) ∙ entry_place k)
      (λ (later : Contains (option_to_list (linkage_entry_of (entry_of k) (linkage_name_of p k.chain))) y).
      linkage_place (entry_of k) (linkage_name_of p k.chain) y (in_optional p (linkage_entry_of (entry_of k) (linkage_name_of p k.chain)) y later) ∙ entry_place k)
      (contains_cases (entry_of k) (option_to_list (linkage_entry_of (entry_of k) (linkage_name_of p k.chain))) y c)

-- what lies inside a unit has one
has_unit : (us : List UnitHeader) (e : Entry) → IsInside us e → HasUnit us e
has_unit us e is = by (slice_get us e.unit) refl is
  where
    by : (o : Option UnitHeader) → slice_get us e.unit ≡ o → IsSomeAnd o (λ u. (u.start ≤ e.offset) × (e.offset < u.start + u.length)) → e.unit < length us
    by (Some u) found at = slice_get_within us e.unit u found
    by None found at = absurd at

module _ (f : List ℕ) (p : Program) (file : program_of f ≡ Ok p) (ks : List Link) (is : links_in p p.walks ≡ Ok ks) (us : List UnitHeader) (scans : AreScans p.sections 0 us p.walks) where
  in_unit : (e : Entry) → Contains (entries_of p ks) e → IsInside us e
  unfolding entries_of
  in_unit e c =
      let k = of_flat_map (entries_of_link p) (indexed_in ks) e c in
      let s = stands f p file ks is k.0 (of_filter is_link_indexed ks k.0 k.1).0 in
      let number : e.unit ≡ k.0.entry.home.number - 0 = link_unit p k.0 e k.2 ∙ omega arith in
      let unit : slice_get us e.unit ≡ Some k.0.entry.home.unit = ap (slice_get us) number ∙ (scan_unit p.sections 0 us p.walks scans k.0.entry.home s.home).1 in
      let at = link_place p k.0 e k.2 in
      subst (λ (o : Option UnitHeader). IsSomeAnd o (λ u. (u.start ≤ e.offset) × (e.offset < u.start + u.length))) (sym unit) (omega (arith, at, s.begins), omega (arith, at, s.ends))

  pub entries_in_units : All (IsInside us) (entries_of p ks)
  entries_in_units = all_of (IsInside us) (entries_of p ks) in_unit

  pub entries_have_units : All (HasUnit us) (entries_of p ks)
  entries_have_units = all_of (HasUnit us) (entries_of p ks) (λ e c. has_unit us e (in_unit e c))

-- ---- pieces

module _ (p : Program) (ks : List Link) where
  -- a range of a unit has the unit's number
  range_unit : (w : Walked) (rs : List UnitRange) → unit_ranges p ks w ≡ Ok rs → (r : UnitRange) → Contains rs r → r.unit ≡ w.number
  unfolding unit_ranges
  range_unit w rs is r c =
      let b = bind_ok (ranges_of p ks w) (λ rs. Ok (map (λ r. record { unit = w.number; range = r }) rs)) rs is in
      let d = subst (λ (xs : List UnitRange). Contains xs r) (sym (same_ok (map (λ (r : Range). let u : UnitRange = record { unit = w.number; range = r } in u) b.0) rs b.2)) c in
      let m = of_map (λ (r : Range). let u : UnitRange = record { unit = w.number; range = r } in u) b.0 r d in
      ap (λ (x : UnitRange). x.unit) (sym m.2)

  range_walk : (ws : List Walked) (rs : List UnitRange) → ranges_in p ks ws ≡ Ok rs → (r : UnitRange) → Contains rs r → (w : Walked) × Contains ws w × (r.unit ≡ w.number)
  unfolding ranges_in
  range_walk ws rs is r c =
      let b = bind_ok (each (unit_ranges p ks) ws) (λ rs. Ok (flat_map (λ r. r) rs)) rs is in
      let d = subst (λ (xs : List UnitRange). Contains xs r) (sym (same_ok (flat_map (λ (r : List UnitRange). r) b.0) rs b.2)) c in
      let m = of_flat_map (λ (r : List UnitRange). r) b.0 r d in
      let w = each_member (unit_ranges p ks) ws b.0 b.1 m.0 m.1 in
      (w.0, w.1, range_unit w.0 m.0 w.2 r m.2)

module _ (f : List ℕ) (p : Program) (file : program_of f ≡ Ok p) (ks : List Link) (links : links_of p ≡ Ok ks) (us : List UnitHeader) (scans : AreScans p.sections 0 us p.walks) (rs : List UnitRange) (are : all_ranges p ks ≡ Ok rs) where
  range_within : (r : UnitRange) → Contains rs r → r.unit < length us
  unfolding all_ranges
  range_within r c =
      let w = range_walk p ks p.walks rs are r c in
      omega (arith, w.2, numbered_high 0 p.walks w.0 (program_numbered f p file) w.1, scans_count p.sections 0 us p.walks scans)

  -- the unit at an address is one of the file
  unit_within : (a n : ℕ) → unit_at rs a ≡ Some n → n < length us
  unit_within a n is =
      let l = subst (IsLeastUnit rs a) is (unit_at_least f (built p ks rs) a (built_with f p file ks links rs are)) in
      omega (arith, l.3, range_within l.0 l.1)

  pub pieces_in_units : (map : List UnitRange) → IsPieces rs map → All (λ q. q.unit < length us) map
  pieces_in_units map is = all_of (λ (q : UnitRange). q.unit < length us) map (λ q c.
      let m = (pieces_are_maximal rs q).0 (subst (λ (ps : List UnitRange). Contains ps q) (are_the_pieces rs map is) c) in
      unit_within q.range.low q.unit (m.inside q.range.low (omega arith) m.some))

-- ---- main

find_member : {A : Type 0} (q : A → Bool) (xs : List A) (v : A) → find q xs ≡ Some v → Contains xs v
find_member q [] v is = absurd (cc is)
find_member {A = A} q (x ∷ xs) v is =
    elim (q x) as (λ b. cond b (Some x) (find q xs) ≡ Some v → Contains (x ∷ xs) v) [
      | true ↦ λ h. subst (Contains (x ∷ xs)) (same_Some x v h) (contains_here x xs)
      | false ↦ λ h. contains_later x xs v (find_member q xs v h)
    ] is

module _ (p : Program) (ks : List Link) where
  main_member : (xs : List Link) (k : Link) → main_in xs ≡ Some k → Contains xs k
  unfolding main_in
  main_member xs k is = by (find (λ k. says_main k.entry.item) xs) refl is
    where
      by : (o : Option Link) → find (λ (k : Link). says_main k.entry.item) xs ≡ o → option_or o (find is_named_main xs) ≡ Some k → Contains xs k
      by (Some l) e h = find_member (λ (k : Link). says_main k.entry.item) xs k (e ∙ h)
      by None e h = find_member is_named_main xs k h

  own_entry : (k : Link) → Contains (indexed_in ks) k → Contains (entries_of p ks) (entry_of k)
  unfolding entries_of entries_of_link
  own_entry k c = to_flat_map (entries_of_link p) (indexed_in ks) k (entry_of k) c (contains_here (entry_of k) (option_to_list (linkage_entry_of (entry_of k) (linkage_name_of p k.chain))))

  own_name : (k : Link) → is_plainly_named (full_name k) (entry_of k) ≡ true
  unfolding entry_of
  own_name k = (bytes_eq-Decides (full_name k) (full_name k)).1 refl

  named_by : (o : Option Link) → ((k : Link) → o ≡ Some k → Contains (indexed_in ks) k) → IsMainOf (entries_of p ks) (option_map (λ k. record { language = language_of p k.entry.home; name = full_name k }) o)
  named_by None member = tt
  named_by (Some k) member = any_of (is_plainly_named (full_name k)) (entries_of p ks) (entry_of k) (own_entry k (member k refl)) (own_name k)

  pub main_named : IsMainOf (entries_of p ks) (main_of p ks)
  unfolding main_of
  main_named =
      let spoken : Link → Bool = λ k. not (eqb (language_of p k.entry.home) 0) in
      named_by (main_in (filter spoken (indexed_in ks))) (λ k is. (of_filter spoken (indexed_in ks) k (main_member (filter spoken (indexed_in ks)) k is)).0)
