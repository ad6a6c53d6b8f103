-- The ranges of the units, one unit after the other.
use Rattle.std.proofs.Common.{◌≡◌, ℕ, zero, suc, ◌+◌, ◌<◌, List, [], ◌∷◌, ◌++◌, length, map, flat_map, take, drop, append-nil, Result, Ok, Err, refl, sym, ap, subst, ◌∙◌, arith}
use Rattle.std.specs.Prelude.{Contains, IsOkAnd}
use Rattle.std.proofs.lemmas.Grind.{flat_map-append}
use Rattle.std.proofs.lemmas.List.{take-append-drop}
use Rattle.common_laws.proofs.Members.{contains_here, contains_later}
use Rattle.ix_base.specs.declared.fault.Fault.{Fault}
use Rattle.index_model.specs.Gives.{Stop}
use Rattle.ix_base.specs.declared.or_memory.OrMemory.TheVariants as stops
use Rattle.file_image.specs.Images.{Image, image_of}
use Rattle.file_image.proofs.Images.{parts_of}
use Rattle.index_model.specs.declared.unit.Unit.{Unit as UnitHeader}
use Rattle.index_model.specs.Sections.{Section}
use Rattle.index_model.specs.Units.{units_of}
use Rattle.index_model.proofs.Scans.{AreScans, program_parts}
use Rattle.index_model.specs.declared.range.Range.{Range}
use Rattle.index_model.specs.declared.range.UnitRange.{UnitRange}
use Rattle.index_model.specs.declared.shard.Shard.{Shard}
use Rattle.index_model.specs.declared.shard.Linked.{Linked}
use Rattle.index_model.specs.Faults.{program_of, links_of, all_ranges}
use Rattle.index_model.specs.Gives.{StopsAs}
use Rattle.index_model.specs.Links.{Link}
use Rattle.index_model.specs.Meaning.{◌>>=◌, each}
use Rattle.index_model.specs.Pieces.{IsPieces}
use Rattle.index_model.specs.Program.{Walked, Program}
use Rattle.index_model.specs.Ranges.{ranges_of, unit_ranges, ranges_in}
use Rattle.index_model.specs.Shards.{AreShardsOf}
use Rattle.index_model.proofs.Meanings.{bind_ok, same_ok}
use Rattle.index_model.proofs.ShardRoots.{Numbered, program_numbered}
use Rattle.parent_resolve.proofs.RunLinks.{each_append}
use Rattle.range_lists.specs.declared.found.FoundRanges.{FoundRanges}
use Rattle.range_lists.specs.Found.{AreRead, IsAdded}
use Rattle.range_lists.specs.Same.{with_unit, of_unit, HaveSameUnits}
use Rattle.range_lists.specs.Units.{AreLinkedOf, ForUnit}
use Rattle.range_lists.proofs.SameUnits.{same_front}
use Rattle.qualified_names.specs.Files.{AreLinkedOfFile, ForLinks}
use Rattle.index_pool.specs.Files.{AreFirstRanges}
use Rattle.index_pool.proofs.Lists.{ok_and, and_ok}

-- ---- the next unit

pub record NextWalk (ws : List Walked) (m n : ℕ) : Type 0 where
  pub walk : Walked
  pub member : Contains ws walk
  pub number : walk.number ≡ m + n
  pub more : take (suc n) ws ≡ take n ws ++ walk ∷ []

next_walk : (ws : List Walked) (m n : ℕ) → Numbered m ws → n < length ws → NextWalk ws m n
next_walk [] m n h lt = absurd (omega (arith, lt))
next_walk (w ∷ ws) m zero h lt = record { walk = w; member = contains_here w ws; number = omega (arith, h.0); more = refl }
next_walk (w ∷ ws) m (suc n) h lt =
    let r = next_walk ws (m + 1) n h.1 (omega (arith, lt)) in
    record { walk = r.walk; member = contains_later w ws r.walk r.member; number = omega (arith, r.number); more = ap (λ (vs : List Walked). w ∷ vs) r.more }

-- ---- the ranges of one unit more

module _ (p : Program) (ks : List Link) where
  one_more : (front : List Walked) (w : Walked) (n : ℕ) (old : List UnitRange) (rs : List Range) → ranges_in p ks front ≡ Ok old → w.number ≡ n → ranges_of p ks w ≡ Ok rs → ranges_in p ks (front ++ w ∷ []) ≡ Ok (old ++ of_unit n rs)
  unfolding ranges_in unit_ranges
  one_more front w n old rs first number own =
      let b = bind_ok (each (unit_ranges p ks) front) (λ rs. Ok (flat_map (λ r. r) rs)) old first in
      rw (each_append (unit_ranges p ks) front (w ∷ []), b.1, own) (ap (λ (xs : List UnitRange). Ok xs)
      (flat_map-append (λ (r : List UnitRange). r) b.0 (map (with_unit w.number) rs ∷ []) ∙
      ap (λ (xs : List UnitRange). xs ++ flat_map (λ (r : List UnitRange). r) (map (with_unit w.number) rs ∷ [])) (same_ok (flat_map (λ (r : List UnitRange). r) b.0) old b.2) ∙
      ap (λ (xs : List UnitRange). old ++ xs) (append-nil (map (with_unit w.number) rs) ∙ ap (λ (k : ℕ). map (with_unit k) rs) number)))

  one_wrong : (front : List Walked) (w : Walked) (old : List UnitRange) (f : Fault) → ranges_in p ks front ≡ Ok old → ranges_of p ks w ≡ Err f → ranges_in p ks (front ++ w ∷ []) ≡ Err f
  unfolding ranges_in unit_ranges
  one_wrong front w old f first own =
      let b = bind_ok (each (unit_ranges p ks) front) (λ rs. Ok (flat_map (λ r. r) rs)) old first in
      rw (each_append (unit_ranges p ks) front (w ∷ []), b.1, own) refl

  -- what is wrong in the first units is what is wrong in all
  still_wrong : (front back : List Walked) (f : Fault) → ranges_in p ks front ≡ Err f → ranges_in p ks (front ++ back) ≡ Err f
  unfolding ranges_in
  still_wrong front back f is = by (each (unit_ranges p ks) front) refl is
    where
      by : (r : Result (List (List UnitRange)) Fault) → each (unit_ranges p ks) front ≡ r → (r >>= λ rs. Ok (flat_map (λ r. r) rs)) ≡ Err f → (each (unit_ranges p ks) (front ++ back) >>= λ rs. Ok (flat_map (λ r. r) rs)) ≡ Err f
      by (Ok rs) e h = absurd (cc h)
      by (Err g) e h = rw (each_append (unit_ranges p ks) front back, e) h

  pub stops_all : (n : ℕ) (s : Stop) → StopsAs s (ranges_in p ks (take n p.walks)) → StopsAs s (all_ranges p ks)
  unfolding all_ranges
  stops_all n stops.Memory h = tt
  stops_all n (stops.Cause f) h = ap (ranges_in p ks) (sym (take-append-drop n p.walks)) ∙ still_wrong (take n p.walks) (drop n p.walks) f h

  pub none_first : ranges_in p ks (take 0 p.walks) ≡ Ok []
  unfolding ranges_in
  none_first = refl

-- ---- one unit more of a file

module _ (image : Image) (shards : List Shard) (linked : List Linked) (r : AreLinkedOfFile image shards linked) (n : ℕ) (within : ForLinks image (λ p ks. n < length p.walks)) (found : FoundRanges) (before : AreFirstRanges image n found) where
  -- what the ranges of the next unit say
  next_says : (P : Result (List Range) Fault → Type 0) → ForUnit image shards linked n P → (p : Program) → program_of image.file ≡ Ok p → (ks : List Link) → links_of p ≡ Ok ks → (w : NextWalk p.walks 0 n) × P (ranges_of p ks w.walk)
  next_says P says p file ks links =
      let w = next_walk p.walks 0 n (program_numbered image.file p file) (within p file ks links) in
      let same : r.program ≡ p = same_ok r.program p (sym r.is ∙ file) in
      let at : (q : Program) → r.program ≡ q → (h : AreShardsOf q shards) × AreLinkedOf q shards h linked = λ q e. subst (λ (q : Program). (h : AreShardsOf q shards) × AreLinkedOf q shards h linked) e (r.are, r.links) in
      let h = at p same in
      (w, says p ks file links h.0 h.1 w.walk w.member (omega (arith, w.number)))

  -- what an answer for the next unit says, by what was found before
  abbrev Says : (Result (List Range) Fault → Type 0) → Type 0
  Says P = AreRead image.sections found → ForUnit image shards linked n P

  pub unit_more : (new : FoundRanges) → Says (λ m. IsOkAnd m (IsAdded image.sections n found new)) → AreFirstRanges image (n + 1) new
  unit_more new says p file ks links =
      let b = before p file ks links in
      let old = ok_and (ranges_in p ks (take n p.walks)) (HaveSameUnits found.ranges.items) b.1 in
      let x = next_says (λ m. IsOkAnd m (IsAdded image.sections n found new)) (says b.0) p file ks links in
      let own = ok_and (ranges_of p ks x.0.walk) (IsAdded image.sections n found new) x.1 in
      let next : n + 1 ≡ suc n = omega arith in
      let all = ap (λ (k : ℕ). ranges_in p ks (take k p.walks)) next ∙ ap (ranges_in p ks) x.0.more ∙ one_more p ks (take n p.walks) x.0.walk n old.0 own.0 old.1 (omega (arith, x.0.number)) own.1 in
      (own.2.read, and_ok (ranges_in p ks (take (n + 1) p.walks)) (old.0 ++ of_unit n own.0) (HaveSameUnits new.ranges.items) all (λ a. own.2.same a ∙ same_front found.ranges.items old.0 (of_unit n own.0) old.2 a))

  pub unit_stops : (s : Stop) → Says (StopsAs s) → ForLinks image (λ p ks. StopsAs s (ranges_in p ks (take (n + 1) p.walks)))
  unit_stops stops.Memory says p file ks links = tt
  unit_stops (stops.Cause f) says p file ks links =
      let b = before p file ks links in
      let old = ok_and (ranges_in p ks (take n p.walks)) (HaveSameUnits found.ranges.items) b.1 in
      let x = next_says (λ m. m ≡ Err f) (says b.0) p file ks links in
      let next : n + 1 ≡ suc n = omega arith in
      ap (λ (k : ℕ). ranges_in p ks (take k p.walks)) next ∙ ap (ranges_in p ks) x.0.more ∙ one_wrong p ks (take n p.walks) x.0.walk old.0 f old.1 x.1

-- ---- pieces

-- what shows the same units has the same pieces
pub same_pieces : (us rs ps : List UnitRange) → HaveSameUnits us rs → IsPieces us ps → IsPieces rs ps
same_pieces us rs ps same is = record { apart = is.apart; same = λ a. is.same a ∙ same a }

-- ---- how many units there are

pub scans_count : (ss : List Section) (n : ℕ) (us : List UnitHeader) (ws : List Walked) → AreScans ss n us ws → length us ≡ length ws
scans_count ss n [] [] h = refl
scans_count ss n [] (w ∷ ws) h = absurd h
scans_count ss n (u ∷ us) [] h = absurd h
scans_count ss n (u ∷ us) (w ∷ ws) h = ap suc (scans_count ss (n + 1) us ws h.1)

pub walks_count : (image : Image) → image_of image.file ≡ Ok image → (p : Program) → program_of image.file ≡ Ok p → length image.units ≡ length p.walks
walks_count image is p file =
    let own = parts_of image.file image is in
    let parts = program_parts image.file p file in
    let sections : image.sections ≡ p.sections = same_ok image.sections p.sections (sym own.sections ∙ parts.1) in
    let units : image.units ≡ parts.0 = same_ok image.units parts.0 (sym own.units ∙ ap units_of sections ∙ parts.2) in
    ap length units ∙ scans_count p.sections 0 parts.0 p.walks parts.3
