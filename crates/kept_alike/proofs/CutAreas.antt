-- The areas of a prefix of an index: its symbol table is whole, and its constant pool is cut.
use Rattle.std.proofs.Common.{◌≡◌, ℕ, ◌+◌, ◌-◌, ◌*◌, ◌/◌, ◌^◌, ◌<◌, ◌≤◌, ◌&&◌, leb, if◌then◌else◌, List, [], ◌∷◌, length, take, drop, map, Result, Ok, refl, sym, ap, ◌∙◌, subst, arith}
use Rattle.std.specs.Prelude.{◌==◌, ◌||◌, slice_range}
use Rattle.std.specs.List.{AllByRecursion}
use Rattle.std.proofs.lemmas.Bool.{and_parts, leb-true}
use Rattle.std.proofs.lemmas.List.{length-drop, length-take-le, take_all}
use Rattle.std.proofs.lemmas.List.Sums.{sum_by_more}
use Rattle.ix_base.specs.declared.fault.Fault.{Fault}
use Rattle.index_model.specs.Layout.{below, field, start_of}
use Rattle.index_model.specs.Meaning.{◌>>=◌, ◌>>◌, fault, holds_or}
use Rattle.index_model.specs.GdbIndex.{with_header}
use Rattle.index_model.specs.GdbAreas.{Areas, areas, areas_at, offsets_from, version_of}
use Rattle.index_model.proofs.Meanings.{bind_ok, holds_ok, same_ok}
use Rattle.index_alike.proofs.GdbHeader.{area_stands, last_reads, offset_reads, version_reads}
use Rattle.index_alike.proofs.GdbPlaces.{map_below, range_is}
use Rattle.kept_alike.proofs.Prefixes.{behind, field_before, stands_before}

-- offsets without a fault are those of the fields, and lie in the bytes
offsets_ok : (bytes : List ℕ) (at least : ℕ) (xs ys : List ℕ) → offsets_from bytes at least xs ≡ Ok ys → (xs ≡ ys) × AllByRecursion (λ x. x ≤ length bytes) xs
unfolding offsets_from
offsets_ok bytes at least [] ys is = (same_ok {E = Fault} [] ys is, tt)
offsets_ok bytes at least (x ∷ xs) ys is =
    let h = holds_ok (leb least x && leb x (length bytes)) _ _ ys is in
    let r = bind_ok (offsets_from bytes (at + 4) x xs) (λ more. Ok (x ∷ more)) ys h.1 in
    let rest = offsets_ok bytes (at + 4) x xs r.0 r.1 in
    (ap (λ (more : List ℕ). x ∷ more) rest.0 ∙ same_ok {E = Fault} (x ∷ r.0) ys r.2, (leb-true x (length bytes) (and_parts (leb least x) (leb x (length bytes)) h.0).1, rest.1))

-- the version, where it is known
version_ok : (bytes : List ℕ) (version : ℕ) → version_of bytes ≡ Ok version → (4 ≤ length bytes) × (field 4 0 bytes ≡ version)
unfolding version_of
version_ok bytes version is =
    let h = holds_ok (leb 4 (length bytes)) _ _ version is in
    let v = holds_ok _ _ _ version h.1 in
    (leb-true 4 (length bytes) h.0, same_ok {E = Fault} (field 4 0 bytes) version v.1)

-- what the areas of an index of version 9 are made of
record AreAreas (bytes : List ℕ) (found : Areas) : Type 0 where
  long : 28 ≤ length bytes
  offsets : List ℕ
  read : offsets_from bytes 4 28 (map (λ k. field 4 (4 * k + 4) bytes) (below 6)) ≡ Ok offsets
  are : areas_at bytes 9 offsets ≡ found

areas_ok : (bytes : List ℕ) (found : Areas) → (4 ≤ length bytes → field 4 0 bytes ≡ 9) → areas bytes ≡ Ok found → AreAreas bytes found
unfolding areas
areas_ok bytes found nine is =
    let v = bind_ok (version_of bytes) _ found is in
    let known = version_ok bytes v.0 v.1 in
    let is_nine : v.0 ≡ 9 = sym known.1 ∙ nine known.0 in
    let more = subst (λ (n : ℕ). behind_version n ≡ Ok found) is_nine v.2 in
    let h = holds_ok (leb 28 (length bytes)) _ _ found more in
    let o = bind_ok (offsets_from bytes 4 28 (map (λ k. field 4 (4 * k + 4) bytes) (below 6))) _ found h.1 in
    let p = holds_ok _ _ (Ok (areas_at bytes 9 o.0)) found o.2 in
    record { long = leb-true 28 (length bytes) h.0; offsets = o.0; read = o.1; are = same_ok {E = Fault} (areas_at bytes 9 o.0) found p.1 }
  where
    behind_version : ℕ → Result Areas Fault
    behind_version version =
        let header = if version == 9 then 28 else 24 in
        holds_or (leb header (length bytes)) (fault 41 4) >> (offsets_from bytes 4 header (map (λ k. field 4 (4 * k + 4) bytes) (below (header / 4 - 1))) >>= λ offsets. holds_or (version == 8 || leb 8 (length (areas_at bytes version offsets).shortcut.rest)) (fault 41 20) >> Ok (areas_at bytes version offsets))

-- a whole table, and less than the whole pool
pub record AreCut (table pool : List ℕ) (found : Areas) : Type 0 where
  pub table_is : found.table.rest ≡ table
  pub left : ℕ
  pub pool_is : found.pool.rest ≡ take left pool
  pub less : left < length pool

module _ (a b c d e f : List ℕ) (small : length (with_header 9 (a ∷ b ∷ c ∷ d ∷ e ∷ f ∷ [])) < 2 ^ 32) where
  abbrev all : List (List ℕ)
  all = a ∷ b ∷ c ∷ d ∷ e ∷ f ∷ []

  abbrev whole : List ℕ
  whole = with_header 9 all

  abbrev offset : ℕ → ℕ
  offset k = 28 + start_of all k

  module _ (j : ℕ) (cut : j < length whole) where
    size : length (take j whole) ≡ j
    size = length-take-le j whole (omega arith)

    offsets_are : 28 ≤ j → map (λ k. field 4 (4 * k + 4) (take j whole)) (below 6) ≡ map offset (below 6)
    offsets_are le = map_below 0 (λ k. field 4 (4 * k + 4) (take j whole)) offset 6 (λ k lt. field_before 4 (4 * k + 4) j whole (omega arith) ∙ offset_reads 9 all small k lt)

    table_reads : offset 4 ≤ j → slice_range (take j whole) (offset 3) (offset 4) ≡ d
    table_reads le =
        let next : offset 3 + length d ≡ offset 4 = omega (arith, sum_by_more length all 3 [] (omega arith)) in
        range_is (stands_before j (area_stands 9 all small 3 (omega arith)) (omega (arith, next))) (offset 4) next

    last : drop (offset 5) whole ≡ f
    last = sym (take_all (length whole - offset 5) (drop (offset 5) whole) (omega (arith, length-drop (offset 5) whole))) ∙ last_reads 9 all small 5 refl

    pool_reads : offset 5 ≤ j → slice_range (take j whole) (offset 5) (length (take j whole)) ≡ take (j - offset 5) f
    pool_reads le =
        ap (take (length (take j whole) - offset 5)) (behind (offset 5) j whole le ∙ ap (take (j - offset 5)) last)
        ∙ take_all (length (take j whole) - offset 5) (take (j - offset 5) f) (omega (arith, size, length-take-le (j - offset 5) f (omega (arith, ap length last, length-drop (offset 5) whole))))

    pub areas_cut : (found : Areas) → areas (take j whole) ≡ Ok found → AreCut d f found
    unfolding areas_at
    areas_cut found is =
        let r = areas_ok (take j whole) found (λ le. field_before 4 0 j whole (omega (arith, le, size)) ∙ version_reads 9 all small (omega arith)) is in
        let long : 28 ≤ j = omega (arith, r.long, size) in
        let o = offsets_ok (take j whole) 4 28 (map (λ k. field 4 (4 * k + 4) (take j whole)) (below 6)) r.offsets r.read in
        let within = subst (AllByRecursion (λ x. x ≤ length (take j whole))) (offsets_are long) o.1 in
        let fourth : offset 4 ≤ j = omega (arith, within.1.1.1.1.0, size) in
        let fifth : offset 5 ≤ j = omega (arith, within.1.1.1.1.1.0, size) in
        let are : areas_at (take j whole) 9 (map offset (below 6)) ≡ found = ap (areas_at (take j whole) 9) (sym (offsets_are long) ∙ o.0) ∙ r.are in
        record {
          table_is = ap (λ (x : Areas). x.table.rest) (sym are) ∙ table_reads fourth;
          left = j - offset 5;
          pool_is = ap (λ (x : Areas). x.pool.rest) (sym are) ∙ pool_reads fifth;
          less = omega (arith, fifth, cut, ap length last, length-drop (offset 5) whole);
        }
