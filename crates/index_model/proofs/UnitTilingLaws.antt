-- The units tile their sections.
use Rattle.std.proofs.Common.{◌≡◌, ℕ, ◌+◌, ◌≤◌, List, [], ◌∷◌, ◌++◌, length, take, drop, Result, Ok, sym, ap, subst, ◌∙◌, arith, length-drop}
use Rattle.std.specs.Prelude.{flat_map, codes}
use Rattle.std.proofs.lemmas.List.{drop-drop, take-append-drop, drop-append-le, take-append-le, append-nil}
use Rattle.std.proofs.Math.Seq.{drop-append-add}
use Rattle.ix_base.specs.declared.fault.Fault.{Fault}
use Rattle.ix_base.specs.Reading.{Input, input}
use Rattle.index_model.specs.declared.unit.Part.{Part}
use Rattle.index_model.specs.declared.unit.Part.TheVariants.{Info, Types}
use Rattle.index_model.specs.declared.unit.Unit.{Unit as UnitHeader}
use Rattle.index_model.specs.Meaning.{◌>>=◌}
use Rattle.index_model.specs.Sections.{Section, section_bytes}
use Rattle.index_model.specs.Tiling.{Tiles, TilingGives, tiles}
use Rattle.index_model.specs.Units.{next_unit, units_of}
use Rattle.index_model.specs.LawsTiling.{TileTheSections, UnitsAreTheTiling, UnitBytesAreTheSections}
use Rattle.index_model.proofs.Meanings.{bind_ok, same_ok}
use Rattle.index_model.proofs.TilingLaws.{tiles_gives, only}
use Rattle.index_model.proofs.UnitReads.{unit_takes, unit_advances}

-- ---- the tiling

module _ (ss : List Section) where
  abbrev info : List ℕ
  info = section_bytes ss (codes ".debug_info")

  abbrev types : List ℕ
  types = section_bytes ss (codes ".debug_types")

  abbrev in_types : ℕ → Result (List UnitHeader) Fault
  in_types count = tiles (next_unit Types (length info)) count (input types 0)

  gives_tiles : (section : Part) (base k : ℕ) (i : Input) (us : List UnitHeader) → tiles (next_unit section base) k i ≡ Ok us → Tiles (next_unit section base) k i us
  gives_tiles section base k i us is = subst (TilingGives (next_unit section base) k i) is (tiles_gives (next_unit section base) (unit_advances section base) k i)

  tiles_are : (section : Part) (base k : ℕ) (i : Input) (us : List UnitHeader) → Tiles (next_unit section base) k i us → tiles (next_unit section base) k i ≡ Ok us
  tiles_are section base k i us t = only (next_unit section base) k i (tiles (next_unit section base) k i) (Ok us) (tiles_gives (next_unit section base) (unit_advances section base) k i) t

  tile : (us : List UnitHeader) → units_of ss ≡ Ok us → TileTheSections ss us
  unfolding units_of
  tile us is =
      let a = bind_ok (tiles (next_unit Info 0) 0 (input info 0)) (λ infos. in_types (length infos) >>= λ others. Ok (infos ++ others)) us is in
      let b = bind_ok (in_types (length a.0)) (λ others. Ok (a.0 ++ others)) us a.2 in
      record {
        infos = a.0;
        others = b.0;
        all = sym (same_ok (a.0 ++ b.0) us b.2);
        in_info = gives_tiles Info 0 0 (input info 0) a.0 a.1;
        in_types = gives_tiles Types (length info) (length a.0) (input types 0) b.0 b.1;
      }

  tiled : (us : List UnitHeader) → TileTheSections ss us → units_of ss ≡ Ok us
  unfolding units_of
  tiled us t =
      let a = tiles_are Info 0 0 (input info 0) t.infos t.in_info in
      let b = tiles_are Types (length info) (length t.infos) (input types 0) t.others t.in_types in
      rw (a, b) (ap (λ (xs : List UnitHeader). Ok xs) (sym t.all))

pub units_tile : UnitsAreTheTiling
units_tile ss us = (tile ss us, tiled ss us)

-- ---- the bytes

-- a section with what stands before it and behind it in the joint bytes
module _ (section : Part) (front bytes back : List ℕ) where
  abbrev all : List ℕ
  all = front ++ (bytes ++ back)

  abbrev read : ℕ → Input → Result (UnitHeader × Input) Fault
  read = next_unit section (length front)

  abbrev own : UnitHeader → List ℕ
  own u = take u.length (drop u.start all)

  part_of_all : (p n : ℕ) → p + n ≤ length bytes → take n (drop (length front + p) all) ≡ take n (drop p bytes)
  part_of_all p n le =
      let lp : p ≤ length bytes = omega (arith, le) in
      let ln : n ≤ length (drop p bytes) = omega (arith, le, length-drop p bytes) in
      ap (take n) (drop-append-add front (bytes ++ back) p ∙ drop-append-le p bytes back lp) ∙ take-append-le n (drop p bytes) back ln

  bytes_are : (k p : ℕ) (us : List UnitHeader) → p ≤ length bytes → Tiles read k (input bytes p) us → flat_map own us ≡ drop p bytes
  bytes_are k p [] le t = sym t
  bytes_are k p (u ∷ us) le t =
      let h = unit_takes section (length front) k (input bytes p) (u, t.1) t.2 in
      let there : u.length ≤ length (drop p bytes) = h.passes.there in
      let within : p + u.length ≤ length bytes = omega (arith, there, le, length-drop p bytes) in
      let next : t.1 ≡ input bytes (p + u.length) = sym h.passes.on ∙ ap (λ (x : List ℕ). let i : Input = record { at = p + u.length; rest = x } in i) (drop-drop u.length p bytes) in
      let others : flat_map own us ≡ drop (p + u.length) bytes = bytes_are (k + 1) (p + u.length) us within (subst (λ (i : Input). Tiles read (k + 1) i us) next t.3) in
      let mine : own u ≡ take u.length (drop p bytes) = ap (λ (x : ℕ). take u.length (drop x all)) h.start ∙ part_of_all p u.length within in
      ap (λ (x : List ℕ). x ++ flat_map own us) mine ∙ ap (λ (x : List ℕ). take u.length (drop p bytes) ++ x) (others ∙ sym (drop-drop u.length p bytes)) ∙ take-append-drop u.length (drop p bytes)

pub unit_bytes_tile : UnitBytesAreTheSections
unit_bytes_tile ss us t =
    let i = section_bytes ss (codes ".debug_info") in
    let o = section_bytes ss (codes ".debug_types") in
    let a : flat_map (own Info [] i o) t.infos ≡ i = bytes_are Info [] i o 0 0 t.infos (omega arith) t.in_info in
    let b : flat_map (own Types i o []) t.others ≡ o = bytes_are Types i o [] (length t.infos) 0 t.others (omega arith) t.in_types in
    (a, subst (λ (x : List ℕ). flat_map (λ u. take u.length (drop u.start (i ++ x))) t.others ≡ o) (append-nil o) b)
