-- The laws, over accepted files.
use Rattle.std.proofs.Common.{◌≡◌, ℕ, ◌<◌, not, List, length, take, map, Result, Ok, Err, refl, ◌∙◌, subst}
use Rattle.std.specs.Prelude.{Contains, filter, IsErr, IsOk}
use Rattle.std.proofs.lemmas.Bool.{not-true}
use Rattle.common_laws.proofs.Members.{of_filter, of_map}
use Rattle.ix_base.specs.declared.fault.Fault.{Fault}
use Rattle.index_model.specs.declared.entry.Entry.{Entry}
use Rattle.index_model.specs.declared.job.CacheKind.TheVariants.{Gdb9}
use Rattle.index_model.specs.declared.unit.Unit.{Unit as UnitHeader}
use Rattle.index_model.specs.Ordered.{bytes_lt}
use Rattle.index_model.specs.Links.{links_in}
use Rattle.index_model.specs.Answers.{entries_in}
use Rattle.index_model.specs.MainProgram.{main_of}
use Rattle.index_model.specs.Pieces.{pieces}
use Rattle.index_model.specs.Cache.{GdbBytes, cache_in, cache_of}
use Rattle.index_model.specs.Faults.{Built, all_ranges, built_of, links_of, program_of}
use Rattle.index_model.specs.GdbIndex.{gdb_index_bytes, index_names, pool_of}
use Rattle.index_model.specs.GdbIndexRead.{GdbIndex, gdb_index}
use Rattle.index_model.proofs.Meanings.{bind_ok, same_ok}
use Rattle.index_model.proofs.Orders.{ascending_only, bytes_order}
use Rattle.index_model.proofs.Scans.{AreScans, program_parts}
use Rattle.index_alike.specs.GdbAlike.{units_in}
use Rattle.index_alike.proofs.GdbBuilt.{alike_9, cache_fits}
use Rattle.index_alike.proofs.GdbEntries.{entry_clean}
use Rattle.index_alike.proofs.GdbPool.{names_of_pool}
use Rattle.index_alike.proofs.GdbPositions.{HasNoZero}
use Rattle.reach_model.specs.KeptIndexes.{kept_bytes, kept_index}
use Rattle.kept_alike.specs.KeptAlike.{CutIndexesAreRefused, IndexesAreKept, KeptIndexesOpen}
use Rattle.kept_alike.proofs.CutIndex.{index_cut}
use Rattle.kept_alike.proofs.KeptBytes.{kept_cut, kept_reads}

ok_is : {A E : Type 0} (r : Result A E) (x : A) → r ≡ Ok x → IsOk r
ok_is (Ok y) x is = refl
ok_is (Err e) x is = absurd cc

err_is : {A E : Type 0} (r : Result A E) → ((x : A) → r ≡ Ok x → ⊥) → IsErr r
err_is (Ok x) none = absurd (none x refl)
err_is (Err e) none = refl

-- ---- the names of an accepted file

-- the scans and the links of an accepted file
record AreFrom (b : Built) : Type 0 where
  units : List UnitHeader
  scans : AreScans b.program.sections 0 units b.program.walks
  links : links_in b.program b.program.walks ≡ Ok b.links

from_file : (file : List ℕ) (b : Built) → built_of file ≡ Ok b → AreFrom b
unfolding built_of links_of
from_file file b is =
    let p = bind_ok (program_of file) _ b is in
    let k = bind_ok (links_of p.0) _ b p.2 in
    let r = bind_ok (all_ranges p.0 k.0) _ b k.2 in
    let parts = program_parts file p.0 p.1 in
    subst AreFrom (same_ok {E = Fault} (record { program = p.0; links = k.0; ranges = r.0 }) b r.2) (record { units = parts.0; scans = parts.3; links = k.1 })

-- the names of its index have no zero
names_clean : (b : Built) → AreFrom b → (name : List ℕ) → Contains (pool_of (units_in b) (entries_in b)).names name → HasNoZero name
unfolding index_names
names_clean b made name c =
    let entries : List Entry = filter (λ e. not e.linkage) (entries_in b) in
    let listed = subst (λ (names : List (List ℕ)). Contains names name) (names_of_pool (units_in b) (entries_in b)) c in
    let m = of_map (λ (e : Entry). e.name) entries name (ascending_only bytes_lt bytes_order (map (λ e. e.name) entries) name listed) in
    let f = of_filter (λ (e : Entry). not e.linkage) (entries_in b) m.0 m.1 in
    subst HasNoZero m.2 (entry_clean b.program made.units made.scans b.links made.links m.0 f.0 (not-true m.0.linkage f.1))

-- ---- the laws

pub kept : IndexesAreKept
kept id index is_id = kept_reads id index is_id

pub whole : KeptIndexesOpen
whole file b index id is cache is_id =
    let r = alike_9 file b index is cache in
    ok_is (kept_index (kept_bytes id index) id) r.index (kept_reads id index is_id ∙ r.is)

-- no proper prefix of the index is one
abbrev IsWhole : List ℕ → Type 0
IsWhole index = (j : ℕ) → j < length index → (i : GdbIndex) → gdb_index (take j index) ≡ Ok i → ⊥

index_whole : (file : List ℕ) (b : Built) (index : List ℕ) → built_of file ≡ Ok b → cache_in Gdb9 b ≡ GdbBytes index → IsWhole index
unfolding cache_in cache_of
index_whole file b index is cache =
    let fits = cache_fits (gdb_index_bytes (units_in b) (pieces b.ranges) (main_of b.program b.links) (entries_in b) 9) index cache in
    subst IsWhole fits.1 (index_cut (units_in b) (pieces b.ranges) (main_of b.program b.links) (entries_in b) (names_clean b (from_file file b is)) fits.0)

pub cut : CutIndexesAreRefused
cut file b index id is cache is_id k less =
    err_is (kept_index (take k (kept_bytes id index)) id) (kept_cut id index is_id (index_whole file b index is cache) k less)
