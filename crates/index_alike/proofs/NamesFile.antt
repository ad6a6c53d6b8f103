-- What is written of a file reads back.
use Rattle.std.proofs.Common.{◌≡◌, ℕ, ◌+◌, ◌-◌, ◌<◌, ◌≤◌, Bool, true, false, ◌&&◌, not, cond, leb, List, length, map, Some, None, Ok, refl, sym, ap, subst, ◌∙◌, arith}
use Rattle.std.specs.Prelude.{Contains, slice_get, is_some, option_map}
use Rattle.std.proofs.lemmas.Bool.{and_parts, leb-true}
use Rattle.common_laws.proofs.Options.{of_option_map}
use Rattle.ix_base.specs.declared.limits.TheConstants.{MAX_FILE_BYTES}
use Rattle.index_model.specs.declared.entry.Entry.{Entry}
use Rattle.index_model.specs.declared.unit.Unit.{Unit as UnitHeader}
use Rattle.index_model.specs.declared.job.CacheKind.TheVariants.{Names}
use Rattle.index_model.specs.Units.{is_types}
use Rattle.index_model.specs.Links.{Link}
use Rattle.index_model.specs.Program.{Program}
use Rattle.index_model.specs.Faults.{Built, built_of, program_of, links_of, all_ranges}
use Rattle.index_model.specs.Answers.{entries_in}
use Rattle.index_model.specs.Cache.{NameBytes, DoesNotFit, cache_of, cache_in, string_bytes_in}
use Rattle.index_model.specs.Entries.{entries_of}
use Rattle.index_model.specs.NameIndex.{Indexed, indexed_entry, units_of_sort, all_indexed, name_index_bytes, name_index_strings, name_lt}
use Rattle.index_model.specs.NameIndexRead.{NameHit, name_index}
use Rattle.index_model.proofs.Meanings.{bind_ok, same_ok}
use Rattle.index_model.proofs.Pairs.{Pairs, pairs_weaker}
use Rattle.index_model.proofs.IndexOrders.{name_order}
use Rattle.index_alike.specs.GdbAlike.{units_in}
use Rattle.index_alike.specs.NamesAlike.{sort_of, hit_of, LeadsTo, HitsLeadToEntries, InfoHasHits, WrittenNamesReadAlike}
use Rattle.index_alike.proofs.NamesOrder.{Below, ascending_pairs}
use Rattle.index_alike.proofs.NamesTexts.{HasNoZero}
use Rattle.index_alike.proofs.NamesParts.{strings, names as index_names}
use Rattle.index_alike.proofs.NamesRead.{named, IsSound, index_is}
use Rattle.index_alike.proofs.NamesHits.{Apart, hits_are}
use Rattle.index_alike.proofs.NamesIndexed.{indexed_as, indexed_is, IsOf, unit_listed, of_indexed, own_are}
use Rattle.index_alike.proofs.NamesUnits.{unit_at, offset_short}
use Rattle.index_alike.proofs.NamesLinks.{IsKnown, entries_known}

-- ---- what is written

-- an index within the limits
record IsWithin (names strings : List ℕ) (old : ℕ) (written added : List ℕ) : Type 0 where
  short : length written ≤ 4294967283
  texts : old + length added ≤ 4294967295
  names_are : written ≡ names
  strings_are : added ≡ strings

within : (names strings : List ℕ) (old : ℕ) (written added : List ℕ) (b : Bool) → (leb (length written) 4294967283 && leb (old + length added) 4294967295) ≡ b → cond b (NameBytes written added) DoesNotFit ≡ NameBytes names strings → IsWithin names strings old written added
within names strings old written added true e is =
    let p = and_parts (leb (length written) 4294967283) (leb (old + length added) 4294967295) e in
    record { short = leb-true _ _ p.0; texts = leb-true _ _ p.1; names_are = cc; strings_are = cc }
within names strings old written added false e is = absurd cc

abbrev old_of : Built → ℕ
old_of b = string_bytes_in b.program.sections

cache_within : (b : Built) (names strings : List ℕ) → cache_in Names b ≡ NameBytes names strings →
    IsWithin names strings (old_of b) (name_index_bytes (units_in b) (old_of b) (entries_in b)) (name_index_strings (units_in b) (entries_in b))
unfolding cache_in cache_of
cache_within b names strings is = within names strings (old_of b) (name_index_bytes (units_in b) (old_of b) (entries_in b)) (name_index_strings (units_in b) (entries_in b)) _ refl is

-- ---- the entries of a file

module _ (f : List ℕ) (p : Program) (ks : List Link) (short : length f ≤ MAX_FILE_BYTES) (program : program_of f ≡ Ok p) (links : links_of p ≡ Ok ks) where
  abbrev units : List UnitHeader
  units = map (λ w. w.unit) p.walks

  entry_sound : (e : Entry) (w : Indexed) → Contains (entries_of p ks) e → IsOf units e w → IsSound units w
  entry_sound e w c h =
      let k = entries_known f p ks e program links c in
      let u = h.unit in
      let low = offset_short f p k.home k.item u program k.walk k.own (ap (slice_get units) (sym k.unit) ∙ h.at) h.info in
      let below = low.1 in
      let offset : e.offset - u.start ≡ k.item.at - u.start = ap (λ (n : ℕ). n - u.start) k.offset in
      record {
        name = subst (λ (x : Indexed). HasNoZero x.name) h.is k.name;
        tag = subst (λ (x : Indexed). x.tag < 18446744073709551616) h.is (let t = k.tag in omega (arith, t));
        unit = (unit_listed units e w h).within;
        offset = subst (λ (x : Indexed). x.offset < 4294967296) h.is (omega (arith, below, offset, short));
      }

  sound : (w : Indexed) → Contains (all_indexed units (entries_of p ks)) w → IsSound units w
  sound w c = let m = of_indexed units (entries_of p ks) w c in entry_sound m.0 w m.1 m.2

sound_in : (f : List ℕ) (b : Built) → length f ≤ MAX_FILE_BYTES → built_of f ≡ Ok b → (w : Indexed) → Contains (all_indexed (units_in b) (entries_in b)) w → IsSound (units_in b) w
unfolding built_of
sound_in f b short is =
    let p = bind_ok (program_of f) _ b is in
    let k = bind_ok (links_of p.0) _ b p.2 in
    let r = bind_ok (all_ranges p.0 k.0) _ b k.2 in
    let made : Built = record { program = p.0; links = k.0; ranges = r.0 } in
    subst (λ (x : Built). (w : Indexed) → Contains (all_indexed (units_in x) (entries_in x)) w → IsSound (units_in x) w) (same_ok made b r.2) (sound f p.0 k.0 short p.1 k.1)

-- ---- hits

known_in : (f : List ℕ) (b : Built) (e : Entry) → built_of f ≡ Ok b → Contains (entries_in b) e → (program_of f ≡ Ok b.program) × IsKnown b.program e
unfolding built_of
known_in f b e is c =
    let p = bind_ok (program_of f) _ b is in
    let k = bind_ok (links_of p.0) _ b p.2 in
    let r = bind_ok (all_ranges p.0 k.0) _ b k.2 in
    let made : Built = record { program = p.0; links = k.0; ranges = r.0 } in
    let of : Built → Type 0 = λ (x : Built). Contains (entries_in x) e → (program_of f ≡ Ok x.program) × IsKnown x.program e in
    subst of (same_ok made b r.2) (λ d. (p.1, entries_known f p.0 k.0 e p.1 k.1 d)) c

pub hits_lead_to_entries : HitsLeadToEntries
hits_lead_to_entries f b e h built c is =
    let k = known_in f b e built c in
    let units = units_in b in
    let m = of_option_map hit_of (indexed_entry units e) h is in
    let w = m.0 in
    let g = indexed_is units e w m.1 in
    let low = offset_short f b.program k.1.home k.1.item g.unit k.0 k.1.walk k.1.own (ap (slice_get units) (sym k.1.unit) ∙ g.at) g.info in
    let begins = low.0 in
    let at = k.1.offset in
    let offset : e.offset - g.unit.start ≡ w.offset = ap (λ (x : Indexed). x.offset) g.is in
    let made : LeadsTo units (hit_of w) e = record {
      unit = g.unit;
      own = g.at;
      sort = ap (λ (x : Indexed). sort_of x.types) (sym g.is);
      listed = ap (λ (x : Indexed). slice_get (units_of_sort x.types units) w.unit) g.is ∙ (unit_listed units e w g).at;
      place = omega (arith, begins, at, offset);
      tag = ap (λ (x : Indexed). x.tag) (sym g.is);
    } in
    subst (λ (x : NameHit). LeadsTo units x e) m.2 made

has_hit : (units : List UnitHeader) (e : Entry) (u : UnitHeader) → slice_get units e.unit ≡ Some u → is_some (option_map hit_of (indexed_entry units e)) ≡ not (is_types u.part)
unfolding indexed_entry
has_hit units e u at = rw at (by (is_types u.part))
  where
    by : (c : Bool) → is_some (option_map hit_of (cond c None (Some (indexed_as units e u)))) ≡ not c
    by true = refl
    by false = refl

pub info_has_hits : InfoHasHits
info_has_hits f b e built c =
    let k = known_in f b e built c in
    let own : slice_get (units_in b) e.unit ≡ Some k.1.home.unit = ap (slice_get (units_in b)) k.1.unit ∙ unit_at f b.program k.1.home k.0 k.1.walk in
    record { unit = k.1.home.unit; own = own; hit = has_hit (units_in b) e k.1.home.unit own }

-- ---- the law

names_apart : (units : List UnitHeader) (old : ℕ) (entries : List Entry) → Pairs Apart (index_names units old entries)
names_apart units old entries =
    let ss = strings units old entries in
    let n : ℕ = length ss in
    pairs_weaker (Below (name_lt n) (name_order n)) Apart (λ x y less same. (name_order n).itself y (subst (λ (w : List ℕ). name_lt n w y ≡ true) same less)) (index_names units old entries) (ascending_pairs (name_lt n) (name_order n) ss)

pub written_names_read_alike : WrittenNamesReadAlike
written_names_read_alike f b names strings short built cache =
    let units = units_in b in
    let entries = entries_in b in
    let old : ℕ = old_of b in
    let h = cache_within b names strings cache in
    let read = index_is units old entries h.short h.texts (sound_in f b short built) in
    record {
      index = record { names = map (named units old entries) (index_names units old entries) };
      accepted = (λ i. name_index (sym h.names_are i) (sym h.strings_are i) old) ∙ read;
      hits = λ name. hits_are units old entries name (names_apart units old entries) ∙ own_are units entries name;
    }
