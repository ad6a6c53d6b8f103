-- The units of a file, and how long they are.
use Rattle.std.proofs.Common.{◌≡◌, ℕ, suc, ◌+◌, ◌-◌, ◌<◌, ◌≤◌, Bool, true, false, cond, List, [], ◌∷◌, length, drop, take, map, find, Option, Some, None, Result, Ok, refl, sym, ap, subst, ◌∙◌, arith, length-drop, length-take, ⊎_elim, ltb}
use Rattle.std.specs.Prelude.{Contains, codes, bytes_eq, slice_get, option_map, unwrap_or}
use Rattle.std.proofs.lemmas.Bool.{true≢false}
use Rattle.std.proofs.lemmas.List.Elements.{Contains-append_cases}
use Rattle.std.proofs.lemmas.Option.{slice_get-map, same_Some}
use Rattle.common_laws.proofs.Members.{contains_here, contains_later, contains_cases, of_find}
use Rattle.ix_base.specs.declared.fault.Fault.{Fault}
use Rattle.ix_base.specs.declared.code.TheConstants.{SECTION_TABLE, NO_DEBUG_INFO}
use Rattle.ix_base.specs.Reading.{Input, input, before_zero}
use Rattle.index_model.specs.declared.unit.Part.{Part}
use Rattle.index_model.specs.declared.unit.Part.TheVariants.{Info, Types}
use Rattle.index_model.specs.declared.unit.Unit.{Unit as UnitHeader}
use Rattle.index_model.specs.Meaning.{◌>>=◌, ◌>>◌, fault, holds_or, some_or}
use Rattle.index_model.specs.Sections.{Header, Section, is_empty, fits, content, names, section_from, sections_from, section_bytes, section_count, headers_from, none_compressed, ident, table_fits, sections_of}
use Rattle.index_model.specs.Tiling.{Tiles}
use Rattle.index_model.specs.Units.{is_types, next_unit, units_of}
use Rattle.index_model.specs.Walk.{Item}
use Rattle.index_model.specs.Program.{Walked, Program, walked, items_of}
use Rattle.index_model.specs.Faults.{program_of}
use Rattle.index_model.proofs.Meanings.{bind_ok, then_ok, holds_ok, some_ok, same_ok}
use Rattle.index_model.proofs.Scans.{AreScans, scanned_walked, program_parts}
use Rattle.index_model.proofs.UnitReads.{unit_takes}
use Rattle.index_model.proofs.UnitTilingLaws.{units_tile}
use Rattle.index_model.proofs.UnitsApart.{walk_parts}
use Rattle.index_model.proofs.OrderLaws.{walks_in_order}

-- ---- sections

module _ (f : List ℕ) where
  content_short : (h : Header) → length (content f h) ≤ length f
  content_short h = by (is_empty h)
    where
      by : (b : Bool) → length (cond b [] (take h.size (drop h.at f))) ≤ length f
      by true = omega arith
      by false = omega (arith, length-take h.size (drop h.at f), length-drop h.at f)

  abbrev AllShort : List Section → Type 0
  AllShort ss = (s : Section) → Contains ss s → length s.content ≤ length f

  none_short : AllShort []
  none_short s c = absurd (omega (arith, c.1))

  more_short : (s : Section) (ss : List Section) → length s.content ≤ length f → AllShort ss → AllShort (s ∷ ss)
  more_short s ss own rest x c = ⊎_elim (λ (same : s ≡ x). subst (λ (y : Section). length y.content ≤ length f) same own) (λ (l : Contains ss x). rest x l) (contains_cases s ss x c)

  section_short : (i : ℕ) (h : Header) (s : Section) → section_from f i h ≡ Ok s → length s.content ≤ length f
  unfolding section_from
  section_short i h s is =
      let a = holds_ok (fits f h) (fault SECTION_TABLE i) (some_or (before_zero (drop h.name (names f))) (fault SECTION_TABLE i) >>= λ name. Ok (record { name = name; flags = h.flags; content = content f h })) s is in
      let b = some_ok (before_zero (drop h.name (names f))) (fault SECTION_TABLE i) (λ name. Ok (record { name = name; flags = h.flags; content = content f h })) s a.1 in
      let made : Section = record { name = b.0; flags = h.flags; content = content f h } in
      subst (λ (x : Section). length x.content ≤ length f) (same_ok made s b.2) (content_short h)

  sections_short : (i : ℕ) (hs : List Header) (ss : List Section) → sections_from f i hs ≡ Ok ss → AllShort ss
  unfolding sections_from
  sections_short i [] ss is = subst AllShort (same_ok [] ss is) none_short
  sections_short i (h ∷ hs) ss is =
      let a = bind_ok (section_from f i h) (λ first. sections_from f (i + 1) hs >>= λ others. Ok (first ∷ others)) ss is in
      let b = bind_ok (sections_from f (i + 1) hs) (λ others. Ok (a.0 ∷ others)) ss a.2 in
      subst AllShort (same_ok (a.0 ∷ b.0) ss b.2) (more_short a.0 b.0 (section_short i h a.0 a.1) (sections_short (i + 1) hs b.0 b.1))

  all_short : (ss : List Section) → sections_of f ≡ Ok ss → AllShort ss
  unfolding sections_of
  all_short ss is =
      let last : List Section → Result (List Section) Fault = λ (xs : List Section). none_compressed 1 xs >> (holds_or (ltb 0 (length (section_bytes xs (codes ".debug_info")))) (fault NO_DEBUG_INFO 0) >> Ok xs) in
      let read : Result (List Section) Fault = sections_from f 1 (headers_from f 1 (section_count f - 1)) in
      let a = then_ok (ident f) (table_fits f >> (read >>= last)) ss is in
      let b = then_ok (table_fits f) (read >>= last) ss a in
      let c = bind_ok read last ss b in
      let d = then_ok (none_compressed 1 c.0) (holds_or (ltb 0 (length (section_bytes c.0 (codes ".debug_info")))) (fault NO_DEBUG_INFO 0) >> Ok c.0) ss c.2 in
      let e = then_ok (holds_or (ltb 0 (length (section_bytes c.0 (codes ".debug_info")))) (fault NO_DEBUG_INFO 0)) (Ok c.0) ss d in
      subst AllShort (same_ok c.0 ss e) (sections_short 1 (headers_from f 1 (section_count f - 1)) c.0 c.1)

  -- the bytes of a section are no more than those of the file
  pub bytes_short : (ss : List Section) (name : List ℕ) → sections_of f ≡ Ok ss → length (section_bytes ss name) ≤ length f
  bytes_short ss name is = by (find (λ s. bytes_eq s.name name) ss) refl
    where
      by : (o : Option Section) → find (λ s. bytes_eq s.name name) ss ≡ o → length (unwrap_or (option_map (λ s. s.content) o) []) ≤ length f
      by None e = omega arith
      by (Some s) e = all_short ss is s (of_find (λ s. bytes_eq s.name name) ss s e).0

-- ---- units

-- a unit is no longer than what is left of its section
tiles_short : (section : Part) (base k : ℕ) (i : Input) (us : List UnitHeader) → Tiles (next_unit section base) k i us → (u : UnitHeader) → Contains us u → (u.part ≡ section) × (u.length ≤ length i.rest)
tiles_short section base k i [] t u c = absurd (omega (arith, c.1))
tiles_short section base k i (v ∷ us) t u c =
    let h = unit_takes section base k i (v, t.1) t.2 in
    let rest : length (drop v.length i.rest) ≡ length t.1.rest = ap (λ (x : Input). length x.rest) h.passes.on in
    let cut = length-drop v.length i.rest in
    let there : v.length ≤ length i.rest = h.passes.there in
    let own : v.part ≡ section = h.part in
    ⊎_elim
    (λ (same : v ≡ u). subst (λ (x : UnitHeader). (x.part ≡ section) × (x.length ≤ length i.rest)) same (own, there))
    (λ (l : Contains us u). let r = tiles_short section base (k + 1) t.1 us t.3 u l in (r.0, omega (arith, r.1, rest, cut)))
    (contains_cases v us u c)

not_info : (u : UnitHeader) → u.part ≡ Types → is_types u.part ≡ false → ⊥
not_info u types info = true≢false (sym (ap is_types types) ∙ info)

-- a unit of `.debug_info` is no longer than the section
unit_short : (ss : List Section) (us : List UnitHeader) (u : UnitHeader) → units_of ss ≡ Ok us → Contains us u → is_types u.part ≡ false → u.length ≤ length (section_bytes ss (codes ".debug_info"))
unit_short ss us u is c info =
    let bytes = section_bytes ss (codes ".debug_info") in
    let t = (units_tile ss us).0 is in
    ⊎_elim
    (λ (l : Contains t.infos u). (tiles_short Info 0 0 (input bytes 0) t.infos t.in_info u l).1)
    (λ (r : Contains t.others u). absurd (not_info u (tiles_short Types (length bytes) (length t.infos) (input (section_bytes ss (codes ".debug_types")) 0) t.others t.in_types u r).0 info))
    (Contains-append_cases t.infos t.others u (subst (λ (w : List UnitHeader). Contains w u) t.all c))

-- ---- walks

-- the walk of a unit, by its number
record IsNumbered (ss : List Section) (n : ℕ) (us : List UnitHeader) (ws : List Walked) (w : Walked) : Type 0 where
  place : ℕ
  at : slice_get ws place ≡ Some w
  number : w.number ≡ n + place
  unit : Contains us w.unit
  walk : (u : ℕ × UnitHeader) × (walked ss u ≡ Ok w)

numbered : (ss : List Section) (n : ℕ) (us : List UnitHeader) (ws : List Walked) (w : Walked) → AreScans ss n us ws → Contains ws w → IsNumbered ss n us ws w
numbered ss n [] [] w s c = absurd (omega (arith, c.1))
numbered ss n [] (v ∷ ws) w s c = absurd s
numbered ss n (u ∷ us) [] w s c = absurd s
numbered ss n (u ∷ us) (v ∷ ws) w s c =
    let own = (scanned_walked ss (n, u) v s.0).0 in
    let parts = walk_parts ss (n, u) v own in
    let number : v.number ≡ n = parts.0 in
    let unit : v.unit ≡ u = parts.1 in
    ⊎_elim
    (λ (same : v ≡ w). subst (IsNumbered ss n (u ∷ us) (v ∷ ws)) same (record { place = 0; at = refl; number = omega (arith, number); unit = subst (Contains (u ∷ us)) (sym unit) (contains_here u us); walk = ((n, u), own) }))
    (λ (l : Contains ws w).
    let r = numbered ss (n + 1) us ws w s.1 l in
    record { place = suc r.place; at = r.at; number = omega (arith, r.number); unit = contains_later u us w.unit r.unit; walk = r.walk })
    (contains_cases v ws w c)

-- the unit of a walk has the walk's number
pub unit_at : (f : List ℕ) (p : Program) (w : Walked) → program_of f ≡ Ok p → Contains p.walks w → slice_get (map (λ w. w.unit) p.walks) w.number ≡ Some w.unit
unit_at f p w program c =
    let parts = program_parts f p program in
    let h = numbered p.sections 0 parts.0 p.walks w parts.3 c in
    let place : w.number ≡ h.place = omega (arith, h.number) in
    ap (slice_get (map (λ (x : Walked). x.unit) p.walks)) place ∙ slice_get-map (λ (x : Walked). x.unit) p.walks h.place ∙ ap (option_map (λ (x : Walked). x.unit)) h.at

-- an entry of a unit of `.debug_info` lies behind the unit's first byte, and less than the file's length behind it
pub offset_short : (f : List ℕ) (p : Program) (w : Walked) (d : Item) (u : UnitHeader) → program_of f ≡ Ok p → Contains p.walks w → Contains (items_of w) d → slice_get (map (λ w. w.unit) p.walks) w.number ≡ Some u → is_types u.part ≡ false → (u.start ≤ d.at) × (d.at - u.start < length f)
offset_short f p w d u program c dc at info =
    let parts = program_parts f p program in
    let h = numbered p.sections 0 parts.0 p.walks w parts.3 c in
    let same : w.unit ≡ u = same_Some w.unit u (sym (unit_at f p w program c) ∙ at) in
    let inside = (walks_in_order p.sections h.walk.0 w h.walk.1).inside d dc in
    let begins = inside.begins in
    let some = inside.some in
    let ends = inside.ends in
    let length_is : w.unit.length ≤ length (section_bytes p.sections (codes ".debug_info")) = unit_short p.sections parts.0 w.unit parts.2 h.unit (ap (λ (x : UnitHeader). is_types x.part) same ∙ info) in
    let bytes = bytes_short f p.sections (codes ".debug_info") parts.1 in
    let low : d.at - w.unit.start < length f = omega (arith, begins, some, ends, length_is, bytes) in
    subst (λ (x : UnitHeader). (x.start ≤ d.at) × (d.at - x.start < length f)) same (omega (arith, begins), low)
