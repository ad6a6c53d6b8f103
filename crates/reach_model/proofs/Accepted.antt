-- What is known of a file that has sections, and what has to be known of one.
use Rattle.std.proofs.Common.{◌≡◌, ℕ, ◌+◌, ◌*◌, ◌-◌, ◌<◌, ◌≤◌, Bool, true, false, ◌&&◌, ◌||◌, eqb, leb, ltb, List, length, codes, Result, Ok, refl, ap, subst, ◌∙◌}
use Rattle.std.proofs.lemmas.Bool.{and_from, and_parts, eq-eqb, eqb-true, le-leb, leb-true, lt-ltb, ltb-true}
use Rattle.ix_base.specs.declared.fault.Fault.{Fault}
use Rattle.ix_base.specs.declared.code.TheConstants.{ELF_KIND, NOT_ELF, NO_DEBUG_INFO, SECTION_TABLE}
use Rattle.index_model.specs.Meaning.{◌>>=◌, ◌>>◌, fault, holds_or}
use Rattle.index_model.specs.Sections.{Section, begins_with, field, headers_from, ident, magic, names_fit, names_index, none_compressed, section_bytes, section_count, sections_from, sections_of, table_at, table_fits}
use Rattle.index_model.proofs.Meanings.{bind_ok, holds_ok, same_ok, then_ok, first_ok}
use Rattle.reach_model.proofs.Read.{ArePlain, are_plain, plain_are}

pub record Accepted (f : List ℕ) (ss : List Section) : Type 0 where
  pub long : 64 ≤ length f
  pub magic : begins_with magic f ≡ true
  pub wide : field 1 4 f ≡ 2
  pub low_first : field 1 5 f ≡ 1
  pub kind : (eqb (field 2 16 f) 2 || eqb (field 2 16 f) 3) ≡ true
  pub header_size : field 2 58 f ≡ 64
  pub table : table_at f + 64 * section_count f ≤ length f
  pub names_index : names_index f < section_count f
  pub names_fit : names_fit f ≡ true
  pub sections : sections_from f 1 (headers_from f 1 (section_count f - 1)) ≡ Ok ss
  pub plain : ArePlain ss
  pub info : 0 < length (section_bytes ss (codes ".debug_info"))

-- ---- tests one after the other

last_ok : {E : Type 0} (b : Bool) (e : E) (u : record {}) → holds_or b e ≡ Ok u → b ≡ true
last_ok true e u is = refl
last_ok false e u is = absurd cc

abbrev four : Bool → Bool → Bool → Bool → Fault → Fault → Fault → Fault → Result (record {}) Fault
four a b c d e e1 e2 e3 = holds_or a e >> (holds_or b e1 >> (holds_or c e2 >> holds_or d e3))

four_are : (a b c d : Bool) (e e1 e2 e3 : Fault) (u : record {}) → four a b c d e e1 e2 e3 ≡ Ok u → (a ≡ true) × (b ≡ true) × (c ≡ true) × (d ≡ true)
four_are a b c d e e1 e2 e3 u is =
    let x = holds_ok a e (holds_or b e1 >> (holds_or c e2 >> holds_or d e3)) u is in
    let y = holds_ok b e1 (holds_or c e2 >> holds_or d e3) u x.1 in
    let z = holds_ok c e2 (holds_or d e3) u y.1 in
    (x.0, y.0, z.0, last_ok d e3 u z.1)

four_hold : (a b c d : Bool) (e e1 e2 e3 : Fault) → a ≡ true → b ≡ true → c ≡ true → d ≡ true → four a b c d e e1 e2 e3 ≡ Ok (record {})
four_hold a b c d e e1 e2 e3 p q r s = rw (p, q, r, s) refl

module _ (f : List ℕ) where
  ident_is : (u : record {}) → ident f ≡ Ok u → ((leb 64 (length f) && begins_with magic f) ≡ true) × (eqb (field 1 4 f) 2 ≡ true) × (eqb (field 1 5 f) 1 ≡ true) × ((eqb (field 2 16 f) 2 || eqb (field 2 16 f) 3) ≡ true)
  unfolding ident
  ident_is u is = four_are _ _ _ _ (fault NOT_ELF 0) (fault ELF_KIND 4) (fault ELF_KIND 5) (fault ELF_KIND 16) u is

  is_ident : (leb 64 (length f) && begins_with magic f) ≡ true → eqb (field 1 4 f) 2 ≡ true → eqb (field 1 5 f) 1 ≡ true → (eqb (field 2 16 f) 2 || eqb (field 2 16 f) 3) ≡ true → ident f ≡ Ok (record {})
  unfolding ident
  is_ident a b c d = four_hold _ _ _ _ (fault NOT_ELF 0) (fault ELF_KIND 4) (fault ELF_KIND 5) (fault ELF_KIND 16) a b c d

  table_is : (u : record {}) → table_fits f ≡ Ok u → (eqb (field 2 58 f) 64 ≡ true) × (leb (table_at f + 64 * section_count f) (length f) ≡ true) × (ltb (names_index f) (section_count f) ≡ true) × (names_fit f ≡ true)
  unfolding table_fits
  table_is u is = four_are _ _ _ _ (fault SECTION_TABLE 0) (fault SECTION_TABLE 0) (fault SECTION_TABLE 0) (fault SECTION_TABLE 0) u is

  is_table : eqb (field 2 58 f) 64 ≡ true → leb (table_at f + 64 * section_count f) (length f) ≡ true → ltb (names_index f) (section_count f) ≡ true → names_fit f ≡ true → table_fits f ≡ Ok (record {})
  unfolding table_fits
  is_table a b c d = four_hold _ _ _ _ (fault SECTION_TABLE 0) (fault SECTION_TABLE 0) (fault SECTION_TABLE 0) (fault SECTION_TABLE 0) a b c d

  abbrev has_info : List Section → Bool
  has_info ss = ltb 0 (length (section_bytes ss (codes ".debug_info")))

  abbrev last : List Section → Result (List Section) Fault
  last ss = none_compressed 1 ss >> (holds_or (has_info ss) (fault NO_DEBUG_INFO 0) >> Ok ss)

  abbrev read : Result (List Section) Fault
  read = sections_from f 1 (headers_from f 1 (section_count f - 1))

  pub accepted : (ss : List Section) → sections_of f ≡ Ok ss → Accepted f ss
  unfolding sections_of
  accepted ss is =
      let i = first_ok (ident f) (table_fits f >> (read >>= last)) ss is in
      let a = then_ok (ident f) (table_fits f >> (read >>= last)) ss is in
      let t = first_ok (table_fits f) (read >>= last) ss a in
      let b = then_ok (table_fits f) (read >>= last) ss a in
      let c = bind_ok read last ss b in
      let p = first_ok (none_compressed 1 c.0) (holds_or (has_info c.0) (fault NO_DEBUG_INFO 0) >> Ok c.0) ss c.2 in
      let d = then_ok (none_compressed 1 c.0) (holds_or (has_info c.0) (fault NO_DEBUG_INFO 0) >> Ok c.0) ss c.2 in
      let e = holds_ok (has_info c.0) (fault NO_DEBUG_INFO 0) (Ok c.0) ss d in
      let same : c.0 ≡ ss = same_ok c.0 ss e.1 in
      let first = ident_is i.0 i.1 in
      let front = and_parts (leb 64 (length f)) (begins_with magic f) first.0 in
      let second = table_is t.0 t.1 in
      record {
        long = leb-true 64 (length f) front.0;
        magic = front.1;
        wide = eqb-true (field 1 4 f) 2 first.1;
        low_first = eqb-true (field 1 5 f) 1 first.2;
        kind = first.3;
        header_size = eqb-true (field 2 58 f) 64 second.0;
        table = leb-true (table_at f + 64 * section_count f) (length f) second.1;
        names_index = ltb-true (names_index f) (section_count f) second.2;
        names_fit = second.3;
        sections = c.1 ∙ ap (λ (xs : List Section). all_of xs) same;
        plain = subst ArePlain same (plain_are 1 c.0 p.0 p.1);
        info = subst (λ (xs : List Section). 0 < length (section_bytes xs (codes ".debug_info"))) same (ltb-true 0 (length (section_bytes c.0 (codes ".debug_info"))) e.0);
      }
    where
      all_of : List Section → Result (List Section) Fault
      all_of xs = Ok xs

  pub is_accepted : (ss : List Section) → Accepted f ss → sections_of f ≡ Ok ss
  unfolding sections_of
  is_accepted ss a =
      let front : (leb 64 (length f) && begins_with magic f) ≡ true = and_from (leb 64 (length f)) (begins_with magic f) (le-leb 64 (length f) a.long) a.magic in
      let first : ident f ≡ Ok (record {}) = is_ident front (eq-eqb (field 1 4 f) 2 a.wide) (eq-eqb (field 1 5 f) 1 a.low_first) a.kind in
      let second : table_fits f ≡ Ok (record {}) = is_table (eq-eqb (field 2 58 f) 64 a.header_size) (le-leb _ _ a.table) (lt-ltb _ _ a.names_index) a.names_fit in
      let third = a.sections in
      let fourth = are_plain 1 ss a.plain in
      let fifth : has_info ss ≡ true = lt-ltb _ _ a.info in
      rw (first, second, third, fourth, fifth) refl
