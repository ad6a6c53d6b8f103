-- The units of a file follow one another, those of `.debug_info` first.
use Rattle.std.proofs.Common.{◌≡◌, ℕ, ◌+◌, ◌≤◌, ◌^◌, Bool, true, false, List, [], ◌∷◌, ◌++◌, length, get_or, Ok, sym, ap, subst, ◌∙◌, arith, length-drop, ⊎_elim}
use Rattle.std.specs.Prelude.{All, Contains, codes, sum_by}
use Rattle.std.proofs.lemmas.List.Elements.{Contains-get_or}
use Rattle.std.proofs.lemmas.List.Sums.{sum_by-append, sum_by-cons}
use Rattle.common_laws.proofs.Members.{contains_here, contains_later, contains_cases}
use Rattle.ix_base.specs.Reading.{Input, input}
use Rattle.ix_base.specs.declared.limits.TheConstants.{MAX_UNITS}
use Rattle.index_model.specs.declared.unit.Part.{Part}
use Rattle.index_model.specs.declared.unit.Part.TheVariants.{Info, Types}
use Rattle.index_model.specs.declared.unit.Unit.{Unit as UnitHeader}
use Rattle.index_model.specs.Sections.{Section, section_bytes}
use Rattle.index_model.specs.Tiling.{Tiles}
use Rattle.index_model.specs.Units.{is_types, next_unit, units_of}
use Rattle.index_model.proofs.Pairs.{Pairs, all_pairs, pairs_append}
use Rattle.index_model.proofs.UnitReads.{unit_takes}
use Rattle.index_model.proofs.UnitTilingLaws.{units_tile}
use Rattle.gdbindex_write.specs.Writable.{FollowFrom, InfoFirst, AreUnits}
use Rattle.debugnames_write.specs.Conditions as names

-- what holds of each member holds of all
pub all_of : {A : Type 0} (P : A → Type 0) (xs : List A) → ((x : A) → Contains xs x → P x) → All P xs
all_of P xs f i d lt = f (get_or xs i d) (Contains-get_or xs i d lt)

-- ---- one section

abbrev size : List UnitHeader → ℕ
size us = sum_by (λ (u : UnitHeader). u.length) us

size_cons : (u : UnitHeader) (us : List UnitHeader) → size (u ∷ us) ≡ u.length + size us
size_cons u us = sum_by-cons (λ (v : UnitHeader). v.length) u us

module _ (section : Part) (base : ℕ) where
  follow : (k : ℕ) (i : Input) (us : List UnitHeader) → Tiles (next_unit section base) k i us → FollowFrom (base + i.at) us
  follow k i [] t = tt
  follow k i (u ∷ us) t =
      let h = unit_takes section base k i (u, t.1) t.2 in
      let at : base + t.1.at ≡ base + i.at + u.length = omega (arith, ap (λ (x : Input). x.at) h.passes.on) in
      (h.start, subst (λ (n : ℕ). FollowFrom n us) at (follow (k + 1) t.1 us t.3))

  sizes : (k : ℕ) (i : Input) (us : List UnitHeader) → Tiles (next_unit section base) k i us → size us ≡ length i.rest
  sizes k i [] t = sym (ap length t)
  sizes k i (u ∷ us) t =
      let h = unit_takes section base k i (u, t.1) t.2 in
      omega (arith, size_cons u us, sizes (k + 1) t.1 us t.3, h.passes.there, length-drop u.length i.rest, ap (λ (x : Input). length x.rest) h.passes.on)

  parts : (k : ℕ) (i : Input) (us : List UnitHeader) → Tiles (next_unit section base) k i us → (u : UnitHeader) → Contains us u → u.part ≡ section
  parts k i [] t u c = absurd (omega (arith, c.1))
  parts k i (v ∷ us) t u c = ⊎_elim
      (λ (same : v ≡ u). ap (λ (x : UnitHeader). x.part) (sym same) ∙ (unit_takes section base k i (v, t.1) t.2).part)
      (λ (later : Contains us u). parts (k + 1) t.1 us t.3 u later)
      (contains_cases v us u c)

-- ---- both sections

follow_both : (at : ℕ) (us vs : List UnitHeader) → FollowFrom at us → FollowFrom (at + size us) vs → FollowFrom at (us ++ vs)
follow_both at [] vs f g = subst (λ (n : ℕ). FollowFrom n vs) (omega arith) g
follow_both at (u ∷ us) vs f g = (f.0, follow_both (at + u.length) us vs f.1 (subst (λ (n : ℕ). FollowFrom n vs) (omega (arith, size_cons u us)) g))

-- the second unit is one of `.debug_types` where the first is
abbrev Stays : UnitHeader → UnitHeader → Type 0
Stays u v = is_types u.part ≡ true → is_types v.part ≡ true

of_one : (b : Bool) (us : List UnitHeader) → ((u : UnitHeader) → Contains us u → is_types u.part ≡ b) → Pairs Stays us
of_one b [] same = tt
of_one b (u ∷ us) same = (λ v c is. same v (later v c) ∙ sym (same u here) ∙ is, of_one b us (λ v c. same v (later v c)))
  where
    here : Contains (u ∷ us) u
    here = contains_here u us

    later : (v : UnitHeader) → Contains us v → Contains (u ∷ us) v
    later v c = contains_later u us v c

info_first : (us : List UnitHeader) → Pairs Stays us → InfoFirst us
info_first [] h = tt
info_first (u ∷ us) h = (λ is. all_of (λ (v : UnitHeader). is_types v.part ≡ true) us (λ v c. h.0 v c is), info_first us h.1)

same_follow : (at : ℕ) (us : List UnitHeader) → FollowFrom at us → names.FollowFrom at us
same_follow at [] f = tt
same_follow at (u ∷ us) f = (f.0, same_follow (at + u.length) us f.1)

module _ (ss : List Section) (us : List UnitHeader) (is : units_of ss ≡ Ok us) where
  abbrev info : List ℕ
  info = section_bytes ss (codes ".debug_info")

  abbrev types : List ℕ
  types = section_bytes ss (codes ".debug_types")

  pub record Follows : Type 0 where
    pub follow : FollowFrom 0 us
    pub stay : Pairs Stays us
    pub size_is : size us ≡ length info + length types

  pub units_follow : Follows
  units_follow =
      let t = (units_tile ss us).0 is in
      let a = sizes Info 0 0 (input info 0) t.infos t.in_info in
      let b = sizes Types (length info) (length t.infos) (input types 0) t.others t.in_types in
      let in_info : FollowFrom 0 t.infos = follow Info 0 0 (input info 0) t.infos t.in_info in
      let in_types : FollowFrom (length info + 0) t.others = follow Types (length info) (length t.infos) (input types 0) t.others t.in_types in
      let from : length info + 0 ≡ 0 + size t.infos = omega (arith, a) in
      let no_types : (u : UnitHeader) → Contains t.infos u → is_types u.part ≡ false = λ u c. ap is_types (parts Info 0 0 (input info 0) t.infos t.in_info u c) in
      let all_types : (u : UnitHeader) → Contains t.others u → is_types u.part ≡ true = λ u c. ap is_types (parts Types (length info) (length t.infos) (input types 0) t.others t.in_types u c) in
      record {
        follow = subst (FollowFrom 0) (sym t.all) (follow_both 0 t.infos t.others in_info (subst (λ (n : ℕ). FollowFrom n t.others) from in_types));
        stay = subst (Pairs Stays) (sym t.all) (pairs_append Stays t.infos t.others (of_one false t.infos no_types) (of_one true t.others all_types) (λ u v uc vc on. all_types v vc));
        size_is = ap size t.all ∙ sum_by-append (λ (u : UnitHeader). u.length) t.infos t.others ∙ omega (arith, a, b);
      }

  module _ (few : length us ≤ MAX_UNITS) (small_info : length info ≤ 2 ^ 30) (small_types : length types ≤ 2 ^ 30) where
    -- as the writer of a `.gdb_index` asks for them
    pub gdb_units : AreUnits us
    gdb_units = record {
      follow = units_follow.follow;
      info_first = info_first us units_follow.stay;
      few = few;
      end = omega (arith, units_follow.size_is, small_info, small_types);
    }

    -- as the writer of a `.debug_names` asks for them
    pub name_units : names.AreUnits us
    name_units = record {
      follow = same_follow 0 us units_follow.follow;
      info_first = all_pairs Stays us units_follow.stay;
      few = few;
      short = omega (arith, units_follow.size_is, small_info, small_types);
    }
