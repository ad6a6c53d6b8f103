-- The names that references give have no zero.
use Rattle.std.proofs.Common.{◌≡◌, ℕ, zero, suc, ◌+◌, Bool, true, false, ◌&&◌, cond, List, [], ◌∷◌, length, drop, find, Option, Some, None, Result, Ok, Err, refl, ◌∙◌, subst, ⊎_elim}
use mathlib.Core.Logic.{◌⊎◌}
use Rattle.std.specs.Prelude.{Contains, filter, filter_map, flat_map, codes, option_map, option_and_then, nat_le, nat_lt, ⊤, ◌==◌}
use Rattle.std.specs.List.{cons_option}
use Rattle.std.proofs.lemmas.Option.{option_and_then_some, same_Some}
use Rattle.common_laws.proofs.Members.{contains_here, contains_later, of_map, of_filter, of_flat_map, last_member}
use Rattle.ix_base.specs.declared.code.TheConstants.{BAD_STRING, NAME_TOO_LONG, BAD_REFERENCE, REFERENCE_CHAIN}
use Rattle.ix_base.specs.declared.limits.TheConstants.{MAX_STRING, MAX_CHAIN_HOPS}
use Rattle.ix_base.specs.Reading.{before_zero}
use Rattle.index_model.specs.Meaning.{◌>>=◌, some_or, value_of, if_some, some_else}
use Rattle.index_model.specs.Sections.{Section, section_bytes}
use Rattle.index_model.specs.Forms.{Value, Str, LineStr, StrIndex, Inline}
use Rattle.index_model.specs.Attributes.{Reference, attribute, as_text, name_value, signature_of, next_reference}
use Rattle.index_model.specs.Walk.{Item, parent_of}
use Rattle.index_model.specs.Program.{Walked, Program, Located, items_of, located, item_with_offset}
use Rattle.index_model.specs.Strings.{unless_empty, bounded, string_at, str, str_offset, text_of, text_in, base_of, some_text, own_name}
use Rattle.index_model.specs.References.{target_of, entry_named}
use Rattle.index_model.specs.Chains.{first, next_of, hop, hops_from, chain_of, chain_end, is_type_unit, name_signed, name_by_signature, spelled_name, name_with, name_of}
use Rattle.index_model.specs.Tags.{namespace}
use Rattle.index_model.specs.Names.{Member, scope_of, step, step_to, path_from}
use Rattle.index_model.proofs.Meanings.{bind_ok, holds_ok, some_ok, same_ok}
use Rattle.index_alike.proofs.GdbPositions.{HasNoZero}
use Rattle.index_alike.proofs.GdbTexts.{IsClean, AreMembers, before_clean}
use Rattle.index_alike.proofs.GdbItems.{IsCleanValue, AreCleanValues}

-- ---- texts of values

abbrev IsCleanOption : Option Value → Type 0
IsCleanOption None = ⊤
IsCleanOption (Some v) = IsCleanValue v

found_clean : (p : ℕ × Value → Bool) (vs : List (ℕ × Value)) → AreCleanValues vs → IsCleanOption (option_map (λ v. v.1) (find p vs))
found_clean p [] all = tt
found_clean p (v ∷ vs) all = elim (p v) as (λ b. IsCleanOption (option_map (λ v. v.1) (cond b (Some v) (find p vs)))) [
  | true ↦ all.0
  | false ↦ found_clean p vs all.1
]

as_text_clean : (v : Value) → IsCleanValue v → IsCleanOption (as_text v)
as_text_clean (Inline s) c = c
as_text_clean other c = tt

text_value_clean : (o : Option Value) → IsCleanOption o → IsCleanOption (option_and_then as_text o)
text_value_clean None c = tt
text_value_clean (Some v) c = as_text_clean v c

unless_clean : (s : List ℕ) → HasNoZero s → IsClean (unless_empty s)
unless_clean [] h = tt
unless_clean (b ∷ bs) h = h

bounded_clean : (s : List ℕ) (o : Option (List ℕ)) → HasNoZero s → bounded s ≡ Ok o → IsClean o
unfolding bounded
bounded_clean s o h is =
    let b = holds_ok (nat_le (length s) MAX_STRING) NAME_TOO_LONG (Ok (unless_empty s)) o is in
    subst IsClean (same_ok (unless_empty s) o b.1) (unless_clean s h)

string_clean : (bytes : List ℕ) (place : ℕ) (o : Option (List ℕ)) → string_at bytes place ≡ Ok o → IsClean o
unfolding string_at
string_clean bytes place o is =
    let b = some_ok (before_zero (drop place bytes)) BAD_STRING bounded o is in
    bounded_clean b.0 o (before_clean (drop place bytes) b.0 b.1) b.2

none_clean : (o : Option (List ℕ)) → ◌≡◌ {A = Result (Option (List ℕ)) ℕ} (Ok None) (Ok o) → IsClean o
none_clean o is = subst IsClean (same_ok {E = ℕ} None o is) tt

module _ (ss : List Section) where
  text_clean : (base : Option ℕ) (wide : Bool) (v : Value) (o : Option (List ℕ)) → IsCleanValue v → text_of ss base wide v ≡ Ok o → IsClean o
  unfolding text_of
  text_clean base wide (Inline s) o c is = bounded_clean s o c is
  text_clean base wide (Str place) o c is = string_clean (str ss) place o is
  text_clean base wide (LineStr place) o c is = string_clean (section_bytes ss (codes ".debug_line_str")) place o is
  text_clean base wide (StrIndex n) o c is = let b = bind_ok (str_offset ss base wide n) (string_at (str ss)) o is in string_clean (str ss) b.0 o b.2
  text_clean base wide other o c is = none_clean o is

  in_clean : (w : Walked) (v : Option Value) (o : Option (List ℕ)) → IsCleanOption v → text_in ss w v ≡ Ok o → IsClean o
  in_clean w None o c is = none_clean o is
  in_clean w (Some v) o c is = text_clean (base_of 0x72 w) w.unit.wide v o c is

  value_clean : (r : Result (Option (List ℕ)) ℕ) → ((o : Option (List ℕ)) → r ≡ Ok o → IsClean o) → IsClean (some_text (value_of r))
  value_clean (Ok None) each = tt
  value_clean (Ok (Some t)) each = each (Some t) refl
  value_clean (Err code) each = tt

  own_name_clean : (d : Located) → AreCleanValues d.item.values → IsClean (own_name ss d)
  unfolding own_name
  own_name_clean d all = value_clean (text_in ss d.home (name_value d.item)) (λ o is. in_clean d.home (name_value d.item) o (text_value_clean (attribute 0x03 d.item) (found_clean (λ v. v.0 == 0x03) d.item.values all)) is)

-- ---- entries of the program

pub record IsOf (p : Program) (d : Located) : Type 0 where
  pub home : Contains p.walks d.home
  pub item : Contains (items_of d.home) d.item

abbrev pub AreOf : Program → List Located → Type 0
AreOf p [] = Unit {0}
AreOf p (d ∷ ds) = IsOf p d × AreOf p ds

-- a test that passes passes for a member
pub find_member : {A : Type 0} (p : A → Bool) (xs : List A) (x : A) → find p xs ≡ Some x → Contains xs x
find_member p [] x e = absurd cc
find_member {A = A} p (y ∷ ys) x e = elim (p y) as (λ b. cond b (Some y) (find p ys) ≡ Some x → Contains (y ∷ ys) x) [
  | true ↦ λ here. subst (Contains (y ∷ ys)) (same_Some y x here) (contains_here y ys)
  | false ↦ λ more. contains_later y ys x (find_member p ys x more)
] e

-- an item of a walk of the program
module _ (p : Program) where
  pub of_walk : (w : Walked) (d : Located) → Contains p.walks w → Contains (located w) d → IsOf p d
  of_walk w d home c =
      let m = of_map (λ (e : Item). record { home = w; item = e }) (items_of w) d c in
      subst (IsOf p) m.2 (record { home = home; item = m.1 })

  offset_is_of : (o : ℕ) (d : Located) → item_with_offset p o ≡ Some d → IsOf p d
  unfolding item_with_offset
  offset_is_of o d e =
      let m = of_flat_map located p.walks d (find_member (λ d. d.item.at == o) (flat_map located p.walks) d e) in
      of_walk m.0 d m.1 m.2

  named_is_of : (w : Walked) (r : Reference) (d : Located) → entry_named p w r ≡ Ok d → IsOf p d
  unfolding entry_named
  named_is_of w r d e =
      let s = some_ok (option_and_then (item_with_offset p) (target_of p.sections w r)) BAD_REFERENCE (λ x. Ok x) d (bound (some_or (option_and_then (item_with_offset p) (target_of p.sections w r)) BAD_REFERENCE) e) in
      option_and_then_some (item_with_offset p) (target_of p.sections w r) s.0 s.1 (λ o _ there. subst (IsOf p) (same_ok {E = ℕ} s.0 d s.2) (offset_is_of o s.0 there))
    where
      bound : (x : Result Located ℕ) → x ≡ Ok d → (x >>= λ y. Ok y) ≡ Ok d
      bound (Ok y) e = e
      bound (Err code) e = absurd cc

  scope_is_of : (e m : Located) → IsOf p e → scope_of e ≡ Some m → IsOf p m
  scope_is_of e m is s = by (parent_of (items_of e.home) e.item) refl s
    where
      by : (o : Option Item) → parent_of (items_of e.home) e.item ≡ o → option_map (λ (d : Item). record { home = e.home; item = d }) o ≡ Some m → IsOf p m
      by None f g = absurd cc
      by (Some d) f g =
          let above : Item → Bool = λ x. nat_lt x.at e.item.at && x.depth + 1 == e.item.depth in
          let member = last_member None (filter above (items_of e.home)) d f in
          subst (IsOf p) (same_Some (record { home = e.home; item = d }) m g) (record { home = is.home; item = ⊎_elim (λ (none : None ≡ Some d). absurd (nothing d none)) (λ (c : Contains (filter above (items_of e.home)) d). (of_filter above (items_of e.home) d c).0) member })
        where
          nothing : (x : Item) → None ≡ Some x → ⊥
          nothing x is = cc

  -- ---- chains

  next_is_of : (d : Located) (o : Option Located) → next_of p d ≡ Ok o → (e : Located) → o ≡ Some e → IsOf p e
  unfolding next_of
  next_is_of d o is e there = by (next_reference d.item) is
    where
      by : (r : Option Reference) → if_some r (λ r. entry_named p d.home r >>= λ target. Ok (Some target)) ≡ Ok o → IsOf p e
      by None is = absurd (nothing (same_ok {E = ℕ} None o is ∙ there))
        where
          nothing : None ≡ Some e → ⊥
          nothing is = cc
      by (Some r) is =
          let b = bind_ok (entry_named p d.home r) (λ target. Ok (Some target)) o is in
          subst (IsOf p) (same_Some b.0 e (same_ok {E = ℕ} (Some b.0) o b.2 ∙ there)) (named_is_of d.home r b.0 b.1)

  hop_is_of : (o : Option Located) (others : Located → Result (List Located) ℕ) (ds : List Located) → ((e : Located) → o ≡ Some e → others e ≡ Ok ds → AreOf p ds) → hop o others ≡ Ok ds → AreOf p ds
  hop_is_of None others ds each is = subst (AreOf p) (same_ok {E = ℕ} [] ds is) tt
  hop_is_of (Some e) others ds each is = each e refl is

  hops_are_of : (n : ℕ) (d : Located) (ds : List Located) → hops_from n p d ≡ Ok ds → AreOf p ds
  unfolding hops_from
  hops_are_of zero d ds is =
      let b = bind_ok (next_of p d) (λ next. hop next (λ _. Err REFERENCE_CHAIN)) ds is in
      hop_is_of b.0 (λ _. Err REFERENCE_CHAIN) ds (λ e there wrong. absurd (fault_ok wrong)) b.2
    where
      fault_ok : ◌≡◌ {A = Result (List Located) ℕ} (Err REFERENCE_CHAIN) (Ok ds) → ⊥
      fault_ok wrong = cc
  hops_are_of (suc n) d ds is =
      let b = bind_ok (next_of p d) (λ next. hop next (λ e. hops_from n p e >>= λ others. Ok (e ∷ others))) ds is in
      hop_is_of b.0 (λ e. hops_from n p e >>= λ others. Ok (e ∷ others)) ds (λ e there more.
      let c = bind_ok (hops_from n p e) (λ others. Ok (e ∷ others)) ds more in
      subst (AreOf p) (same_ok {E = ℕ} (e ∷ c.0) ds c.2) (next_is_of d b.0 b.1 e there, hops_are_of n e c.0 c.1)) b.2

  pub chain_is_of : (d : Located) (ds : List Located) → IsOf p d → chain_of p d ≡ Ok ds → AreOf p ds
  unfolding chain_of
  chain_is_of d ds own is =
      let b = bind_ok (hops_from MAX_CHAIN_HOPS p d) (λ others. Ok (d ∷ others)) ds is in
      subst (AreOf p) (same_ok {E = ℕ} (d ∷ b.0) ds b.2) (own, hops_are_of MAX_CHAIN_HOPS d b.0 b.1)

  pub end_is_of : (d : Located) (ds : List Located) → IsOf p d → AreOf p ds → IsOf p (chain_end d ds)
  end_is_of d [] own all = own
  end_is_of d (e ∷ es) own all = end_is_of e es all.0 all.1

  -- ---- names

  module _ (clean : (d : Located) → IsOf p d → AreCleanValues d.item.values) where
    first_clean : (ds : List Located) → AreOf p ds → IsClean (first (filter_map (own_name p.sections) ds))
    first_clean [] all = tt
    first_clean (d ∷ ds) all = put (own_name p.sections d) (own_name_clean p.sections d (clean d all.0)) (first_clean ds all.1)
      where
        put : (o : Option (List ℕ)) → IsClean o → IsClean (first (filter_map (own_name p.sections) ds)) → IsClean (first (cons_option o (filter_map (own_name p.sections) ds)))
        put None h rest = rest
        put (Some name) h rest = h

    signed_clean : (s : ℕ) (o : Option (List ℕ)) → name_signed p s ≡ Ok o → IsClean o
    unfolding name_signed
    signed_clean s o is = by (find (λ w. is_type_unit w.unit.sort && w.unit.signature == s) p.walks) is
      where
        by : (found : Option Walked) → if_some found (λ w. entry_named p w (record { target = w.unit.type_offset; near = true }) >>= λ d. Ok (own_name p.sections d)) ≡ Ok o → IsClean o
        by None is = none_clean o is
        by (Some w) is =
            let b = bind_ok (entry_named p w (record { target = w.unit.type_offset; near = true })) (λ d. Ok (own_name p.sections d)) o is in
            subst IsClean (same_ok {E = ℕ} (own_name p.sections b.0) o b.2) (own_name_clean p.sections b.0 (clean b.0 (named_is_of w (record { target = w.unit.type_offset; near = true }) b.0 b.1)))

    by_signature_clean : (d : Located) (o : Option (List ℕ)) → name_by_signature p d ≡ Ok o → IsClean o
    unfolding name_by_signature
    by_signature_clean d o is = by (signature_of d.item) is
      where
        by : (s : Option ℕ) → if_some s (name_signed p) ≡ Ok o → IsClean o
        by None is = none_clean o is
        by (Some s) is = signed_clean s o is

    pub spelled_clean : (d : Located) (chain : List Located) (o : Option (List ℕ)) → AreOf p chain → spelled_name p d chain ≡ Ok o → IsClean o
    unfolding spelled_name
    spelled_clean d chain o all is = by (first (filter_map (own_name p.sections) chain)) (first_clean chain all) is
      where
        by : (f : Option (List ℕ)) → IsClean f → some_else f (name_by_signature p d) ≡ Ok o → IsClean o
        by None h is = by_signature_clean d o is
        by (Some name) h is = subst IsClean (same_ok {E = ℕ} (Some name) o is) h

    pub with_clean : (d : Located) (o : Option (List ℕ)) → IsClean o → IsClean (name_with d o)
    with_clean d (Some name) h = h
    with_clean d None h = elim (d.item.tag == namespace) as (λ b. IsClean (cond b (Some (codes "(anonymous namespace)")) None)) [
      | true ↦ refl
      | false ↦ tt
    ]

    name_clean : (d : Located) (chain : List Located) (o : Option (List ℕ)) → AreOf p chain → name_of p d chain ≡ Ok o → IsClean o
    unfolding name_of
    name_clean d chain o all is =
        let b = bind_ok (spelled_name p d chain) (λ spelled. Ok (name_with d spelled)) o is in
        subst IsClean (same_ok {E = ℕ} (name_with d b.0) o b.2) (with_clean d b.0 (spelled_clean d chain b.0 all b.1))

    -- ---- scope paths

    abbrev member : Located → Option (List ℕ) → Member
    member m name = record { entry = m; name = name }

    abbrev with_name : Located → List Located → (Located → Result (List Member) ℕ) → Option (List ℕ) → Result (List Member) ℕ
    with_name m chain onwards name = onwards (chain_end m chain) >>= λ others. Ok (member m name ∷ others)

    abbrev with_chain : Located → (Located → Result (List Member) ℕ) → List Located → Result (List Member) ℕ
    with_chain m onwards chain = name_of p m chain >>= with_name m chain onwards

    to_clean : (m : Located) (onwards : Located → Result (List Member) ℕ) (ms : List Member) → IsOf p m → ((e : Located) (ns : List Member) → IsOf p e → onwards e ≡ Ok ns → AreMembers ns) → step_to p m onwards ≡ Ok ms → AreMembers ms
    unfolding step_to
    to_clean m onwards ms own each is = by (m.item.depth == 0) is
      where
        by : (b : Bool) → cond b (Ok (member m None ∷ [])) (chain_of p m >>= with_chain m onwards) ≡ Ok ms → AreMembers ms
        by true is = subst AreMembers (same_ok {E = ℕ} (member m None ∷ []) ms is) (tt, tt)
        by false is =
            let a = bind_ok (chain_of p m) (with_chain m onwards) ms is in
            let chain = chain_is_of m a.0 own a.1 in
            let b = bind_ok (name_of p m a.0) (with_name m a.0 onwards) ms a.2 in
            let c = bind_ok (onwards (chain_end m a.0)) (λ others. Ok (member m b.0 ∷ others)) ms b.2 in
            subst AreMembers (same_ok {E = ℕ} (member m b.0 ∷ c.0) ms c.2) (name_clean m a.0 b.0 chain b.1, each (chain_end m a.0) c.0 (end_is_of m a.0 own chain) c.1)

    step_clean : (o : Option Located) (onwards : Located → Result (List Member) ℕ) (ms : List Member) → ((m : Located) → o ≡ Some m → onwards m ≡ Ok ms → AreMembers ms) → step o onwards ≡ Ok ms → AreMembers ms
    step_clean None onwards ms each is = subst AreMembers (same_ok {E = ℕ} [] ms is) tt
    step_clean (Some m) onwards ms each is = each m refl is

    pub path_clean : (n : ℕ) (e : Located) (ms : List Member) → IsOf p e → path_from n p e ≡ Ok ms → AreMembers ms
    unfolding path_from
    path_clean zero e ms own is = step_clean (scope_of e) (λ m. Err REFERENCE_CHAIN) ms (λ m there wrong. absurd (fault_ok wrong)) is
      where
        fault_ok : ◌≡◌ {A = Result (List Member) ℕ} (Err REFERENCE_CHAIN) (Ok ms) → ⊥
        fault_ok wrong = cc
    path_clean (suc n) e ms own is = step_clean (scope_of e) (λ m. step_to p m (λ end. path_from n p end)) ms (λ m there more. to_clean m (λ end. path_from n p end) ms (scope_is_of e m own there) (λ f ns is more. path_clean n f ns is more) more) is
