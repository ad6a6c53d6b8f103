-- No name that a file spells has a zero.
use Rattle.std.proofs.Common.{◌≡◌, ℕ, zero, suc, Bool, true, eqb, List, [], ◌∷◌, length, drop, find, Option, Some, None, Result, Ok, Err, refl, ap, subst, ◌∙◌, arith, ⊎_elim, leb}
use Rattle.std.proofs.lemmas.Option.{same_Some}
use Rattle.std.specs.Prelude.{Contains, filter_map, flat_map, codes, option_and_then}
use Rattle.std.specs.Option.{option_or}
use mathlib.Core.Bool.{◌&&◌}
use Rattle.common_laws.proofs.Members.{contains_here, contains_later, contains_cases, of_map, of_flat_map, of_find}
use Rattle.common_laws.proofs.Options.{of_option_map}
use Rattle.ix_base.specs.declared.code.TheConstants.{BAD_STRING, NAME_TOO_LONG, BAD_REFERENCE, REFERENCE_CHAIN}
use Rattle.ix_base.specs.declared.limits.TheConstants.{MAX_STRING, MAX_CHAIN_HOPS}
use Rattle.ix_base.specs.Reading.{before_zero}
use Rattle.index_model.specs.Meaning.{◌>>=◌, holds_or, some_or, value_of, if_some, some_else}
use Rattle.index_model.specs.Sections.{Section, section_bytes}
use Rattle.index_model.specs.Forms.{Value, Addr, Unsigned, Str, LineStr, StrIndex, AddrIndex, Near, Far, Signature, Offset, RangeIndex, ListIndex, Signed, Flag, Wide, Inline, Block}
use Rattle.index_model.specs.Attributes.{Reference, attribute, as_text, read_as, name_value, linkage_value, next_reference, signature_of}
use Rattle.index_model.specs.Walk.{Item}
use Rattle.index_model.specs.Program.{Walked, Program, Located, items_of, located, item_with_offset}
use Rattle.index_model.specs.Strings.{unless_empty, bounded, string_at, str, str_offset, text_of, text_in, base_of, some_text, own_name, own_linkage_name}
use Rattle.index_model.specs.References.{target_of, entry_named}
use Rattle.index_model.specs.Chains.{first, next_of, hop, hops_from, chain_of, linkage_name_of, is_type_unit, name_signed, name_by_signature, spelled_name}
use Rattle.index_model.specs.Faults.{program_of}
use Rattle.index_model.proofs.Meanings.{bind_ok, then_ok, some_ok, same_ok}
use Rattle.index_model.proofs.UnitsApart.{program_apart}
use Rattle.index_model.proofs.Located.{at_home}
use Rattle.index_alike.proofs.NamesTexts.{HasNoZero}
use Rattle.index_alike.proofs.NamesClean.{before_zero_clean, CleanTexts, items_clean}

-- ---- texts of values

-- if the value is a text in its entry, it has no zero
abbrev CleanValue : Value → Type 0
CleanValue v = (text : List ℕ) → v ≡ Inline text → HasNoZero text

not_empty : (s text : List ℕ) → unless_empty s ≡ Some text → s ≡ text
not_empty [] text is = absurd cc
not_empty (b ∷ s) text is = same_Some (b ∷ s) text is

bounded_is : (s text : List ℕ) → bounded s ≡ Ok (Some text) → s ≡ text
unfolding bounded
bounded_is s text is = not_empty s text (same_ok (unless_empty s) (Some text) (then_ok (holds_or (leb (length s) MAX_STRING) NAME_TOO_LONG) (Ok (unless_empty s)) (Some text) is))

string_clean : (bytes : List ℕ) (place : ℕ) (text : List ℕ) → string_at bytes place ≡ Ok (Some text) → HasNoZero text
unfolding string_at
string_clean bytes place text is =
    let s = some_ok (before_zero (drop place bytes)) BAD_STRING bounded (Some text) is in
    subst HasNoZero (bounded_is s.0 text s.2) (before_zero_clean (drop place bytes) s.0 s.1)

module _ (ss : List Section) (base : Option ℕ) (wide : Bool) (text : List ℕ) where
  text_clean : (v : Value) → CleanValue v → text_of ss base wide v ≡ Ok (Some text) → HasNoZero text
  unfolding text_of
  text_clean (Inline s) own is = subst HasNoZero (bounded_is s text is) (own s refl)
  text_clean (Str o) own is = string_clean (str ss) o text is
  text_clean (LineStr o) own is = string_clean (section_bytes ss (codes ".debug_line_str")) o text is
  text_clean (StrIndex n) own is = let o = bind_ok (str_offset ss base wide n) (string_at (str ss)) (Some text) is in string_clean (str ss) o.0 text o.2
  text_clean (Addr n) own is = absurd cc
  text_clean (Unsigned n) own is = absurd cc
  text_clean (AddrIndex n) own is = absurd cc
  text_clean (Near n) own is = absurd cc
  text_clean (Far n) own is = absurd cc
  text_clean (Signature n) own is = absurd cc
  text_clean (Offset n) own is = absurd cc
  text_clean (RangeIndex n) own is = absurd cc
  text_clean (ListIndex n) own is = absurd cc
  text_clean (Signed z) own is = absurd cc
  text_clean (Flag b) own is = absurd cc
  text_clean Wide own is = absurd cc
  text_clean (Block s) own is = absurd cc

as_text_is : (v w : Value) → as_text v ≡ Some w → v ≡ w
as_text_is (Inline s) w is = same_Some (Inline s) w is
as_text_is (Str o) w is = same_Some (Str o) w is
as_text_is (LineStr o) w is = same_Some (LineStr o) w is
as_text_is (StrIndex n) w is = same_Some (StrIndex n) w is
as_text_is (Addr n) w is = absurd cc
as_text_is (Unsigned n) w is = absurd cc
as_text_is (AddrIndex n) w is = absurd cc
as_text_is (Near n) w is = absurd cc
as_text_is (Far n) w is = absurd cc
as_text_is (Signature n) w is = absurd cc
as_text_is (Offset n) w is = absurd cc
as_text_is (RangeIndex n) w is = absurd cc
as_text_is (ListIndex n) w is = absurd cc
as_text_is (Signed z) w is = absurd cc
as_text_is (Flag b) w is = absurd cc
as_text_is Wide w is = absurd cc
as_text_is (Block s) w is = absurd cc

-- ---- texts of entries

followed_by : {A B : Type 0} (f : A → Option B) (o : Option A) (y : B) → option_and_then f o ≡ Some y → (x : A) × (o ≡ Some x) × (f x ≡ Some y)
followed_by f (Some x) y is = (x, refl, is)
followed_by f None y is = absurd cc

read_clean : (d : Item) (n : ℕ) (w : Value) → CleanTexts d.values → read_as as_text n d ≡ Some w → CleanValue w
read_clean d n w all is text e =
    let a = followed_by as_text (attribute n d) w is in
    let f = of_option_map (λ (x : ℕ × Value). x.1) (find (λ x. eqb x.0 n) d.values) a.0 a.1 in
    let m = of_find (λ x. eqb x.0 n) d.values f.0 f.1 in
    let value : f.0.1 ≡ Inline text = f.2 ∙ as_text_is a.0 w a.2 ∙ e in
    let same : f.0 ≡ (f.0.0, Inline text) = ap (λ (y : Value). let x : ℕ × Value = (f.0.0, y) in x) value in
    all f.0.0 text (subst (Contains d.values) same m.0)

either : (d : Item) (a b : Option Value) (w : Value) → option_or a b ≡ Some w → ((v : Value) → a ≡ Some v → CleanValue v) → ((v : Value) → b ≡ Some v → CleanValue v) → CleanValue w
either d (Some v) b w is first second = subst CleanValue (same_Some v w is) (first v refl)
either d None b w is first second = second w is

text_given : (r : Result (Option (List ℕ)) ℕ) (text : List ℕ) → some_text (value_of r) ≡ Some text → r ≡ Ok (Some text)
text_given (Ok (Some t)) text is = ap {B = Result (Option (List ℕ)) ℕ} (λ (x : List ℕ). Ok (Some x)) (same_Some t text is)
text_given (Ok None) text is = absurd cc
text_given (Err e) text is = absurd cc

in_clean : (ss : List Section) (w : Walked) (o : Option Value) (text : List ℕ) → ((v : Value) → o ≡ Some v → CleanValue v) → text_in ss w o ≡ Ok (Some text) → HasNoZero text
in_clean ss w None text own is = absurd cc
in_clean ss w (Some v) text own is = text_clean ss (base_of 0x72 w) w.unit.wide text v (own v refl) is

pub name_clean : (ss : List Section) (d : Located) (text : List ℕ) → CleanTexts d.item.values → own_name ss d ≡ Some text → HasNoZero text
unfolding own_name
name_clean ss d text all is = in_clean ss d.home (name_value d.item) text (λ v e. read_clean d.item 0x03 v all e) (text_given (text_in ss d.home (name_value d.item)) text is)

pub linkage_clean : (ss : List Section) (d : Located) (text : List ℕ) → CleanTexts d.item.values → own_linkage_name ss d ≡ Some text → HasNoZero text
unfolding own_linkage_name
linkage_clean ss d text all is =
    in_clean ss d.home (linkage_value d.item) text (λ v e. either d.item (read_as as_text 0x6E d.item) (read_as as_text 0x2007 d.item) v e (λ w g. read_clean d.item 0x6E w all g) (λ w g. read_clean d.item 0x2007 w all g))
    (text_given (text_in ss d.home (linkage_value d.item)) text is)

-- ---- chains

-- the entry stands in a walk of the program
abbrev pub StandsIn : Program → Located → Type 0
StandsIn p d = Contains (flat_map located p.walks) d

module _ (f : List ℕ) (p : Program) (program : program_of f ≡ Ok p) where
  -- so its texts have no zero
  pub entry_clean : (d : Located) → StandsIn p d → CleanTexts d.item.values
  entry_clean d c =
      let m = of_flat_map located p.walks d c in
      let i = of_map (at_home m.0) (items_of m.0) d m.2 in
      let w = (program_apart f p program).walks m.0 m.1 in
      subst (λ (x : Located). CleanTexts x.item.values) i.2 (items_clean p.sections w.0 m.0 w.1 i.0 i.1)

  named_in : (w : Walked) (r : Reference) (d : Located) → entry_named p w r ≡ Ok d → StandsIn p d
  unfolding entry_named item_with_offset
  named_in w r d is =
      let o = given_by (option_and_then (item_with_offset p) (target_of p.sections w r)) d is in
      let t = followed_by (item_with_offset p) (target_of p.sections w r) d o in
      (of_find (λ (x : Located). eqb x.item.at t.0) (flat_map located p.walks) d t.2).0
    where
      given_by : (o : Option Located) (d : Located) → some_or o BAD_REFERENCE ≡ Ok d → o ≡ Some d
      given_by (Some x) d is = ap (λ (y : Located). Some y) (same_ok x d is)
      given_by None d is = absurd cc

  next_in : (d e : Located) → next_of p d ≡ Ok (Some e) → StandsIn p e
  unfolding next_of
  next_in d e is = by (next_reference d.item) is
    where
      by : (r : Option Reference) → if_some r (λ r. entry_named p d.home r >>= λ target. Ok (Some target)) ≡ Ok (Some e) → StandsIn p e
      by None is = absurd cc
      by (Some r) is =
          let t = bind_ok (entry_named p d.home r) (λ target. Ok (Some target)) (Some e) is in
          named_in d.home r e (t.1 ∙ ap {B = Result Located ℕ} (λ (x : Located). Ok x) (same_Some t.0 e (same_ok (Some t.0) (Some e) t.2)))

  AllIn : List Located → Type 0
  AllIn ds = (d : Located) → Contains ds d → StandsIn p d

  none_in : AllIn []
  unfolding AllIn
  none_in d c = absurd (omega (arith, c.1))

  more_in : (e : Located) (ds : List Located) → StandsIn p e → AllIn ds → AllIn (e ∷ ds)
  unfolding AllIn
  more_in e ds own rest d c = ⊎_elim (λ (same : e ≡ d). subst (StandsIn p) same own) (λ (l : Contains ds d). rest d l) (contains_cases e ds d c)

  hops_in : (n : ℕ) (d : Located) (ds : List Located) → hops_from n p d ≡ Ok ds → AllIn ds
  unfolding hops_from
  hops_in zero d ds is =
      let m = bind_ok (next_of p d) (λ next. hop next (λ _. Err REFERENCE_CHAIN)) ds is in
      by m.0 m.2
    where
      by : (o : Option Located) → hop o (λ _. Err REFERENCE_CHAIN) ≡ Ok ds → AllIn ds
      by None e = subst AllIn (same_ok [] ds e) none_in
      by (Some x) e = absurd cc
  hops_in (suc n) d ds is =
      let m = bind_ok (next_of p d) (λ next. hop next (λ e. hops_from n p e >>= λ others. Ok (e ∷ others))) ds is in
      by m.0 m.1 m.2 (λ e others h. hops_in n e others h)
    where
      by : (o : Option Located) → next_of p d ≡ Ok o → hop o (λ e. hops_from n p e >>= λ others. Ok (e ∷ others)) ≡ Ok ds → ((e : Located) (others : List Located) → hops_from n p e ≡ Ok others → AllIn others) → AllIn ds
      by None next e more = subst AllIn (same_ok [] ds e) none_in
      by (Some x) next e more =
          let r = bind_ok (hops_from n p x) (λ others. Ok (x ∷ others)) ds e in
          subst AllIn (same_ok (x ∷ r.0) ds r.2) (more_in x r.0 (next_in d x next) (more x r.0 r.1))

  -- all entries of a chain stand in walks of the program
  chain_in : (d : Located) (chain : List Located) → StandsIn p d → chain_of p d ≡ Ok chain → AllIn chain
  unfolding chain_of
  chain_in d chain own is =
      let r = bind_ok (hops_from MAX_CHAIN_HOPS p d) (λ others. Ok (d ∷ others)) chain is in
      subst AllIn (same_ok (d ∷ r.0) chain r.2) (more_in d r.0 own (hops_in MAX_CHAIN_HOPS d r.0 r.1))

  -- the first text that the entries have
  first_clean : (text_by : Located → Option (List ℕ)) → ((d : Located) (t : List ℕ) → StandsIn p d → text_by d ≡ Some t → HasNoZero t) → (ds : List Located) (text : List ℕ) → AllIn ds → first (filter_map text_by ds) ≡ Some text → HasNoZero text
  unfolding AllIn
  first_clean text_by own [] text all is = absurd cc
  first_clean text_by own (d ∷ ds) text all is = by (text_by d) refl is (λ e. first_clean text_by own ds text (λ x c. all x (contains_later d ds x c)) e)
    where
      by : (o : Option (List ℕ)) → text_by d ≡ o → first (filter_map text_by (d ∷ ds)) ≡ Some text → (first (filter_map text_by ds) ≡ Some text → HasNoZero text) → HasNoZero text
      by None e is rest = rest (rw e at is)
      by (Some t) e is rest = let g : Some t ≡ Some text = rw e at is in subst HasNoZero (same_Some t text g) (own d t (all d (contains_here d ds)) e)

  pub linkage_name_clean : (d : Located) (chain : List Located) (text : List ℕ) → StandsIn p d → chain_of p d ≡ Ok chain → linkage_name_of p chain ≡ Some text → HasNoZero text
  unfolding linkage_name_of
  linkage_name_clean d chain text own chained is = first_clean (own_linkage_name p.sections) (λ e t c h. linkage_clean p.sections e t (entry_clean e c) h) chain text (chain_in d chain own chained) is

  signed_clean : (s : ℕ) (text : List ℕ) → name_signed p s ≡ Ok (Some text) → HasNoZero text
  unfolding name_signed
  signed_clean s text is = by (find (λ w. is_type_unit w.unit.sort && eqb w.unit.signature s) p.walks) is
    where
      by : (o : Option Walked) → if_some o (λ w. entry_named p w (record { target = w.unit.type_offset; near = true }) >>= λ d. Ok (own_name p.sections d)) ≡ Ok (Some text) → HasNoZero text
      by None e = absurd cc
      by (Some w) e =
          let t = bind_ok (entry_named p w (record { target = w.unit.type_offset; near = true })) (λ d. Ok (own_name p.sections d)) (Some text) e in
          name_clean p.sections t.0 text (entry_clean t.0 (named_in w (record { target = w.unit.type_offset; near = true }) t.0 t.1)) (same_ok (own_name p.sections t.0) (Some text) t.2)

  by_signature_clean : (d : Located) (text : List ℕ) → name_by_signature p d ≡ Ok (Some text) → HasNoZero text
  unfolding name_by_signature
  by_signature_clean d text is = by (signature_of d.item) is
    where
      by : (o : Option ℕ) → if_some o (name_signed p) ≡ Ok (Some text) → HasNoZero text
      by None e = absurd cc
      by (Some s) e = signed_clean s text e

  -- the name that the file spells for an entry
  pub spelled_clean : (d : Located) (chain : List Located) (text : List ℕ) → StandsIn p d → chain_of p d ≡ Ok chain → spelled_name p d chain ≡ Ok (Some text) → HasNoZero text
  unfolding spelled_name
  spelled_clean d chain text own chained is = by (first (filter_map (own_name p.sections) chain)) refl is
    where
      by : (o : Option (List ℕ)) → first (filter_map (own_name p.sections) chain) ≡ o → some_else o (name_by_signature p d) ≡ Ok (Some text) → HasNoZero text
      by None e is = by_signature_clean d text is
      by (Some t) e is =
          let same : t ≡ text = same_Some t text (same_ok (Some t) (Some text) is) in
          first_clean (own_name p.sections) (λ x s c h. name_clean p.sections x s (entry_clean x c) h) chain text (chain_in d chain own chained) (e ∙ ap (λ (x : List ℕ). Some x) same)
