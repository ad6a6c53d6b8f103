-- The texts among the values of entries have no zero.
use Rattle.std.proofs.Common.{◌≡◌, ℕ, zero, suc, ◌+◌, ℤ, Bool, true, false, ◌&&◌, ◌||◌, cond, leb, eqb, List, [], ◌∷◌, ◌++◌, length, Option, Some, Result, Ok, Err, refl, ap, ◌∙◌, subst, arith, ⊎_elim}
use Rattle.std.proofs.lemmas.Option.{same_Some}
use Rattle.std.specs.Prelude.{Contains, filter_map, ⊤}
use Rattle.common_laws.proofs.Members.{contains_cases}
use Rattle.ix_base.specs.declared.code.TheConstants.{TRUNCATED, UNKNOWN_FORM, SUPPLEMENTARY, BAD_CODE, BAD_ROOT, DEPTH}
use Rattle.ix_base.specs.declared.limits.TheConstants.{MAX_DEPTH}
use Rattle.ix_base.specs.Reading.{Input, number, skip, offset, past, uleb, sleb, zstr, before_zero}
use Rattle.index_model.specs.declared.unit.Unit.{Unit as UnitHeader}
use Rattle.index_model.specs.Meaning.{◌>>=◌, ◌>>◌, holds_or, some_or}
use Rattle.index_model.specs.Sections.{Section}
use Rattle.index_model.specs.Tags.{is_root_tag}
use Rattle.index_model.specs.Forms.{Value, Addr, Unsigned, Str, LineStr, StrIndex, AddrIndex, Near, Far, Signature, Offset, RangeIndex, ListIndex, Signed, Flag, Wide, Inline, Block, Reader, by, refused, plain_forms, reader_of, is_set, counted, section_reference, indirect, value_at}
use Rattle.index_model.specs.Abbreviations.{Abbrev, Spec, abbrev_of}
use Rattle.index_model.specs.Walk.{Item, Token, Null, Entry, Levels, levels, is_over, values, entry_at, token_at, token_or_fault, behind, walk_from, walk_of, tail_of, item_in}
use Rattle.index_model.specs.Program.{Walked, walked, items_of, body}
use Rattle.index_model.proofs.Meanings.{bind_ok, holds_ok, some_ok, bind_some, same_ok, at_place_ok}
use Rattle.index_model.proofs.Scans.{read, walked_read}
use Rattle.index_alike.proofs.GdbPositions.{HasNoZero}
use Rattle.index_alike.proofs.GdbTexts.{before_clean}

-- a text has no zero
abbrev pub IsCleanValue : Value → Type 0
IsCleanValue (Inline text) = HasNoZero text
IsCleanValue other = ⊤

-- ---- forms

abbrev Cleans : Reader → Type 0
Cleans r = (i : Input) (x : Value × Input) → r i ≡ Ok x → IsCleanValue x.0

by_cleans : {A : Type 0} (read : Input → Option (A × Input)) (make : A → Value) → ((y : A) → IsCleanValue (make y)) → Cleans (by read make)
by_cleans read make clean i x is =
    let v = some_ok (read i) TRUNCATED (λ y. Ok (make y.0, y.1)) x is in
    subst IsCleanValue (ap (λ (q : Value × Input). q.0) (same_ok (make v.0.0, v.0.1) x v.2)) (clean v.0.0)

refused_cleans : (code : ℕ) → Cleans (refused code)
refused_cleans code i x is = absurd cc

zstr_cleans : Cleans (by zstr Inline)
zstr_cleans i x is =
    let v = some_ok (zstr i) TRUNCATED (λ y. Ok (Inline y.0, y.1)) x is in
    let b = bind_some (before_zero i.rest) (λ s. Some (s, past (length s + 1) i)) v.0 v.1 in
    let text : b.0 ≡ v.0.0 = ap (λ (q : List ℕ × Input). q.0) (same_Some (b.0, past (length b.0 + 1) i) v.0 b.2) in
    subst IsCleanValue (ap Inline text ∙ ap (λ (q : Value × Input). q.0) (same_ok (Inline v.0.0, v.0.1) x v.2)) (before_clean i.rest b.0 b.1)

abbrev AllClean : List (ℕ × Reader) → Type 0
AllClean [] = Unit {0}
AllClean (row ∷ rows) = Cleans row.1 × AllClean rows

chosen : (c : Bool) (a b : Reader) → Cleans a → Cleans b → Cleans (cond c a b)
chosen true a b m n = m
chosen false a b m n = n

reader_cleans : (rows : List (ℕ × Reader)) (form : ℕ) → AllClean rows → Cleans (reader_of rows form)
reader_cleans [] form all = refused_cleans UNKNOWN_FORM
reader_cleans (row ∷ rows) form all = chosen (eqb row.0 form) row.1 (reader_of rows form) all.0 (reader_cleans rows form all.1)

plain_forms_clean : (version : ℕ) (wide : Bool) → AllClean (plain_forms version wide)
plain_forms_clean version wide = (by_cleans {A = record {}} (λ i. Some (record {}, i)) (λ _. Flag true) (λ _. tt), (by_cleans (number 1) Unsigned (λ _. tt), (by_cleans (number 1) (λ b. Flag (is_set b)) (λ _. tt), (by_cleans (number 1) Near (λ _. tt), (by_cleans (number 1) StrIndex (λ _. tt), (by_cleans (number 1) AddrIndex (λ _. tt), (by_cleans (number 2) Unsigned (λ _. tt), (by_cleans (number 2) Near (λ _. tt), (by_cleans (number 2) StrIndex (λ _. tt), (by_cleans (number 2) AddrIndex (λ _. tt), (by_cleans (number 3) StrIndex (λ _. tt), (by_cleans (number 3) AddrIndex (λ _. tt), (by_cleans (number 4) Unsigned (λ _. tt), (by_cleans (number 4) Near (λ _. tt), (by_cleans (number 4) StrIndex (λ _. tt), (by_cleans (number 4) AddrIndex (λ _. tt), (by_cleans (number 8) Addr (λ _. tt), (by_cleans (number 8) Unsigned (λ _. tt), (by_cleans (number 8) Near (λ _. tt), (by_cleans (number 8) Signature (λ _. tt), (by_cleans (skip 16) (λ _. Wide) (λ _. tt), (by_cleans (offset wide) Str (λ _. tt), (by_cleans (section_reference version wide) Far (λ _. tt), (by_cleans (offset wide) Offset (λ _. tt), (by_cleans (offset wide) LineStr (λ _. tt), (by_cleans uleb Unsigned (λ _. tt), (by_cleans uleb Near (λ _. tt), (by_cleans uleb StrIndex (λ _. tt), (by_cleans uleb AddrIndex (λ _. tt), (by_cleans uleb ListIndex (λ _. tt), (by_cleans uleb RangeIndex (λ _. tt), (by_cleans sleb Signed (λ _. tt), (by_cleans (counted (number 1)) Block (λ _. tt), (by_cleans (counted (number 2)) Block (λ _. tt), (by_cleans (counted (number 4)) Block (λ _. tt), (by_cleans (counted uleb) Block (λ _. tt), (by_cleans (counted uleb) Block (λ _. tt), (zstr_cleans, (refused_cleans SUPPLEMENTARY, (refused_cleans SUPPLEMENTARY, (refused_cleans SUPPLEMENTARY, tt)))))))))))))))))))))))))))))))))))))))))

indirect_cleans : (version : ℕ) (wide : Bool) → Cleans (indirect version wide)
unfolding indirect
indirect_cleans version wide i x is =
    let f = some_ok (uleb i) TRUNCATED (λ form. reader_of (plain_forms version wide) form.0 form.1) x is in
    reader_cleans (plain_forms version wide) f.0.0 (plain_forms_clean version wide) f.0.1 x f.2

kept_cleans : (constant : ℤ) → Cleans (λ i. Ok (Signed constant, i))
kept_cleans constant i x is = subst IsCleanValue (ap (λ (q : Value × Input). q.0) (same_ok (Signed constant, i) x is)) tt

value_cleans : (version : ℕ) (wide : Bool) (form : ℕ) (constant : ℤ) → Cleans (value_at version wide form constant)
unfolding value_at
value_cleans version wide form constant = reader_cleans ((0x16, indirect version wide) ∷ (0x21, λ i. Ok (Signed constant, i)) ∷ plain_forms version wide) form (indirect_cleans version wide, (kept_cleans constant, plain_forms_clean version wide))

-- ---- entries

abbrev pub AreCleanValues : List (ℕ × Value) → Type 0
AreCleanValues [] = Unit {0}
AreCleanValues (v ∷ vs) = IsCleanValue v.1 × AreCleanValues vs

values_clean : (u : UnitHeader) (table : List Abbrev) (ss : List Spec) (i : Input) (x : List (ℕ × Value) × Input) → values u table ss i ≡ Ok x → AreCleanValues x.0
unfolding values
values_clean u table [] i x is = subst (λ (q : List (ℕ × Value) × Input). AreCleanValues q.0) (same_ok ([], i) x is) tt
values_clean u table (s ∷ ss) i x is =
    let v = bind_ok (value_at u.version u.wide s.form s.constant i) (λ v. values u table ss v.1 >>= λ others. Ok ((s.attribute, v.0) ∷ others.0, others.1)) x is in
    let w = bind_ok (values u table ss v.0.1) (λ others. Ok ((s.attribute, v.0.0) ∷ others.0, others.1)) x v.2 in
    subst (λ (q : List (ℕ × Value) × Input). AreCleanValues q.0) (same_ok ((s.attribute, v.0.0) ∷ w.0.0, w.0.1) x w.2) (value_cleans u.version u.wide s.form s.constant i v.0 v.1, values_clean u table ss v.0.1 w.0 w.1)

abbrev IsCleanToken : Token → Type 0
IsCleanToken (Null depth after) = ⊤
IsCleanToken (Entry d) = AreCleanValues d.values

module _ (u : UnitHeader) (table : List Abbrev) (open_ : Levels) (i : Input) where
  abbrev entry : Abbrev → List (ℕ × Value) × Input → Token
  entry a vs = Entry (record { at = i.at; after = vs.1.at; depth = open_.depth; children = a.children; tag = a.tag; values = vs.0 })

  entry_cleans : (a : Abbrev) (j : Input) (x : Token × Input) → entry_at u table open_ i.at a j ≡ Ok x → IsCleanToken x.0
  unfolding entry_at
  entry_cleans a j x is =
      let d = holds_ok (leb open_.depth MAX_DEPTH) DEPTH (holds_or (open_.root || is_root_tag a.tag) BAD_ROOT >> (values u table a.specs j >>= λ vs. Ok (entry a vs, vs.1))) x is in
      let r = holds_ok (open_.root || is_root_tag a.tag) BAD_ROOT (values u table a.specs j >>= λ vs. Ok (entry a vs, vs.1)) x d.1 in
      let v = bind_ok (values u table a.specs j) (λ vs. Ok (entry a vs, vs.1)) x r.1 in
      subst (λ (y : Token × Input). IsCleanToken y.0) (same_ok (entry a v.0, v.0.1) x v.2) (values_clean u table a.specs j v.0 v.1)

  abbrev null_or : Bool → ℕ × Input → Result (Token × Input) ℕ
  null_or null code = cond null (Ok (Null open_.depth code.1.at, code.1)) (some_or (abbrev_of table code.0) BAD_CODE >>= λ a. entry_at u table open_ i.at a code.1)

  null_or_cleans : (null : Bool) (code : ℕ × Input) (x : Token × Input) → null_or null code ≡ Ok x → IsCleanToken x.0
  null_or_cleans true code x is = subst (λ (y : Token × Input). IsCleanToken y.0) (same_ok (Null open_.depth code.1.at, code.1) x is) tt
  null_or_cleans false code x is =
      let a = some_ok (abbrev_of table code.0) BAD_CODE (λ a. entry_at u table open_ i.at a code.1) x is in
      entry_cleans a.0 code.1 x a.2

  token_cleans : (x : Token × Input) → token_at u table open_ i ≡ Ok x → IsCleanToken x.0
  unfolding token_at
  token_cleans x is =
      let c = some_ok (uleb i) TRUNCATED (λ code. null_or (eqb code.0 0 && open_.root) code) x is in
      null_or_cleans (eqb c.0.0 0 && open_.root) c.0 x c.2

abbrev AreCleanTokens : List Token → Type 0
AreCleanTokens [] = Unit {0}
AreCleanTokens (t ∷ ts) = IsCleanToken t × AreCleanTokens ts

module _ (u : UnitHeader) (table : List Abbrev) where
  from_clean : (n : ℕ) (earlier : List Token) (i : Input) → AreCleanTokens (walk_from (token_or_fault u table) n earlier i).tokens
  unfolding walk_from tail_of
  from_clean zero earlier i = tt
  from_clean (suc n) earlier i = elim (is_over (levels earlier) i) as (λ b. AreCleanTokens (cond b (tail_of i) (behind (token_or_fault u table (levels earlier) i) (λ t. walk_from (token_or_fault u table) n (earlier ++ t.0 ∷ []) t.1))).tokens) [
    | true ↦ tt
    | false ↦ elim (token_or_fault u table (levels earlier) i) as (λ r. token_or_fault u table (levels earlier) i ≡ r → AreCleanTokens (behind r (λ t. walk_from (token_or_fault u table) n (earlier ++ t.0 ∷ []) t.1)).tokens) [
      | Err f ↦ λ e. tt
      | Ok t ↦ λ e. (token_cleans u table (levels earlier) i t (at_place_ok i.at (token_at u table (levels earlier) i) t e), from_clean n (earlier ++ t.0 ∷ []) t.1)
    ] refl
  ]

item_cleans : (ts : List Token) (d : Item) → AreCleanTokens ts → Contains (filter_map item_in ts) d → AreCleanValues d.values
item_cleans [] d all c = absurd (omega (arith, c.1))
item_cleans (Null depth after ∷ ts) d all c = item_cleans ts d all.1 c
item_cleans (Entry e ∷ ts) d all c = ⊎_elim (λ (same : e ≡ d). subst (λ (x : Item). AreCleanValues x.values) same all.0) (λ (l : Contains (filter_map item_in ts) d). item_cleans ts d all.1 l) (contains_cases e (filter_map item_in ts) d c)

-- each text of an entry of a walk has no zero
pub walk_cleans : (ss : List Section) (u : ℕ × UnitHeader) (w : Walked) → walked ss u ≡ Ok w → (d : Item) → Contains (items_of w) d → AreCleanValues d.values
walk_cleans ss u w is =
    let r = walked_read ss u w is in
    subst (λ (w : Walked). (d : Item) → Contains (items_of w) d → AreCleanValues d.values) r.1 (λ d c. item_cleans (walk_of u.1 r.0 (body ss u.1)).tokens d (from_clean u.1 r.0 (length (body ss u.1).rest) [] (body ss u.1)) c)
