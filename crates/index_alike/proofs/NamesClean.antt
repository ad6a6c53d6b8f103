-- No text of a file has a zero: it is read up to the first one (DWARF 5, 7.5.5).
use Rattle.std.proofs.Common.{◌≡◌, ℕ, zero, suc, ◌+◌, ◌<◌, ℤ, Bool, true, false, cond, eqb, leb, ◌&&◌, ◌||◌, List, [], ◌∷◌, ◌++◌, length, take, Option, Some, Result, Ok, Err, refl, sym, ap, subst, ◌∙◌, arith, length-take, ⊎_elim}
use Rattle.std.specs.Prelude.{position, Contains, filter_map}
use Rattle.std.proofs.lemmas.Bool.{false≢true}
use Rattle.std.proofs.lemmas.List.{get_or-take}
use Rattle.std.proofs.lemmas.List.Quantifiers.{position-Some}
use Rattle.std.proofs.lemmas.Option.{same_Some}
use Rattle.common_laws.proofs.Members.{contains_cases}
use Rattle.ix_base.specs.declared.code.TheConstants.{TRUNCATED, UNKNOWN_FORM, SUPPLEMENTARY, BAD_CODE, BAD_ROOT, DEPTH}
use Rattle.ix_base.specs.declared.limits.TheConstants.{MAX_DEPTH}
use Rattle.ix_base.specs.declared.fault.Fault.{Fault}
use Rattle.ix_base.specs.Reading.{Input, number, skip, offset, past, uleb, sleb, zstr, before_zero}
use Rattle.index_model.specs.declared.unit.Unit.{Unit as UnitHeader}
use Rattle.index_model.specs.Meaning.{◌>>=◌, ◌>>◌, holds_or, some_or}
use Rattle.index_model.specs.Sections.{Section}
use Rattle.index_model.specs.Tags.{is_root_tag}
use Rattle.index_model.specs.Forms.{Value, Addr, Unsigned, Str, LineStr, StrIndex, AddrIndex, Near, Far, Signature, Offset, RangeIndex, ListIndex, Signed, Flag, Wide, Inline, Block, Reader, by, refused, plain_forms, reader_of, is_set, counted, section_reference, indirect, value_at}
use Rattle.index_model.specs.Abbreviations.{Abbrev, Spec, abbrev_of}
use Rattle.index_model.specs.Walk.{Item, Token, Null, Entry, Levels, levels, is_over, behind, values, entry_at, token_at, token_or_fault, tail_of, walk_from, walk_of, item_in, items}
use Rattle.index_model.specs.Program.{Walked, walked, items_of, body}
use Rattle.index_model.proofs.Meanings.{bind_ok, holds_ok, some_ok, bind_some, same_ok, at_place_ok}
use Rattle.index_model.proofs.Scans.{walked_read}
use Rattle.index_model.proofs.TextReads.{same_text}
use Rattle.index_alike.proofs.NamesTexts.{HasNoZero}

-- what stands before the first zero has none
pub before_zero_clean : (bytes text : List ℕ) → before_zero bytes ≡ Some text → HasNoZero text
before_zero_clean bytes text is =
    let k = bind_some (position (λ b. eqb b 0) bytes) (λ k. Some (take k bytes)) text is in
    let taken : take k.0 bytes ≡ text = same_Some (take k.0 bytes) text k.2 in
    subst HasNoZero taken (λ j d lt.
    let within : j < k.0 = omega (arith, lt, length-take k.0 bytes) in
    ap (λ (b : ℕ). eqb b 0) (get_or-take k.0 bytes j d within) ∙ (position-Some (λ b. eqb b 0) bytes k.0 d k.1).2 j within)

-- ---- forms

-- the texts that a reader gives have no zero
abbrev Clean : Reader → Type 0
Clean r = (i : Input) (x : Value × Input) → r i ≡ Ok x → (text : List ℕ) → x.0 ≡ Inline text → HasNoZero text

abbrev is_text : Value → Bool
is_text (Inline text) = true
is_text other = false

-- a reader of other values
other_clean : {A : Type 0} (read : Input → Option (A × Input)) (make : A → Value) → ((y : A) → is_text (make y) ≡ false) → Clean (by read make)
other_clean read make other i x is text e =
    let v = some_ok (read i) TRUNCATED (λ y. Ok (make y.0, y.1)) x is in
    let m : make v.0.0 ≡ x.0 = ap (λ (q : Value × Input). q.0) (same_ok (make v.0.0, v.0.1) x v.2) in
    absurd (false≢true (sym (other v.0.0) ∙ ap is_text (m ∙ e)))

refused_clean : (code : ℕ) → Clean (refused code)
refused_clean code i x is text e = absurd cc

zstr_clean : Clean (by zstr Inline)
zstr_clean i x is text e =
    let v = some_ok (zstr i) TRUNCATED (λ y. Ok (Inline y.0, y.1)) x is in
    let pair : (Inline v.0.0, v.0.1) ≡ x = same_ok (Inline v.0.0, v.0.1) x v.2 in
    let t : v.0.0 ≡ text = same_text v.0.0 text (ap (λ (q : Value × Input). q.0) pair ∙ e) in
    let b = bind_some (before_zero i.rest) (λ s. Some (s, past (length s + 1) i)) v.0 v.1 in
    let own : b.0 ≡ text = ap (λ (q : List ℕ × Input). q.0) (same_Some (b.0, past (length b.0 + 1) i) v.0 b.2) ∙ t in
    subst HasNoZero own (before_zero_clean i.rest b.0 b.1)

abbrev AllClean : List (ℕ × Reader) → Type 0
AllClean [] = Unit {0}
AllClean (row ∷ rows) = Clean row.1 × AllClean rows

chosen : (c : Bool) (a b : Reader) → Clean a → Clean b → Clean (cond c a b)
chosen true a b m n = m
chosen false a b m n = n

reader_clean : (rows : List (ℕ × Reader)) (form : ℕ) → AllClean rows → Clean (reader_of rows form)
reader_clean [] form all = refused_clean UNKNOWN_FORM
reader_clean (row ∷ rows) form all = chosen (eqb row.0 form) row.1 (reader_of rows form) all.0 (reader_clean rows form all.1)

plain_forms_clean : (version : ℕ) (wide : Bool) → AllClean (plain_forms version wide)
plain_forms_clean version wide = (other_clean {A = record {}} (λ i. Some (record {}, i)) (λ _. Flag true) (λ y. refl), (other_clean (number 1) Unsigned (λ y. refl), (other_clean (number 1) (λ b. Flag (is_set b)) (λ y. refl), (other_clean (number 1) Near (λ y. refl), (other_clean (number 1) StrIndex (λ y. refl), (other_clean (number 1) AddrIndex (λ y. refl), (other_clean (number 2) Unsigned (λ y. refl), (other_clean (number 2) Near (λ y. refl), (other_clean (number 2) StrIndex (λ y. refl), (other_clean (number 2) AddrIndex (λ y. refl), (other_clean (number 3) StrIndex (λ y. refl), (other_clean (number 3) AddrIndex (λ y. refl), (other_clean (number 4) Unsigned (λ y. refl), (other_clean (number 4) Near (λ y. refl), (other_clean (number 4) StrIndex (λ y. refl), (other_clean (number 4) AddrIndex (λ y. refl), (other_clean (number 8) Addr (λ y. refl), (other_clean (number 8) Unsigned (λ y. refl), (other_clean (number 8) Near (λ y. refl), (other_clean (number 8) Signature (λ y. refl), (other_clean (skip 16) (λ _. Wide) (λ y. refl), (other_clean (offset wide) Str (λ y. refl), (other_clean (section_reference version wide) Far (λ y. refl), (other_clean (offset wide) Offset (λ y. refl), (other_clean (offset wide) LineStr (λ y. refl), (other_clean uleb Unsigned (λ y. refl), (other_clean uleb Near (λ y. refl), (other_clean uleb StrIndex (λ y. refl), (other_clean uleb AddrIndex (λ y. refl), (other_clean uleb ListIndex (λ y. refl), (other_clean uleb RangeIndex (λ y. refl), (other_clean sleb Signed (λ y. refl), (other_clean (counted (number 1)) Block (λ y. refl), (other_clean (counted (number 2)) Block (λ y. refl), (other_clean (counted (number 4)) Block (λ y. refl), (other_clean (counted uleb) Block (λ y. refl), (other_clean (counted uleb) Block (λ y. refl), (zstr_clean, (refused_clean SUPPLEMENTARY, (refused_clean SUPPLEMENTARY, (refused_clean SUPPLEMENTARY, tt)))))))))))))))))))))))))))))))))))))))))

indirect_clean : (version : ℕ) (wide : Bool) → Clean (indirect version wide)
unfolding indirect
indirect_clean version wide i x is text e =
    let f = some_ok (uleb i) TRUNCATED (λ form. reader_of (plain_forms version wide) form.0 form.1) x is in
    reader_clean (plain_forms version wide) f.0.0 (plain_forms_clean version wide) f.0.1 x f.2 text e

abbrev kept : ℤ → Reader
kept constant i = Ok (Signed constant, i)

kept_clean : (constant : ℤ) → Clean (kept constant)
kept_clean constant i x is text e = absurd (false≢true (ap is_text (ap (λ (q : Value × Input). q.0) (same_ok (Signed constant, i) x is) ∙ e)))

value_clean : (version : ℕ) (wide : Bool) (form : ℕ) (constant : ℤ) → Clean (value_at version wide form constant)
unfolding value_at
value_clean version wide form constant = reader_clean ((0x16, indirect version wide) ∷ (0x21, kept constant) ∷ plain_forms version wide) form (indirect_clean version wide, (kept_clean constant, plain_forms_clean version wide))

-- ---- entries

-- no text among the values has a zero
abbrev pub CleanTexts : List (ℕ × Value) → Type 0
CleanTexts vs = (n : ℕ) (text : List ℕ) → Contains vs (n, Inline text) → HasNoZero text

abbrev pair : ℕ → Value → ℕ × Value
pair n v = (n, v)

same_value : (m n : ℕ) (v w : Value) → pair m v ≡ pair n w → v ≡ w
same_value m n v w e = ap (λ (q : ℕ × Value). q.1) e

values_clean : (u : UnitHeader) (table : List Abbrev) (ss : List Spec) (i : Input) (x : List (ℕ × Value) × Input) → values u table ss i ≡ Ok x → CleanTexts x.0
unfolding values
values_clean u table [] i x is n text c =
    let none : Contains [] (n, Inline text) = subst (λ (vs : List (ℕ × Value)). Contains vs (n, Inline text)) (ap (λ (q : List (ℕ × Value) × Input). q.0) (sym (same_ok ([], i) x is))) c in
    absurd (omega (arith, none.1))
values_clean u table (s ∷ ss) i x is n text c =
    let v = bind_ok (value_at u.version u.wide s.form s.constant i) (λ v. values u table ss v.1 >>= λ others. Ok ((s.attribute, v.0) ∷ others.0, others.1)) x is in
    let w = bind_ok (values u table ss v.0.1) (λ others. Ok ((s.attribute, v.0.0) ∷ others.0, others.1)) x v.2 in
    let e : ((s.attribute, v.0.0) ∷ w.0.0, w.0.1) ≡ x = same_ok ((s.attribute, v.0.0) ∷ w.0.0, w.0.1) x w.2 in
    let d : Contains ((s.attribute, v.0.0) ∷ w.0.0) (n, Inline text) = subst (λ (vs : List (ℕ × Value)). Contains vs (n, Inline text)) (ap (λ (q : List (ℕ × Value) × Input). q.0) (sym e)) c in
    ⊎_elim {A = (s.attribute, v.0.0) ≡ (n, Inline text)}
    (λ (same : (s.attribute, v.0.0) ≡ (n, Inline text)). value_clean u.version u.wide s.form s.constant i v.0 v.1 text (same_value s.attribute n v.0.0 (Inline text) same))
    (λ (later : Contains w.0.0 (n, Inline text)). values_clean u table ss v.0.1 w.0 w.1 n text later)
    (contains_cases (s.attribute, v.0.0) w.0.0 (n, Inline text) d)

abbrev CleanToken : Token → Type 0
CleanToken (Null depth after) = Unit {0}
CleanToken (Entry d) = CleanTexts d.values

module _ (u : UnitHeader) (table : List Abbrev) (open_ : Levels) (i : Input) where
  abbrev entry : Abbrev → List (ℕ × Value) × Input → Token
  entry a vs = Entry (record { at = i.at; after = vs.1.at; depth = open_.depth; children = a.children; tag = a.tag; values = vs.0 })

  entry_clean : (a : Abbrev) (j : Input) (x : Token × Input) → entry_at u table open_ i.at a j ≡ Ok x → CleanToken x.0
  unfolding entry_at
  entry_clean a j x is =
      let d = holds_ok (leb open_.depth MAX_DEPTH) DEPTH (holds_or (open_.root || is_root_tag a.tag) BAD_ROOT >> (values u table a.specs j >>= λ vs. Ok (entry a vs, vs.1))) x is in
      let r = holds_ok (open_.root || is_root_tag a.tag) BAD_ROOT (values u table a.specs j >>= λ vs. Ok (entry a vs, vs.1)) x d.1 in
      let v = bind_ok (values u table a.specs j) (λ vs. Ok (entry a vs, vs.1)) x r.1 in
      subst (λ (y : Token × Input). CleanToken y.0) (same_ok (entry a v.0, v.0.1) x v.2) (values_clean u table a.specs j v.0 v.1)

  abbrev null_or : Bool → ℕ × Input → Result (Token × Input) ℕ
  null_or null code = cond null (Ok (Null open_.depth code.1.at, code.1)) (some_or (abbrev_of table code.0) BAD_CODE >>= λ a. entry_at u table open_ i.at a code.1)

  null_or_clean : (null : Bool) (code : ℕ × Input) (x : Token × Input) → null_or null code ≡ Ok x → CleanToken x.0
  null_or_clean true code x is = subst (λ (y : Token × Input). CleanToken y.0) (same_ok (Null open_.depth code.1.at, code.1) x is) tt
  null_or_clean false code x is =
      let a = some_ok (abbrev_of table code.0) BAD_CODE (λ a. entry_at u table open_ i.at a code.1) x is in
      entry_clean a.0 code.1 x a.2

  token_clean : (x : Token × Input) → token_at u table open_ i ≡ Ok x → CleanToken x.0
  unfolding token_at
  token_clean x is =
      let c = some_ok (uleb i) TRUNCATED (λ code. null_or (eqb code.0 0 && open_.root) code) x is in
      null_or_clean (eqb c.0.0 0 && open_.root) c.0 x c.2

  read_clean : (x : Token × Input) → token_or_fault u table open_ i ≡ Ok x → CleanToken x.0
  read_clean x is = token_clean x (at_place_ok i.at (token_at u table open_ i) x is)

-- ---- walks

abbrev CleanItems : List Token → Type 0
CleanItems ts = (d : Item) → Contains (filter_map item_in ts) d → CleanTexts d.values

no_items : CleanItems []
no_items d c = absurd (omega (arith, c.1))

one_more : (t : Token) (ts : List Token) → CleanToken t → CleanItems ts → CleanItems (t ∷ ts)
one_more (Null depth after) ts own rest d c = rest d c
one_more (Entry e) ts own rest d c = ⊎_elim (λ (same : e ≡ d). subst (λ (x : Item). CleanTexts x.values) same own) (λ (l : Contains (filter_map item_in ts) d). rest d l) (contains_cases e (filter_map item_in ts) d c)

module _ (u : UnitHeader) (table : List Abbrev) where
  abbrev read : Levels → Input → Result (Token × Input) Fault
  read = token_or_fault u table

  tokens_clean : (n : ℕ) (earlier : List Token) (i : Input) → CleanItems (walk_from read n earlier i).tokens
  unfolding walk_from tail_of
  tokens_clean zero earlier i = no_items
  tokens_clean (suc n) earlier i =
      elim (is_over (levels earlier) i) as (λ b. CleanItems (cond b (tail_of i) (behind (read (levels earlier) i) (λ t. walk_from read n (earlier ++ t.0 ∷ []) t.1))).tokens) [
        | true ↦ no_items
        | false ↦ elim (read (levels earlier) i) as (λ r. read (levels earlier) i ≡ r → CleanItems (behind r (λ t. walk_from read n (earlier ++ t.0 ∷ []) t.1)).tokens) [
          | Err f ↦ λ g. no_items
          | Ok t ↦ λ g. one_more t.0 (walk_from read n (earlier ++ t.0 ∷ []) t.1).tokens (read_clean u table (levels earlier) i t g) (tokens_clean n (earlier ++ t.0 ∷ []) t.1)
        ] refl
      ]

-- no text of an entry has a zero
pub items_clean : (ss : List Section) (u : ℕ × UnitHeader) (w : Walked) → walked ss u ≡ Ok w → (d : Item) → Contains (items_of w) d → CleanTexts d.values
items_clean ss u w is d c =
    let r = walked_read ss u w is in
    let own : Contains (items (walk_of u.1 r.0 (body ss u.1))) d = subst (λ (x : Walked). Contains (items_of x) d) (sym r.1) c in
    tokens_clean u.1 r.0 (length (body ss u.1).rest) [] (body ss u.1) d own
