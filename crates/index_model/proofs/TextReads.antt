-- Where the texts among the values of an entry stand.
use Rattle.std.proofs.Common.{◌≡◌, ℕ, ◌+◌, ◌≤◌, ℤ, Bool, true, false, cond, eqb, List, [], ◌∷◌, length, take, drop, Option, Some, Ok, refl, sym, ap, subst, ◌∙◌, arith, length-take, ⊎_elim}
use Rattle.std.specs.Prelude.{position, Contains}
use Rattle.std.proofs.lemmas.Bool.{false≢true}
use Rattle.std.proofs.lemmas.List.{drop-drop}
use Rattle.std.proofs.lemmas.List.Quantifiers.{position-Some}
use Rattle.std.proofs.lemmas.Option.{same_Some}
use Rattle.common_laws.proofs.Members.{contains_cases}
use Rattle.ix_base.specs.declared.code.TheConstants.{TRUNCATED, UNKNOWN_FORM, SUPPLEMENTARY}
use Rattle.ix_base.specs.Reading.{Input, number, skip, offset, past, uleb, sleb, zstr, before_zero}
use Rattle.index_model.specs.declared.unit.Unit.{Unit as UnitHeader}
use Rattle.index_model.specs.Meaning.{◌>>=◌}
use Rattle.index_model.specs.Forms.{Value, Addr, Unsigned, Str, LineStr, StrIndex, AddrIndex, Near, Far, Signature, Offset, RangeIndex, ListIndex, Signed, Flag, Wide, Inline, Block, Reader, by, refused, plain_forms, reader_of, is_set, counted, section_reference, indirect, value_at}
use Rattle.index_model.specs.Abbreviations.{Abbrev, Spec}
use Rattle.index_model.specs.Walk.{Token, Null, Entry, values}
use Rattle.index_model.proofs.Meanings.{bind_ok, some_ok, bind_some, same_ok}
use Rattle.index_model.proofs.ValueReads.{Goes, uleb_passes, value_moves, values_move}

-- the text stands in what was passed
pub record IsPassed (i j : Input) (text : List ℕ) : Type 0 where
  pub place : ℕ
  pub ends : i.at + place + length text ≤ j.at
  pub is : take (length text) (drop place i.rest) ≡ text

-- places don't fall
pub onwards : (i j : Input) → Goes i j → i.at ≤ j.at
onwards i j g = omega (arith, ap (λ (x : Input). x.at) g.1.on)

-- what was passed later was passed
pub passed_later : (i j k : Input) (text : List ℕ) → Goes i j → IsPassed j k text → IsPassed i k text
passed_later i j k text g p =
    let a : i.at + g.0 ≡ j.at = ap (λ (x : Input). x.at) g.1.on in
    let r : drop g.0 i.rest ≡ j.rest = ap (λ (x : Input). x.rest) g.1.on in
    let d : drop (g.0 + p.place) i.rest ≡ drop p.place j.rest = sym (drop-drop p.place g.0 i.rest) ∙ ap (drop p.place) r in
    record {
      place = g.0 + p.place;
      ends = omega (arith, a, p.ends);
      is = ap (take (length text)) d ∙ p.is;
    }

-- so was what was passed before something else
pub passed_before : (i j k : Input) (text : List ℕ) → j.at ≤ k.at → IsPassed i j text → IsPassed i k text
passed_before i j k text le p = record { place = p.place; ends = omega (arith, p.ends, le); is = p.is }

-- ---- forms

-- a reader gives a text only from what it passes
abbrev Keeps : Reader → Type 0
Keeps r = (i : Input) (x : Value × Input) → r i ≡ Ok x → (text : List ℕ) → x.0 ≡ Inline text → IsPassed i x.1 text

abbrev is_text : Value → Bool
is_text (Inline text) = true
is_text other = false

text_is : (v : Value) (text : List ℕ) → v ≡ Inline text → is_text v ≡ true
text_is v text e = ap is_text e

pub same_text : (s text : List ℕ) → Inline s ≡ Inline text → s ≡ text
same_text s text e = cc

-- a reader of other values
other_keeps : {A : Type 0} (read : Input → Option (A × Input)) (make : A → Value) → ((y : A) → is_text (make y) ≡ false) → Keeps (by read make)
other_keeps read make other i x is text e =
    let v = some_ok (read i) TRUNCATED (λ y. Ok (make y.0, y.1)) x is in
    let m : make v.0.0 ≡ x.0 = ap (λ (q : Value × Input). q.0) (same_ok (make v.0.0, v.0.1) x v.2) in
    absurd (false≢true (sym (other v.0.0) ∙ text_is (make v.0.0) text (m ∙ e)))

refused_keeps : (code : ℕ) → Keeps (refused code)
refused_keeps code i x is text e = absurd cc

-- the bytes before the zero stand at the front
zstr_keeps : Keeps (by zstr Inline)
zstr_keeps i x is text e =
    let v = some_ok (zstr i) TRUNCATED (λ y. Ok (Inline y.0, y.1)) x is in
    let pair : (Inline v.0.0, v.0.1) ≡ x = same_ok (Inline v.0.0, v.0.1) x v.2 in
    let t : v.0.0 ≡ text = same_text v.0.0 text (ap (λ (q : Value × Input). q.0) pair ∙ e) in
    let b = bind_some (before_zero i.rest) (λ s. Some (s, past (length s + 1) i)) v.0 v.1 in
    let k = bind_some (position (λ b. eqb b 0) i.rest) (λ k. Some (take k i.rest)) b.0 b.1 in
    let inside = position-Some (λ b. eqb b 0) i.rest k.0 0 k.1 in
    let taken : take k.0 i.rest ≡ text = same_Some (take k.0 i.rest) b.0 k.2 ∙ ap (λ (q : List ℕ × Input). q.0) (same_Some (b.0, past (length b.0 + 1) i) v.0 b.2) ∙ t in
    let n : length text ≡ k.0 = omega (arith, ap (λ (s : List ℕ). length s) taken, length-take k.0 i.rest, inside.0) in
    let m : length b.0 ≡ length text = ap (λ (s : List ℕ). length s) (ap (λ (q : List ℕ × Input). q.0) (same_Some (b.0, past (length b.0 + 1) i) v.0 b.2) ∙ t) in
    let at : i.at + (length b.0 + 1) ≡ x.1.at = ap (λ (q : List ℕ × Input). q.1.at) (same_Some (b.0, past (length b.0 + 1) i) v.0 b.2) ∙ ap (λ (q : Value × Input). q.1.at) pair in
    record { place = 0; ends = omega (arith, at, m); is = ap (λ (k : ℕ). take k i.rest) n ∙ taken }

abbrev AllKeep : List (ℕ × Reader) → Type 0
AllKeep [] = Unit {0}
AllKeep (row ∷ rows) = Keeps row.1 × AllKeep rows

chosen : (c : Bool) (a b : Reader) → Keeps a → Keeps b → Keeps (cond c a b)
chosen true a b m n = m
chosen false a b m n = n

reader_keeps : (rows : List (ℕ × Reader)) (form : ℕ) → AllKeep rows → Keeps (reader_of rows form)
reader_keeps [] form all = refused_keeps UNKNOWN_FORM
reader_keeps (row ∷ rows) form all = chosen (eqb row.0 form) row.1 (reader_of rows form) all.0 (reader_keeps rows form all.1)

plain_forms_keep : (version : ℕ) (wide : Bool) → AllKeep (plain_forms version wide)
plain_forms_keep version wide = (other_keeps {A = record {}} (λ i. Some (record {}, i)) (λ _. Flag true) (λ y. refl), (other_keeps (number 1) Unsigned (λ y. refl), (other_keeps (number 1) (λ b. Flag (is_set b)) (λ y. refl), (other_keeps (number 1) Near (λ y. refl), (other_keeps (number 1) StrIndex (λ y. refl), (other_keeps (number 1) AddrIndex (λ y. refl), (other_keeps (number 2) Unsigned (λ y. refl), (other_keeps (number 2) Near (λ y. refl), (other_keeps (number 2) StrIndex (λ y. refl), (other_keeps (number 2) AddrIndex (λ y. refl), (other_keeps (number 3) StrIndex (λ y. refl), (other_keeps (number 3) AddrIndex (λ y. refl), (other_keeps (number 4) Unsigned (λ y. refl), (other_keeps (number 4) Near (λ y. refl), (other_keeps (number 4) StrIndex (λ y. refl), (other_keeps (number 4) AddrIndex (λ y. refl), (other_keeps (number 8) Addr (λ y. refl), (other_keeps (number 8) Unsigned (λ y. refl), (other_keeps (number 8) Near (λ y. refl), (other_keeps (number 8) Signature (λ y. refl), (other_keeps (skip 16) (λ _. Wide) (λ y. refl), (other_keeps (offset wide) Str (λ y. refl), (other_keeps (section_reference version wide) Far (λ y. refl), (other_keeps (offset wide) Offset (λ y. refl), (other_keeps (offset wide) LineStr (λ y. refl), (other_keeps uleb Unsigned (λ y. refl), (other_keeps uleb Near (λ y. refl), (other_keeps uleb StrIndex (λ y. refl), (other_keeps uleb AddrIndex (λ y. refl), (other_keeps uleb ListIndex (λ y. refl), (other_keeps uleb RangeIndex (λ y. refl), (other_keeps sleb Signed (λ y. refl), (other_keeps (counted (number 1)) Block (λ y. refl), (other_keeps (counted (number 2)) Block (λ y. refl), (other_keeps (counted (number 4)) Block (λ y. refl), (other_keeps (counted uleb) Block (λ y. refl), (other_keeps (counted uleb) Block (λ y. refl), (zstr_keeps, (refused_keeps SUPPLEMENTARY, (refused_keeps SUPPLEMENTARY, (refused_keeps SUPPLEMENTARY, tt)))))))))))))))))))))))))))))))))))))))))

indirect_keeps : (version : ℕ) (wide : Bool) → Keeps (indirect version wide)
unfolding indirect
indirect_keeps version wide i x is text e =
    let f = some_ok (uleb i) TRUNCATED (λ form. reader_of (plain_forms version wide) form.0 form.1) x is in
    let p = uleb_passes i f.0 f.1 in
    passed_later i f.0.1 x.1 text (p.0, p.2) (reader_keeps (plain_forms version wide) f.0.0 (plain_forms_keep version wide) f.0.1 x f.2 text e)

abbrev kept : ℤ → Reader
kept constant i = Ok (Signed constant, i)

kept_keeps : (constant : ℤ) → Keeps (kept constant)
kept_keeps constant i x is text e = absurd (false≢true (text_is (Signed constant) text (ap (λ (q : Value × Input). q.0) (same_ok (Signed constant, i) x is) ∙ e)))

value_keeps : (version : ℕ) (wide : Bool) (form : ℕ) (constant : ℤ) → Keeps (value_at version wide form constant)
unfolding value_at
value_keeps version wide form constant = reader_keeps ((0x16, indirect version wide) ∷ (0x21, kept constant) ∷ plain_forms version wide) form (indirect_keeps version wide, (kept_keeps constant, plain_forms_keep version wide))

-- ---- entries

-- each text among the values was passed
abbrev pub KeepTexts : Input → Input → List (ℕ × Value) → Type 0
KeepTexts i j vs = (n : ℕ) (text : List ℕ) → Contains vs (n, Inline text) → IsPassed i j text

-- the values of an entry, one after the other
pub values_keep : (u : UnitHeader) (table : List Abbrev) (ss : List Spec) (i : Input) (x : List (ℕ × Value) × Input) → values u table ss i ≡ Ok x → KeepTexts i x.1 x.0
unfolding values
values_keep u table [] i x is n text c =
    let none : Contains [] (n, Inline text) = subst (λ (vs : List (ℕ × Value)). Contains vs (n, Inline text)) (ap (λ (q : List (ℕ × Value) × Input). q.0) (sym (same_ok ([], i) x is))) c in
    absurd (omega (arith, none.1))
values_keep u table (s ∷ ss) i x is n text c =
    let v = bind_ok (value_at u.version u.wide s.form s.constant i) (λ v. values u table ss v.1 >>= λ others. Ok ((s.attribute, v.0) ∷ others.0, others.1)) x is in
    let w = bind_ok (values u table ss v.0.1) (λ others. Ok ((s.attribute, v.0.0) ∷ others.0, others.1)) x v.2 in
    let e : ((s.attribute, v.0.0) ∷ w.0.0, w.0.1) ≡ x = same_ok ((s.attribute, v.0.0) ∷ w.0.0, w.0.1) x w.2 in
    let on : w.0.1 ≡ x.1 = ap (λ (q : List (ℕ × Value) × Input). q.1) e in
    let d : Contains ((s.attribute, v.0.0) ∷ w.0.0) (n, Inline text) = subst (λ (vs : List (ℕ × Value)). Contains vs (n, Inline text)) (ap (λ (q : List (ℕ × Value) × Input). q.0) (sym e)) c in
    subst (λ (j : Input). IsPassed i j text) on (⊎_elim
    (λ (same : (s.attribute, v.0.0) ≡ (n, Inline text)).
    passed_before i v.0.1 w.0.1 text (onwards v.0.1 w.0.1 (values_move u table ss v.0.1 w.0 w.1)) (value_keeps u.version u.wide s.form s.constant i v.0 v.1 text (ap (λ (q : ℕ × Value). q.1) same)))
    (λ (later : Contains w.0.0 (n, Inline text)).
    passed_later i v.0.1 w.0.1 text (value_moves u.version u.wide s.form s.constant i v.0 v.1) (values_keep u table ss v.0.1 w.0 w.1 n text later))
    (contains_cases (s.attribute, v.0.0) w.0.0 (n, Inline text) d))

-- each text of an entry was passed
abbrev pub KeepsTexts : Input → Input → Token → Type 0
KeepsTexts i j (Null depth after) = Unit {0}
KeepsTexts i j (Entry d) = KeepTexts i j d.values
