-- What the values of an entry take of its unit.
use Rattle.std.proofs.Common.{◌≡◌, ℕ, ◌+◌, ◌*◌, ◌-◌, ◌^◌, ◌<◌, ◌≤◌, ℤ, pos, ◌+ℤ◌, ◌-ℤ◌, ◌*ℤ◌, Bool, true, false, cond, leb, ltb, eqb, List, [], ◌∷◌, length, take, Option, Some, None, Ok, sym, ap, subst, ◌∙◌, arith, length-take}
use Rattle.std.specs.Prelude.{position}
use Rattle.std.proofs.lemmas.Bool.{leb-true}
use Rattle.std.proofs.lemmas.List.Quantifiers.{position-Some}
use Rattle.std.proofs.lemmas.Option.{cond_some, same_Some}
use Rattle.ix_base.specs.declared.code.TheConstants.{TRUNCATED, UNKNOWN_FORM, SUPPLEMENTARY}
use Rattle.ix_base.specs.Reading.{Input, bytes, skip, number, unsigned_leb, leb64, uleb, signed_leb, is_in_64, signed_leb64, sleb, before_zero, zstr, offset, past, ◌>>=◌ as ◌>>=?◌}
use Rattle.index_model.specs.declared.unit.Unit.{Unit as UnitHeader}
use Rattle.index_model.specs.Meaning.{◌>>=◌}
use Rattle.index_model.specs.Forms.{Value, Reader, by, refused, plain_forms, reader_of, indirect, value_at, Signed, Flag}
use Rattle.index_model.specs.Abbreviations.{Abbrev, Spec}
use Rattle.index_model.specs.Walk.{values}
use Rattle.index_model.proofs.Meanings.{bind_ok, some_ok, bind_some, same_ok}
use Rattle.index_model.proofs.UnitReads.{Passes, passes_on, number_passes, past_none}

-- some bytes were passed, or none
abbrev pub Goes : Input → Input → Type 0
Goes i j = (n : ℕ) × Passes n i j

pub goes_on : (i j k : Input) → Goes i j → Goes j k → Goes i k
goes_on i j k a b = (a.0 + b.0, passes_on a.0 b.0 i j k a.1 b.1)

pub stays : (i : Input) → Goes i i
stays i = (0, record { there = omega arith; on = past_none i })

-- a reader only passes bytes
abbrev Moves : {A : Type 0} → (Input → Option (A × Input)) → Type 0
Moves {A = A} read = (i : Input) (x : A × Input) → read i ≡ Some x → Goes i x.1

number_moves : (n : ℕ) → Moves (number n)
number_moves n i x is = (n, number_passes n i x is)

bytes_moves : (n : ℕ) → Moves (bytes n)
bytes_moves n i x is =
    let p = cond_some (leb n (length i.rest)) (take n i.rest, past n i) x is in
    (n, record { there = leb-true _ _ p.0; on = ap (λ (p : List ℕ × Input). p.1) p.1 })

skip_moves : (n : ℕ) → Moves (skip n)
skip_moves n i x is =
    let p = cond_some (leb n (length i.rest)) (record {}, past n i) x is in
    (n, record { there = leb-true _ _ p.0; on = ap (λ (p : record {} × Input). p.1) p.1 })

offset_moves : (wide : Bool) → Moves (offset wide)
offset_moves true = number_moves 8
offset_moves false = number_moves 4

-- ---- LEB numbers

abbrev IsCount : List ℕ → ℕ → Type 0
IsCount bs n = (1 ≤ n) × (n ≤ length bs)

module _ (b : ℕ) (bs : List ℕ) where
  abbrev longer : Option (ℕ × ℕ)
  longer = unsigned_leb bs >>=? λ high. Some (b - 128 + 128 * high.0, high.1 + 1)

  one_or_more : (c : Bool) (x : ℕ × ℕ) → ((y : ℕ × ℕ) → unsigned_leb bs ≡ Some y → IsCount bs y.1) → cond c (Some (b, 1)) longer ≡ Some x → IsCount (b ∷ bs) x.1
  one_or_more true x more e = let n = ap (λ (p : ℕ × ℕ). p.1) (same_Some (b, 1) x e) in (omega (arith, n), omega (arith, n))
  one_or_more false x more e =
      let h = bind_some (unsigned_leb bs) (λ high. Some (b - 128 + 128 * high.0, high.1 + 1)) x e in
      let n = ap (λ (p : ℕ × ℕ). p.1) (same_Some (b - 128 + 128 * h.0.0, h.0.1 + 1) x h.2) in
      let r = more h.0 h.1 in
      (omega (arith, n, r.0), omega (arith, n, r.1))

leb_count : (bs : List ℕ) (x : ℕ × ℕ) → unsigned_leb bs ≡ Some x → IsCount bs x.1
unfolding unsigned_leb
leb_count [] x is = absurd cc
leb_count (b ∷ bs) x is = one_or_more b bs (ltb b 128) x (leb_count bs) is

pub uleb_passes : (i : Input) (x : ℕ × Input) → uleb i ≡ Some x → (n : ℕ) × (0 < n) × Passes n i x.1
uleb_passes i x is =
    let n = bind_some (leb64 i.rest) (λ n. Some (n.0, past n.1 i)) x is in
    let m = bind_some (unsigned_leb i.rest) (λ n. cond (ltb n.0 (2 ^ 64)) (Some n) None) n.0 n.1 in
    let p = cond_some (ltb m.0.0 (2 ^ 64)) m.0 n.0 m.2 in
    let c = leb_count i.rest m.0 m.1 in
    let k : m.0.1 ≡ n.0.1 = ap (λ (q : ℕ × ℕ). q.1) p.1 in
    (n.0.1, omega (arith, c.0), record { there = omega (arith, c.1); on = ap (λ (q : ℕ × Input). q.1) (same_Some (n.0.0, past n.0.1 i) x n.2) })

uleb_moves : Moves uleb
uleb_moves i x is = let h = uleb_passes i x is in (h.0, h.2)

module _ (b : ℕ) (bs : List ℕ) where
  abbrev signed_longer : Option (ℤ × ℕ)
  signed_longer = signed_leb bs >>=? λ high. Some (pos (b - 128) +ℤ (pos 128 *ℤ high.0), high.1 + 1)

  signed_one_or_more : (c : Bool) (last : ℤ) (x : ℤ × ℕ) → ((y : ℤ × ℕ) → signed_leb bs ≡ Some y → IsCount bs y.1) → cond c (Some (last, 1)) signed_longer ≡ Some x → IsCount (b ∷ bs) x.1
  signed_one_or_more true last x more e = let n = ap (λ (p : ℤ × ℕ). p.1) (same_Some (last, 1) x e) in (omega (arith, n), omega (arith, n))
  signed_one_or_more false last x more e =
      let h = bind_some (signed_leb bs) (λ high. Some (pos (b - 128) +ℤ (pos 128 *ℤ high.0), high.1 + 1)) x e in
      let n = ap (λ (p : ℤ × ℕ). p.1) (same_Some (pos (b - 128) +ℤ (pos 128 *ℤ h.0.0), h.0.1 + 1) x h.2) in
      let r = more h.0 h.1 in
      (omega (arith, n, r.0), omega (arith, n, r.1))

signed_leb_count : (bs : List ℕ) (x : ℤ × ℕ) → signed_leb bs ≡ Some x → IsCount bs x.1
unfolding signed_leb
signed_leb_count [] x is = absurd cc
signed_leb_count (b ∷ bs) x is = signed_one_or_more b bs (ltb b 128) (cond (ltb b 64) (pos b) (pos b -ℤ pos 128)) x (signed_leb_count bs) is

sleb_moves : Moves sleb
sleb_moves i x is =
    let n = bind_some (signed_leb64 i.rest) (λ n. Some (n.0, past n.1 i)) x is in
    let m = bind_some (signed_leb i.rest) (λ n. cond (is_in_64 n.0) (Some n) None) n.0 n.1 in
    let p = cond_some (is_in_64 m.0.0) m.0 n.0 m.2 in
    let c = signed_leb_count i.rest m.0 m.1 in
    let k : m.0.1 ≡ n.0.1 = ap (λ (q : ℤ × ℕ). q.1) p.1 in
    (n.0.1, record { there = omega (arith, c.1); on = ap (λ (q : ℤ × Input). q.1) (same_Some (n.0.0, past n.0.1 i) x n.2) })

-- ---- strings and blocks

zstr_moves : Moves zstr
zstr_moves i x is =
    let t = bind_some (before_zero i.rest) (λ text. Some (text, past (length text + 1) i)) x is in
    let k = bind_some (position (λ b. eqb b 0) i.rest) (λ k. Some (take k i.rest)) t.0 t.1 in
    let inside = position-Some (λ b. eqb b 0) i.rest k.0 0 k.1 in
    let n : length t.0 ≡ k.0 = ap (λ (bs : List ℕ). length bs) (sym (same_Some (take k.0 i.rest) t.0 k.2)) ∙ (let e : length (take k.0 i.rest) ≡ k.0 = omega (arith, length-take k.0 i.rest, inside.0) in e) in
    (length t.0 + 1, record { there = omega (arith, n, inside.0); on = ap (λ (q : List ℕ × Input). q.1) (same_Some (t.0, past (length t.0 + 1) i) x t.2) })

counted_moves : (count : Input → Option (ℕ × Input)) → Moves count → (i : Input) (x : List ℕ × Input) → (count i >>=? λ n. bytes n.0 n.1) ≡ Some x → Goes i x.1
counted_moves count moves i x is =
    let n = bind_some (count i) (λ n. bytes n.0 n.1) x is in
    goes_on i n.0.1 x.1 (moves i n.0 n.1) (bytes_moves n.0.0 n.0.1 x n.2)

nothing_moves : (i : Input) (x : record {} × Input) → Some (record {}, i) ≡ Some x → Goes i x.1
nothing_moves i x is = subst (Goes i) (ap (λ (q : record {} × Input). q.1) (same_Some (record {}, i) x is)) (stays i)

section_reference_moves : (version : Bool) (wide : Bool) (i : Input) (x : ℕ × Input) → cond version (number 8 i) (offset wide i) ≡ Some x → Goes i x.1
section_reference_moves true wide = number_moves 8
section_reference_moves false wide = offset_moves wide

-- ---- forms

-- a reader of values only passes bytes
abbrev ReaderMoves : Reader → Type 0
ReaderMoves r = (i : Input) (x : Value × Input) → r i ≡ Ok x → Goes i x.1

by_moves : {A : Type 0} (read : Input → Option (A × Input)) (make : A → Value) → Moves read → ReaderMoves (by read make)
by_moves read make moves i x is =
    let v = some_ok (read i) TRUNCATED (λ y. Ok (make y.0, y.1)) x is in
    subst (Goes i) (ap (λ (q : Value × Input). q.1) (same_ok (make v.0.0, v.0.1) x v.2)) (moves i v.0 v.1)

refused_moves : (code : ℕ) → ReaderMoves (refused code)
refused_moves code i x is = absurd cc

abbrev AllMove : List (ℕ × Reader) → Type 0
AllMove [] = Unit {0}
AllMove (row ∷ rows) = ReaderMoves row.1 × AllMove rows

chosen : (c : Bool) (a b : Reader) → ReaderMoves a → ReaderMoves b → ReaderMoves (cond c a b)
chosen true a b m n = m
chosen false a b m n = n

reader_moves : (rows : List (ℕ × Reader)) (form : ℕ) → AllMove rows → ReaderMoves (reader_of rows form)
reader_moves [] form all = refused_moves UNKNOWN_FORM
reader_moves (row ∷ rows) form all = chosen (eqb row.0 form) row.1 (reader_of rows form) all.0 (reader_moves rows form all.1)

plain_forms_move : (version : ℕ) (wide : Bool) → AllMove (plain_forms version wide)
plain_forms_move version wide = (by_moves _ (λ _. Flag true) nothing_moves, (by_moves _ _ (number_moves 1), (by_moves _ _ (number_moves 1), (by_moves _ _ (number_moves 1), (by_moves _ _ (number_moves 1), (by_moves _ _ (number_moves 1), (by_moves _ _ (number_moves 2), (by_moves _ _ (number_moves 2), (by_moves _ _ (number_moves 2), (by_moves _ _ (number_moves 2), (by_moves _ _ (number_moves 3), (by_moves _ _ (number_moves 3), (by_moves _ _ (number_moves 4), (by_moves _ _ (number_moves 4), (by_moves _ _ (number_moves 4), (by_moves _ _ (number_moves 4), (by_moves _ _ (number_moves 8), (by_moves _ _ (number_moves 8), (by_moves _ _ (number_moves 8), (by_moves _ _ (number_moves 8), (by_moves _ _ (skip_moves 16), (by_moves _ _ (offset_moves wide), (by_moves _ _ (section_reference_moves (eqb version 2) wide), (by_moves _ _ (offset_moves wide), (by_moves _ _ (offset_moves wide), (by_moves _ _ uleb_moves, (by_moves _ _ uleb_moves, (by_moves _ _ uleb_moves, (by_moves _ _ uleb_moves, (by_moves _ _ uleb_moves, (by_moves _ _ uleb_moves, (by_moves _ _ sleb_moves, (by_moves _ _ (counted_moves (number 1) (number_moves 1)), (by_moves _ _ (counted_moves (number 2) (number_moves 2)), (by_moves _ _ (counted_moves (number 4) (number_moves 4)), (by_moves _ _ (counted_moves uleb uleb_moves), (by_moves _ _ (counted_moves uleb uleb_moves), (by_moves _ _ zstr_moves, (refused_moves SUPPLEMENTARY, (refused_moves SUPPLEMENTARY, (refused_moves SUPPLEMENTARY, tt)))))))))))))))))))))))))))))))))))))))))

indirect_moves : (version : ℕ) (wide : Bool) → ReaderMoves (indirect version wide)
unfolding indirect
indirect_moves version wide i x is =
    let f = some_ok (uleb i) TRUNCATED (λ form. reader_of (plain_forms version wide) form.0 form.1) x is in
    goes_on i f.0.1 x.1 (uleb_moves i f.0 f.1) (reader_moves (plain_forms version wide) f.0.0 (plain_forms_move version wide) f.0.1 x f.2)

abbrev kept : ℤ → Reader
kept constant i = Ok (Signed constant, i)

kept_moves : (constant : ℤ) (i : Input) (x : Value × Input) → kept constant i ≡ Ok x → Goes i x.1
kept_moves constant i x is = subst (Goes i) (ap (λ (q : Value × Input). q.1) (same_ok (Signed constant, i) x is)) (stays i)

pub value_moves : (version : ℕ) (wide : Bool) (form : ℕ) (constant : ℤ) → ReaderMoves (value_at version wide form constant)
unfolding value_at
value_moves version wide form constant = reader_moves ((0x16, indirect version wide) ∷ (0x21, kept constant) ∷ plain_forms version wide) form (indirect_moves version wide, (kept_moves constant, plain_forms_move version wide))

-- the values of an entry, one after the other
pub values_move : (u : UnitHeader) (table : List Abbrev) (ss : List Spec) (i : Input) (x : List (ℕ × Value) × Input) → values u table ss i ≡ Ok x → Goes i x.1
unfolding values
values_move u table [] i x is = subst (Goes i) (ap (λ (q : List (ℕ × Value) × Input). q.1) (same_ok ([], i) x is)) (stays i)
values_move u table (s ∷ ss) i x is =
    let v = bind_ok (value_at u.version u.wide s.form s.constant i) (λ v. values u table ss v.1 >>= λ others. Ok ((s.attribute, v.0) ∷ others.0, others.1)) x is in
    let w = bind_ok (values u table ss v.0.1) (λ others. Ok ((s.attribute, v.0.0) ∷ others.0, others.1)) x v.2 in
    let e : w.0.1 ≡ x.1 = ap (λ (q : List (ℕ × Value) × Input). q.1) (same_ok ((s.attribute, v.0.0) ∷ w.0.0, w.0.1) x w.2) in
    goes_on i v.0.1 x.1 (value_moves u.version u.wide s.form s.constant i v.0 v.1) (subst (Goes v.0.1) e (values_move u table ss v.0.1 w.0 w.1))
