-- What a unit takes of its section.
use Rattle.std.proofs.Common.{◌≡◌, ℕ, ◌+◌, ◌-◌, ◌<◌, ◌≤◌, Bool, true, false, cond, leb, ltb, eqb, List, length, take, drop, Option, Some, None, Ok, refl, sym, ap, subst, ◌∙◌, arith, length-drop}
use Rattle.byteorder.specs.Endian.{little_number}
use Rattle.std.proofs.lemmas.Bool.{leb-true}
use Rattle.std.proofs.lemmas.List.{drop-drop}
use Rattle.std.proofs.lemmas.Option.{cond_some, same_Some}
use Rattle.ix_base.specs.declared.code.TheConstants.{UNIT_LENGTH, TOO_MANY_UNITS}
use Rattle.ix_base.specs.declared.limits.TheConstants.{MAX_UNITS}
use Rattle.ix_base.specs.Reading.{Input, Length, number, part, past, initial_length, ◌>>=◌ as ◌>>=?◌}
use Rattle.index_model.specs.declared.unit.Part.{Part}
use Rattle.index_model.specs.declared.unit.Unit.{Unit as UnitHeader}
use Rattle.index_model.specs.Meaning.{fault}
use Rattle.index_model.specs.Units.{Head, head, next_unit}
use Rattle.index_model.proofs.TilingLaws.{Advances}
use Rattle.index_model.proofs.Meanings.{bind_ok, holds_ok, some_ok, bind_some, same_ok}

-- so many bytes were there, and were passed
pub record Passes (n : ℕ) (i next : Input) : Type 0 where
  pub there : n ≤ length i.rest
  pub on : past n i ≡ next

pub number_passes : (n : ℕ) (i : Input) (x : ℕ × Input) → number n i ≡ Some x → Passes n i x.1
number_passes n i x is =
    let p = cond_some (leb n (length i.rest)) (little_number n i.rest, past n i) x is in
    record { there = leb-true _ _ p.0; on = ap (λ (p : ℕ × Input). p.1) p.1 }

part_passes : (n : ℕ) (i : Input) (x : Input × Input) → part n i ≡ Some x → Passes n i x.1
part_passes n i x is =
    let p = cond_some (leb n (length i.rest)) (record { at = i.at; rest = take n i.rest }, past n i) x is in
    record { there = leb-true _ _ p.0; on = ap (λ (p : Input × Input). p.1) p.1 }

abbrev made : ℕ → List ℕ → Input
made at rest = record { at = at; rest = rest }

pub past_none : (i : Input) → past 0 i ≡ i
past_none i = ap (λ (x : ℕ). made x i.rest) (let e : i.at + 0 ≡ i.at = omega arith in e)

past_past : (m n : ℕ) (i : Input) → past (m + n) i ≡ past n (past m i)
past_past m n i =
    let a : i.at + (m + n) ≡ i.at + m + n = omega arith in
    let r : drop (m + n) i.rest ≡ drop n (drop m i.rest) = sym (drop-drop n m i.rest) in
    ap (λ (x : ℕ). made x (drop (m + n) i.rest)) a ∙ ap (made (i.at + m + n)) r

-- one after the other
pub passes_on : (m n : ℕ) (i j k : Input) → Passes m i j → Passes n j k → Passes (m + n) i k
passes_on m n i j k a b =
    let r : drop m i.rest ≡ j.rest = ap (λ (x : Input). x.rest) a.on in
    record { there = omega (arith, a.there, b.there, ap (λ (x : List ℕ). length x) r, length-drop m i.rest); on = past_past m n i ∙ ap (past n) a.on ∙ b.on }

abbrev pub PassesSome : Input → Input → Type 0
PassesSome i j = (m : ℕ) × (0 < m) × Passes m i j

wide : Input → Option (Length × Input)
wide i = number 8 i >>=? λ long. Some (record { length = long.0; wide = true }, long.1)

-- the 64-bit length behind the first four bytes
wide_passes : (i : Input) (short : ℕ × Input) (x : Length × Input) → Passes 4 i short.1 → wide short.1 ≡ Some x → PassesSome i x.1
unfolding wide
wide_passes i short x h is =
    let l = bind_some (number 8 short.1) (λ long. Some (record { length = long.0; wide = true }, long.1)) x is in
    let r : l.0.1 ≡ x.1 = ap (λ (p : Length × Input). p.1) (same_Some (record { length = l.0.0; wide = true }, l.0.1) x l.2) in
    (12, omega arith, subst (Passes 12 i) r (passes_on 4 8 i short.1 l.0.1 h (number_passes 8 short.1 l.0 l.1)))

either : (b c : Bool) (i : Input) (short : ℕ × Input) (x : Length × Input) → Passes 4 i short.1 → cond b (Some (record { length = short.0; wide = false }, short.1)) (cond c (wide short.1) None) ≡ Some x → PassesSome i x.1
either true c i short x h is = (4, omega arith, subst (Passes 4 i) (ap (λ (p : Length × Input). p.1) (same_Some (record { length = short.0; wide = false }, short.1) x is)) h)
either false true i short x h is = wide_passes i short x h is
either false false i short x h is = absurd cc

pub initial_passes : (i : Input) (x : Length × Input) → initial_length i ≡ Some x → PassesSome i x.1
unfolding initial_length wide
initial_passes i x is =
    let s = bind_some (number 4 i) (λ short. cond (ltb short.0 0xFFFFFFF0) (Some (record { length = short.0; wide = false }, short.1)) (cond (eqb short.0 0xFFFFFFFF) (wide short.1) None)) x is in
    either (ltb s.0.0 0xFFFFFFF0) (eqb s.0.0 0xFFFFFFFF) i s.0 x (number_passes 4 i s.0 s.1) s.2

-- the unit that was read takes its length of bytes
pub record Takes (section : Part) (base : ℕ) (i : Input) (x : UnitHeader × Input) : Type 0 where
  pub part : x.0.part ≡ section
  pub start : x.0.start ≡ base + i.at
  pub some : 0 < x.0.length
  pub passes : Passes x.0.length i x.1

module _ (section : Part) (base k : ℕ) (i : Input) where
  abbrev unit : Length × Input → Input × Input → Head × Input → UnitHeader
  unit len own h = record {
    start = base + i.at;
    part = section;
    length = own.1.at - i.at;
    version = h.0.version;
    wide = len.0.wide;
    sort = h.0.fields.sort;
    «abbrev» = h.0.fields.abbrev_offset;
    body = h.1.at - i.at;
    signature = h.0.ending.signature;
    type_offset = h.0.ending.type_offset;
  }

  takes : (len : Length × Input) (own : Input × Input) (h : Head × Input) → PassesSome i len.1 → Passes len.0.length len.1 own.1 → Takes section base i (unit len own h, own.1)
  takes len own h a b =
      let all = passes_on a.0 len.0.length i len.1 own.1 a.2 b in
      let e : own.1.at - i.at ≡ a.0 + len.0.length = omega (arith, ap (λ (x : Input). x.at) all.on) in
      record { part = refl; start = refl; some = omega (arith, a.1); passes = subst (λ (n : ℕ). Passes n i own.1) (sym e) all }

  pub unit_takes : (x : UnitHeader × Input) → next_unit section base k i ≡ Ok x → Takes section base i x
  unfolding next_unit
  unit_takes x is =
      let place = base + i.at in
      let l = some_ok (initial_length i) (fault UNIT_LENGTH place) _ x is in
      let o = some_ok (part l.0.0.length l.0.1) (fault UNIT_LENGTH place) _ x l.2 in
      let h = bind_ok (head section place l.0.0.wide o.0.0) _ x o.2 in
      let t = holds_ok (ltb k MAX_UNITS) (fault TOO_MANY_UNITS place) _ x h.2 in
      subst (Takes section base i) (same_ok (unit l.0 o.0 h.0, o.0.1) x t.1) (takes l.0 o.0 h.0 (initial_passes i l.0 l.1) (part_passes l.0.0.length l.0.1 o.0 o.1))

-- each unit takes a byte at least
pub unit_advances : (section : Part) (base : ℕ) → Advances (next_unit section base)
unit_advances section base k i x is =
    let t = unit_takes section base k i x is in
    omega (arith, t.some, t.passes.there, length-drop x.0.length i.rest, ap (λ (j : Input). length j.rest) t.passes.on)
