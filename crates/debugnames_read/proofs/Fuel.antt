-- A list of entries doesn't go by how many are allowed, where those are more than the bytes that are left.
use Rattle.std.proofs.Common.{◌≡◌, ℕ, zero, suc, ◌+◌, ◌-◌, ◌*◌, ◌^◌, ◌<◌, ◌≤◌, ℤ, Bool, true, false, cond, eqb, ltb, leb, List, [], ◌∷◌, length, drop, drop-drop, Option, Some, None, Result, Ok, refl, arith, ap, sym, subst, ◌∙◌}
use Rattle.std.specs.Prelude.{find}
use Rattle.std.proofs.lemmas.List.{length-drop}
use Rattle.std.proofs.lemmas.Option.{cond_some}
use Rattle.byteorder.specs.Endian.{little_number}
use Rattle.ix_base.specs.declared.fault.Fault.{Fault}
use Rattle.ix_base.specs.Reading.{Input, number, past, offset, unsigned_leb, leb64, signed_leb64, uleb, sleb, ◌>>=◌ as ◌>>=?◌}
use Rattle.index_model.specs.declared.index_code.TheConstants.{NAMES_ENTRY_POOL}
use Rattle.index_model.specs.Meaning.{◌>>=◌, fault, some_or}
use Rattle.index_model.specs.NameAbbreviations.{Abbreviation, Attribute, Reader, Spec, as_number, by, forms, values}
use Rattle.index_model.specs.NameIndexRead.{NameHit, entries_at, entry_with, hit}
use Rattle.index_model.specs.NameTables.{Tables}
use Rattle.index_model.proofs.Meanings.{bind_some}

-- ---- what a reading leaves

-- a reading passes bytes
abbrev pub Passes : {A : Type 0} → (Input → Option (A × Input)) → Type 0
Passes {A} read = (i j : Input) (v : A) → read i ≡ Some (v, j) → (n : ℕ) × (j ≡ past n i)

past_none : (i : Input) → i ≡ past 0 i
past_none i =
    let at : i.at ≡ i.at + 0 = omega arith in
    ap (λ (n : ℕ). let j : Input = record { at = n; rest = i.rest } in j) at

pub past_past : (m n : ℕ) (i : Input) → past n (past m i) ≡ past (m + n) i
past_past m n i =
    let at : i.at + m + n ≡ i.at + (m + n) = omega arith in
    let rest : drop n (drop m i.rest) ≡ drop (m + n) i.rest = drop-drop n m i.rest in
    rw (at, rest) refl

abbrev read_as : {A : Type 0} → A → Input → Option (A × Input)
read_as v i = Some (v, i)

-- what is left
abbrev left_of : {A : Type 0} → Input → Option (A × Input) → Input
left_of d None = d
left_of d (Some x) = x.1

same_left : {A : Type 0} (v w : A) (i j : Input) → read_as v i ≡ read_as w j → i ≡ j
same_left v w i j e = ap (left_of i) e

number_passes : (n : ℕ) → Passes (number n)
number_passes n i j v e =
    let p = cond_some (leb n (length i.rest)) (little_number n i.rest, past n i) (v, j) e in
    (n, sym (ap (λ (q : ℕ × Input). q.1) p.1))

uleb_passes : Passes uleb
uleb_passes i j v e =
    let b = bind_some (leb64 i.rest) (λ n. read_as n.0 (past n.1 i)) (v, j) e in
    (b.0.1, sym (same_left b.0.0 v (past b.0.1 i) j b.2))

abbrev Signed : Type 0
Signed = Option (ℤ × ℕ)

sleb_passes : Passes sleb
sleb_passes i j v e =
    let b = bind_some (signed_leb64 i.rest) (λ n. read_as n.0 (past n.1 i)) (v, j) e in
    (b.0.1, sym (same_left b.0.0 v (past b.0.1 i) j b.2))

abbrev one_more : ℕ → ℕ × ℕ → Option (ℕ × ℕ)
one_more b high = Some (b - 128 + 128 * high.0, high.1 + 1)

-- a LEB number takes a byte
takes_some : (bs : List ℕ) (n : ℕ × ℕ) → unsigned_leb bs ≡ Some n → (1 ≤ n.1) × (1 ≤ length bs)
unfolding unsigned_leb
takes_some [] n e = absurd cc
takes_some (b ∷ bs) n e = (by (ltb b 128) e, omega arith)
  where
    by : (c : Bool) → cond c (Some (b, 1)) (unsigned_leb bs >>=? one_more b) ≡ Some n → 1 ≤ n.1
    by true e = let same : (b, 1) ≡ n = cc in omega (arith, ap (λ (p : ℕ × ℕ). p.1) same)
    by false e =
        let h = bind_some (unsigned_leb bs) (one_more b) n e in
        let same : (b - 128 + 128 * h.0.0, h.0.1 + 1) ≡ n = cc in
        omega (arith, ap (λ (p : ℕ × ℕ). p.1) same)

pub uleb_takes : (i j : Input) (v : ℕ) → uleb i ≡ Some (v, j) → length j.rest < length i.rest
uleb_takes i j v e =
    let b = bind_some (leb64 i.rest) (λ n. read_as n.0 (past n.1 i)) (v, j) e in
    let c = bind_some (unsigned_leb i.rest) (λ n. cond (ltb n.0 (2 ^ 64)) (Some n) None) b.0 b.1 in
    let p = cond_some (ltb c.0.0 (2 ^ 64)) c.0 b.0 c.2 in
    let t = takes_some i.rest c.0 c.1 in
    omega (arith, ap (λ (k : Input). length k.rest) (same_left b.0.0 v (past b.0.1 i) j b.2), length-drop b.0.1 i.rest, ap (λ (q : ℕ × ℕ). q.1) p.1, t.0, t.1)

-- ---- the values of an entry

by_passes : (read : Input → Option (ℕ × Input)) → Passes read → Passes (by read)
by_passes read passes i j v e =
    let b = bind_some (read i) (λ n. read_as (Some n.0) n.1) (v, j) e in
    let p = passes i b.0.1 b.0.0 b.1 in
    (p.0, sym (same_left (Some b.0.0) v b.0.1 j b.2) ∙ p.1)

signed_passes : Passes (λ i. sleb i >>=? λ z. read_as (as_number z.0) z.1)
signed_passes i j v e =
    let b = bind_some (sleb i) (λ z. read_as (as_number z.0) z.1) (v, j) e in
    let p = sleb_passes i b.0.1 b.0.0 b.1 in
    (p.0, sym (same_left (as_number b.0.0) v b.0.1 j b.2) ∙ p.1)

present_passes : Passes (read_as {A = Option ℕ} None)
present_passes i j v e = (0, sym (same_left None v i j e) ∙ past_none i)

abbrev AllPass : List (ℕ × Reader) → Type 0
AllPass [] = Unit {0}
AllPass (row ∷ rows) = Passes row.1 × AllPass rows

all_pass : (wide : Bool) → AllPass (forms wide)
all_pass wide = (
  by_passes (number 1) (number_passes 1),
  (
    by_passes (number 1) (number_passes 1),
    (
      by_passes (number 1) (number_passes 1),
      (
        by_passes (number 2) (number_passes 2),
        (
          by_passes (number 2) (number_passes 2),
          (
            by_passes (number 4) (number_passes 4),
            (
              by_passes (number 4) (number_passes 4),
              (
                by_passes (number 8) (number_passes 8),
                (
                  by_passes (number 8) (number_passes 8),
                  (
                    by_passes uleb uleb_passes,
                    (
                      by_passes uleb uleb_passes,
                      (
                        by_passes (offset wide) (number_passes (cond wide 8 4)),
                        (
                          by_passes (offset wide) (number_passes (cond wide 8 4)),
                          (signed_passes, (present_passes, tt)),
                        ),
                      ),
                    ),
                  ),
                ),
              ),
            ),
          ),
        ),
      ),
    ),
  ),
)

found_passes : (p : ℕ × Reader → Bool) (rows : List (ℕ × Reader)) (row : ℕ × Reader) → AllPass rows → find p rows ≡ Some row → Passes row.1
found_passes p [] row all e = absurd cc
found_passes p (r ∷ rows) row all e = elim (p r) as (λ b. cond b (Some r) (find p rows) ≡ Some row → Passes row.1) [
  | true ↦ λ h. let same : r ≡ row = cc in subst (λ (x : ℕ × Reader). Passes x.1) same all.0
  | false ↦ λ h. found_passes p rows row all.1 h
] e

module _ (wide : Bool) where
  abbrev of_form : ℕ → ℕ × Reader → Bool
  of_form form row = eqb row.0 form

  abbrev with_value : ℕ → Option ℕ → Option (List Attribute × Input) → Option (List Attribute × Input)
  with_value attribute v r = r >>=? λ others. Some ((attribute, v) ∷ others.0, others.1)

  values_pass : (ss : List Spec) → Passes (values wide ss)
  unfolding values
  values_pass [] i j vs e = (0, sym (same_left [] vs i j e) ∙ past_none i)
  values_pass (s ∷ ss) i j vs e =
      let r = bind_some (find (of_form s.form) (forms wide)) (λ row. row.1 i >>=? λ v. with_value s.attribute v.0 (values wide ss v.1)) (vs, j) e in
      let v = bind_some (r.0.1 i) (λ v. with_value s.attribute v.0 (values wide ss v.1)) (vs, j) r.2 in
      let o = bind_some (values wide ss v.0.1) (λ others. Some ((s.attribute, v.0.0) ∷ others.0, others.1)) (vs, j) v.2 in
      let here = found_passes (of_form s.form) (forms wide) r.0 (all_pass wide) r.1 i v.0.1 v.0.0 v.1 in
      let later = values_pass ss v.0.1 o.0.1 o.0.0 o.1 in
      (here.0 + later.0, sym (same_left ((s.attribute, v.0.0) ∷ o.0.0) vs o.0.1 j o.2) ∙ later.1 ∙ ap (past later.0) here.1 ∙ past_past here.0 later.0 i)

-- ---- the entries of a name

module _ (t : Tables) (abbrevs : List Abbreviation) where
  abbrev of_code : ℕ → Abbreviation → Bool
  of_code code a = eqb a.code code

  entry_passes : (code : ℕ) → Passes (entry_with t abbrevs code)
  unfolding entry_with
  entry_passes code i j h e =
      let a = bind_some (find (of_code code) abbrevs) (λ a. values t.wide a.specs i >>=? λ vs. hit t a.tag vs.0 >>=? λ h. read_as h vs.1) (h, j) e in
      let vs = bind_some (values t.wide a.0.specs i) (λ vs. hit t a.0.tag vs.0 >>=? λ h. read_as h vs.1) (h, j) a.2 in
      let o = bind_some (hit t a.0.tag vs.0.0) (λ h. read_as h vs.0.1) (h, j) vs.2 in
      let p = values_pass t.wide a.0.specs i vs.0.1 vs.0.0 vs.1 in
      (p.0, sym (same_left o.0 h vs.0.1 j o.2) ∙ p.1)

  pub entry_shrinks : (code : ℕ) (i j : Input) (h : NameHit) → entry_with t abbrevs code i ≡ Some (h, j) → length j.rest ≤ length i.rest
  entry_shrinks code i j h e =
      let p = entry_passes code i j h e in
      omega (arith, ap (λ (k : Input). length k.rest) p.1, length-drop p.0 i.rest)

  -- an entry behind its code, and the code, pass bytes
  pub entry_on : (code : ℕ) (i k j : Input) (h : NameHit) → uleb i ≡ Some (code, k) → entry_with t abbrevs code k ≡ Some (h, j) → (n : ℕ) × (j ≡ past n i)
  entry_on code i k j h u e =
      let a = uleb_passes i k code u in
      let b = entry_passes code k j h e in
      (a.0 + b.0, b.1 ∙ ap (past b.0) a.1 ∙ past_past a.0 b.0 i)

  abbrev with_hit : NameHit → Result (List NameHit) Fault → Result (List NameHit) Fault
  with_hit h r = r >>= λ others. Ok (h ∷ others)

  abbrev on_entry : ℕ → Fault → Option (NameHit × Input) → Result (List NameHit) Fault
  on_entry most wrong r = some_or r wrong >>= λ first. with_hit first.0 (entries_at t abbrevs most first.1)

  abbrev on_code : ℕ → Fault → Option (ℕ × Input) → Result (List NameHit) Fault
  on_code most wrong r = some_or r wrong >>= λ code. cond (eqb code.0 0) (Ok []) (on_entry most wrong (entry_with t abbrevs code.0 code.1))

  abbrev wrong_at : Input → Fault
  wrong_at i = fault NAMES_ENTRY_POOL i.at

  abbrev choose : Bool → Result (List NameHit) Fault → Result (List NameHit) Fault
  choose b r = cond b (Ok []) r

  pub same_entries : (m n : ℕ) (i : Input) → length i.rest < m → length i.rest < n → entries_at t abbrevs m i ≡ entries_at t abbrevs n i
  unfolding entries_at
  same_entries zero n i small other = absurd (omega (arith, small))
  same_entries (suc m) zero i small other = absurd (omega (arith, other))
  same_entries (suc m) (suc n) i small other = by_code (λ k less more. same_entries m n k less more) (uleb i) refl
    where
      by_entry : ((k : Input) → length k.rest < m → length k.rest < n → entries_at t abbrevs m k ≡ entries_at t abbrevs n k) → (j : Input) (r : Option (NameHit × Input)) → length j.rest < length i.rest → ((k : Input) (h : NameHit) → r ≡ Some (h, k) → length k.rest ≤ length j.rest) → on_entry m (wrong_at i) r ≡ on_entry n (wrong_at i) r
      by_entry later j None lt shrinks = refl
      by_entry later j (Some first) lt shrinks =
          let le : length first.1.rest ≤ length j.rest = shrinks first.1 first.0 refl in
          ap (with_hit first.0) (later first.1 (omega (arith, le, lt, small)) (omega (arith, le, lt, other)))

      by_code : ((k : Input) → length k.rest < m → length k.rest < n → entries_at t abbrevs m k ≡ entries_at t abbrevs n k) → (r : Option (ℕ × Input)) → uleb i ≡ r → on_code m (wrong_at i) r ≡ on_code n (wrong_at i) r
      by_code later None e = refl
      by_code later (Some code) e = ap (choose (eqb code.0 0)) (by_entry later code.1 (entry_with t abbrevs code.0 code.1) (uleb_takes i code.1 code.0 e) (entry_shrinks code.0 code.1))
