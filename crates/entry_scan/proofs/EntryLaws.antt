-- An entry and a null, by what was read of them.
use Rattle.std.proofs.Common.{◌≡◌, ℕ, ◌<◌, ◌≤◌, Bool, true, false, cond, leb, eqb, ◌&&◌, ◌||◌, List, [], ◌∷◌, length, map, Option, Some, None, Result, Ok, Err, refl, ap, sym, ◌∙◌, arith}
use Rattle.std.proofs.lemmas.Bool.{le-leb, lt-leb, leb-true, true≢false, and_parts}
use Rattle.ix_base.specs.declared.code.TheConstants.{TRUNCATED, BAD_CODE, BAD_ROOT, DEPTH}
use Rattle.ix_base.specs.Reading.{Input, uleb}
use Rattle.index_model.specs.declared.unit.Unit.{Unit as UnitHeader}
use Rattle.index_model.specs.Meaning.{◌>>=◌, ◌>>◌, holds_or, some_or, at_place}
use Rattle.index_model.specs.Tags.{is_root_tag}
use Rattle.index_model.specs.Abbreviations.{Abbrev, Spec, abbrev_of}
use Rattle.index_model.specs.Forms.{Value, value_at}
use Rattle.index_model.specs.Walk.{Item, Token, Null, Entry, Levels, is_null, values, entry_at, token_at, token_or_fault}
use Rattle.index_model.proofs.Meanings.{bind_ok}
use Rattle.entry_scan.specs.declared.abbreviation.Spec.{Spec as ReadSpec}
use Rattle.entry_scan.specs.declared.abbreviations.Abbrev.{Abbrev as ReadAbbrev}
use Rattle.entry_scan.specs.SeenAbbreviations.{spec_seen, abbrev_seen}
use Rattle.entry_scan.specs.Values.{unit_of_format, values_at, value_read, place_read}
use Rattle.entry_scan.specs.Tokens.{joint}
use Rattle.entry_scan.proofs.Takes.{uleb_takes}
use Rattle.entry_scan.proofs.Steady.{IsSound, slid, moved, value_sound, given_sound, bind_sound, some_ok, done, same_done, uleb_steady}

-- ---- values

abbrev Values : Type 0
Values = List (ℕ × Value)

-- a value before those that are read behind it
abbrev others_of : UnitHeader → List Abbrev → Spec → List Spec → Value → Input → Result (Values × Input) ℕ
others_of u table s ss v i = values u table ss i >>= λ others. Ok ((s.attribute, v) ∷ others.0, others.1)

values_sound : (u : UnitHeader) (table : List Abbrev) (ss : List Spec) → IsSound (values u table ss)
unfolding values
values_sound u table [] = given_sound {A = Values} []
values_sound u table (s ∷ ss) =
    bind_sound (value_at u.version u.wide s.form s.constant) (others_of u table s ss) (value_sound u.version u.wide s.form s.constant)
    (λ v. bind_sound (values u table ss) (λ others i. Ok ((s.attribute, v) ∷ others, i)) (values_sound u table ss) (λ others. given_sound {A = Values} ((s.attribute, v) ∷ others)))

-- of a unit the version and the format count alone
values_same : (u w : UnitHeader) (t r : List Abbrev) → u.version ≡ w.version → u.wide ≡ w.wide → (ss : List Spec) (i : Input) → values u t ss i ≡ values w r ss i
unfolding values
values_same u w t r a b [] i = refl
values_same u w t r a b (s ∷ ss) i =
    rw (a, b) (elim (value_at w.version w.wide s.form s.constant i) as (λ x. (x >>= λ v. others_of u t s ss v.0 v.1) ≡ (x >>= λ v. others_of w r s ss v.0 v.1)) [
      | Err code ↦ refl
      | Ok v ↦ ap (λ (x : Result (Values × Input) ℕ). x >>= λ others. Ok ((s.attribute, v.0) ∷ others.0, others.1)) (values_same u w t r a b ss v.1)
    ])

whole : (r : Result (Values × Input) ℕ) (j : Input) → place_read r ≡ Ok j → r ≡ Ok (value_read r, j)
whole (Ok x) j e =
    let same : x.1 ≡ j = cc in
    ap (λ (k : Input). let made : Values × Input = (x.0, k) in done made) same
whole (Err code) j e = absurd cc

stopped : (r : Result (Values × Input) ℕ) (code : ℕ) → place_read r ≡ Err code → r ≡ Err code
stopped (Ok x) code e = absurd cc
stopped (Err c) code e = cc

module _ (u : UnitHeader) (table : List Abbrev) (ss : List ReadSpec) (n : ℕ) (i : Input) where
  abbrev here : Result (Values × Input) ℕ
  here = values_at (record { version = u.version; wide = u.wide }) ss i

  values_joint : values u table (map spec_seen ss) (joint n i) ≡ slid n here
  values_joint =
      (values_sound u table (map spec_seen ss)).slides n i ∙ ap (λ (r : Result (Values × Input) ℕ). slid n r) (values_same u (unit_of_format (record { version = u.version; wide = u.wide })) table [] refl refl (map spec_seen ss) i)

  -- the values of an entry at a joint place
  pub joint_values : (j : Input) → place_read here ≡ Ok j → values u table (map spec_seen ss) (joint n i) ≡ Ok (value_read here, joint n j)
  joint_values j e = values_joint ∙ ap (λ (r : Result (Values × Input) ℕ). slid n r) (whole here j e)

  -- and the first of them that can't be read
  pub joint_fault : (code : ℕ) → place_read here ≡ Err code → values u table (map spec_seen ss) (joint n i) ≡ Err code
  joint_fault code e = values_joint ∙ ap (λ (r : Result (Values × Input) ℕ). slid n r) (stopped here code e)

-- ---- entries

module _ (u : UnitHeader) (table : List Abbrev) (open_ : Levels) (at : ℕ) (a : Abbrev) (i : Input) where
  pub too_deep : 1024 < open_.depth → entry_at u table open_ at a i ≡ Err DEPTH
  unfolding entry_at
  too_deep lt = rw (lt-leb open_.depth 1024 lt) refl

  module _ (shallow : open_.depth ≤ 1024) where
    pub no_root : (open_.root || is_root_tag a.tag) ≡ false → entry_at u table open_ at a i ≡ Err BAD_ROOT
    unfolding entry_at
    no_root e = rw (le-leb open_.depth 1024 shallow, e) refl

    module _ (fits : (open_.root || is_root_tag a.tag) ≡ true) where
      pub bad_value : (code : ℕ) → values u table a.specs i ≡ Err code → entry_at u table open_ at a i ≡ Err code
      unfolding entry_at
      bad_value code e = rw (le-leb open_.depth 1024 shallow, fits, e) refl

      pub entry_read : (vs : Values) (j : Input) → values u table a.specs i ≡ Ok (vs, j) → entry_at u table open_ at a i ≡ Ok (Entry (record { at = at; after = j.at; depth = open_.depth; children = a.children; tag = a.tag; values = vs }), j)
      unfolding entry_at
      entry_read vs j e = rw (le-leb open_.depth 1024 shallow, fits, e) refl

-- the code of an abbreviation doesn't matter to its entries
pub code_free : (u : UnitHeader) (table : List Abbrev) (open_ : Levels) (at code : ℕ) (a : ReadAbbrev) (i : Input) → entry_at u table open_ at (abbrev_seen code a) i ≡ entry_at u table open_ at (abbrev_seen 0 a) i
unfolding entry_at
code_free u table open_ at code a i = refl

-- ---- tokens

module _ (u : UnitHeader) (table : List Abbrev) (open_ : Levels) (i : Input) where
  pub code_cut : uleb i ≡ None → token_at u table open_ i ≡ Err TRUNCATED
  unfolding token_at
  code_cut e = rw e refl

  module _ (code : ℕ) (j : Input) (has : uleb i ≡ Some (code, j)) where
    pub null_read : (eqb code 0 && open_.root) ≡ true → token_at u table open_ i ≡ Ok (Null open_.depth j.at, j)
    unfolding token_at
    null_read e = rw (has, e) refl

    module _ (other : (eqb code 0 && open_.root) ≡ false) where
      pub code_unknown : abbrev_of table code ≡ None → token_at u table open_ i ≡ Err BAD_CODE
      unfolding token_at
      code_unknown e = rw (has, other, e) refl

      pub entry_next : (a : Abbrev) → abbrev_of table code ≡ Some a → token_at u table open_ i ≡ entry_at u table open_ i.at a j
      unfolding token_at
      entry_next a e = rw (has, other, e) refl

-- the code at a joint place
pub joint_cut : (n : ℕ) (i : Input) → uleb i ≡ None → uleb (joint n i) ≡ None
joint_cut n i e = uleb_steady.slides n i ∙ ap (λ (r : Option (ℕ × Input)). moved n r) e

pub joint_code : (n code : ℕ) (i j : Input) → uleb i ≡ Some (code, j) → uleb (joint n i) ≡ Some (code, joint n j)
joint_code n code i j e = uleb_steady.slides n i ∙ ap (λ (r : Option (ℕ × Input)). moved n r) e

-- ---- a token takes a byte at least, and a null isn't the root

abbrev Read : Type 0
Read = Result (Token × Input) ℕ

test_ok : (b : Bool) (code : ℕ) (r : Read) (t : Token × Input) → (holds_or b code >> r) ≡ Ok t → r ≡ Ok t
test_ok true code r t e = e
test_ok false code r t e = absurd cc

module _ (u : UnitHeader) (table : List Abbrev) where
  abbrev made : Levels → ℕ → Abbrev → Values × Input → Token × Input
  made open_ at a vs = (Entry (record { at = at; after = vs.1.at; depth = open_.depth; children = a.children; tag = a.tag; values = vs.0 }), vs.1)

  entry_made : (open_ : Levels) (at : ℕ) (a : Abbrev) (i : Input) (t : Token × Input) → entry_at u table open_ at a i ≡ Ok t → (vs : Values × Input) × (values u table a.specs i ≡ Ok vs) × (made open_ at a vs ≡ t)
  unfolding entry_at
  entry_made open_ at a i t e =
      let tested = test_ok (open_.root || is_root_tag a.tag) BAD_ROOT (values u table a.specs i >>= λ vs. Ok (made open_ at a vs)) t (test_ok (leb open_.depth 1024) DEPTH (holds_or (open_.root || is_root_tag a.tag) BAD_ROOT >> (values u table a.specs i >>= λ vs. Ok (made open_ at a vs))) t e) in
      let h = bind_ok (values u table a.specs i) (λ vs. Ok (made open_ at a vs)) t tested in
      (h.0, h.1, same_done (made open_ at a h.0) t h.2)

  entry_shrinks : (open_ : Levels) (at : ℕ) (a : Abbrev) (i : Input) (t : Token × Input) → entry_at u table open_ at a i ≡ Ok t → (length t.1.rest ≤ length i.rest) × (is_null t.0 ≡ false)
  entry_shrinks open_ at a i t e =
      let h = entry_made open_ at a i t e in
      let b = (values_sound u table a.specs).shrinks i h.0 h.1 in
      let l = ap (λ (q : Token × Input). length q.1.rest) h.2 in
      (omega (arith, b, l), sym (ap (λ (q : Token × Input). is_null q.0) h.2))

  abbrev entry_by : Levels → ℕ → ℕ × Input → Read
  entry_by open_ at c = some_or (abbrev_of table c.0) BAD_CODE >>= λ a. entry_at u table open_ at a c.1

  which : (b : Bool) (open_ : Levels) (at : ℕ) (c : ℕ × Input) (t : Token × Input) → cond b (Ok (Null open_.depth c.1.at, c.1)) (entry_by open_ at c) ≡ Ok t → (length t.1.rest ≤ length c.1.rest) × (is_null t.0 ≡ true → b ≡ true)
  which true open_ at c t e =
      let null : Token × Input = (Null open_.depth c.1.at, c.1) in
      (omega (arith, ap (λ (q : Token × Input). length q.1.rest) (same_done null t e)), λ h. refl)
  which false open_ at c t e =
      let h = bind_ok (some_or (abbrev_of table c.0) BAD_CODE) (λ a. entry_at u table open_ at a c.1) t e in
      let s = entry_shrinks open_ at h.0 c.1 t h.2 in
      (s.0, λ n. absurd (let no = s.1 in cc))

  token_facts : (open_ : Levels) (i : Input) (t : Token × Input) → token_at u table open_ i ≡ Ok t → (length t.1.rest < length i.rest) × (is_null t.0 ≡ true → open_.root ≡ true)
  unfolding token_at
  token_facts open_ i t e =
      let c = bind_ok (some_or (uleb i) TRUNCATED) (λ c. cond (eqb c.0 0 && open_.root) (Ok (Null open_.depth c.1.at, c.1)) (entry_by open_ i.at c)) t e in
      let takes = uleb_takes i c.0 (some_ok (uleb i) TRUNCATED c.0 c.1) in
      let w = which (eqb c.0.0 0 && open_.root) open_ i.at c.0 t c.2 in
      (omega (arith, takes, w.0), λ n. (and_parts (eqb c.0.0 0) open_.root (w.1 n)).1)

  placed_ok : (place : ℕ) (r : Read) (t : Token × Input) → at_place place r ≡ Ok t → r ≡ Ok t
  placed_ok place (Ok x) t e = cc
  placed_ok place (Err code) t e = absurd cc

  pub advances : (open_ : Levels) (i : Input) (t : Token × Input) → token_or_fault u table open_ i ≡ Ok t → length t.1.rest < length i.rest
  advances open_ i t e = (token_facts open_ i t (placed_ok i.at (token_at u table open_ i) t e)).0

  pub null_below_root : (open_ : Levels) (i : Input) (t : Token × Input) → token_or_fault u table open_ i ≡ Ok t → is_null t.0 ≡ true → open_.root ≡ true
  null_below_root open_ i t e = (token_facts open_ i t (placed_ok i.at (token_at u table open_ i) t e)).1

  -- an entry isn't deeper than the limit
  tested : (b : Bool) (code : ℕ) (r : Read) (t : Token × Input) → (holds_or b code >> r) ≡ Ok t → b ≡ true
  tested true code r t e = refl
  tested false code r t e = absurd cc

  abbrev depth_of : Token → ℕ
  depth_of (Null depth after) = depth
  depth_of (Entry d) = d.depth

  shallow_made : (open_ : Levels) (at : ℕ) (a : Abbrev) (i : Input) (t : Token × Input) → entry_at u table open_ at a i ≡ Ok t → depth_of t.0 ≤ 1024
  unfolding entry_at
  shallow_made open_ at a i t e =
      let h = entry_made open_ at a i t e in
      let b = tested (leb open_.depth 1024) DEPTH (holds_or (open_.root || is_root_tag a.tag) BAD_ROOT >> (values u table a.specs i >>= λ vs. Ok (made open_ at a vs))) t e in
      let n = leb-true open_.depth 1024 b in
      omega (arith, n, ap (λ (q : Token × Input). depth_of q.0) h.2)

  pub shallow_token : (open_ : Levels) (i : Input) (d : Item) (next : Input) → token_or_fault u table open_ i ≡ Ok (Entry d, next) → d.depth ≤ 1024
  unfolding token_at
  shallow_token open_ i d next e =
      let t : Token × Input = (Entry d, next) in
      let is = placed_ok i.at (token_at u table open_ i) t e in
      let c = bind_ok (some_or (uleb i) TRUNCATED) (λ c. cond (eqb c.0 0 && open_.root) (Ok (Null open_.depth c.1.at, c.1)) (entry_by open_ i.at c)) t is in
      either (eqb c.0.0 0 && open_.root) c.0 c.2
    where
      either : (b : Bool) (c : ℕ × Input) → cond b (Ok (Null open_.depth c.1.at, c.1)) (entry_by open_ i.at c) ≡ Ok (Entry d, next) → d.depth ≤ 1024
      either true c e = absurd (true≢false (ap (λ (q : Token × Input). is_null q.0) (same_done (Null open_.depth c.1.at, c.1) (Entry d, next) e)))
      either false c e = let h = bind_ok (some_or (abbrev_of table c.0) BAD_CODE) (λ a. entry_at u table open_ i.at a c.1) (Entry d, next) e in shallow_made open_ i.at h.0 c.1 (Entry d, next) h.2
