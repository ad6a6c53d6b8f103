-- What the tokens of a walk take of their unit.
use Rattle.std.proofs.Common.{◌≡◌, ℕ, zero, suc, ◌+◌, ◌<◌, Bool, true, false, cond, leb, eqb, ◌&&◌, ◌||◌, List, [], ◌∷◌, length, Result, Ok, Err, refl, sym, subst, arith}
use Rattle.std.proofs.lemmas.Bool.{and_parts}
use Rattle.ix_base.specs.declared.fault.Fault.{Fault}
use Rattle.ix_base.specs.declared.code.TheConstants.{TRUNCATED, BAD_CODE, BAD_ROOT, DEPTH}
use Rattle.ix_base.specs.declared.limits.TheConstants.{MAX_DEPTH}
use Rattle.ix_base.specs.Reading.{Input, uleb}
use Rattle.index_model.specs.declared.unit.Unit.{Unit as UnitHeader}
use Rattle.index_model.specs.Meaning.{◌>>=◌, ◌>>◌, holds_or, some_or}
use Rattle.index_model.specs.Tags.{is_root_tag}
use Rattle.index_model.specs.Forms.{Value}
use Rattle.index_model.specs.Abbreviations.{Abbrev, abbrev_of}
use Rattle.index_model.specs.Walk.{Token, Null, Entry, Levels, Walk, is_null, is_over, values, entry_at, token_at, token_or_fault, behind, tail_of, walk_of}
use Rattle.index_model.specs.WalkLeft.{levels_after, left_from, left}
use Rattle.index_model.proofs.Meanings.{bind_ok, holds_ok, some_ok, same_ok, at_place_ok}
use Rattle.index_model.proofs.UnitReads.{Passes, passes_on}
use Rattle.index_model.proofs.ValueReads.{uleb_passes, values_move}
use Rattle.index_model.proofs.TextReads.{KeepsTexts, values_keep, passed_later}
use Rattle.index_model.proofs.WalkLaws.{walk_is_left}

-- what a token says of the levels that are open, and of where it begins and ends
abbrev pub Says : Levels → Input → Input → Token → Type 0
Says open_ i next (Null depth after) = (open_.root ≡ true) × (depth ≡ open_.depth) × (after ≡ next.at)
Says open_ i next (Entry d) = (d.at ≡ i.at) × (d.depth ≡ open_.depth) × (d.after ≡ next.at)

-- a token that was read
pub record IsToken (open_ : Levels) (i next : Input) (t : Token) : Type 0 where
  pub bytes : ℕ
  pub some : 0 < bytes
  pub passes : Passes bytes i next
  pub says : Says open_ i next t
  pub texts : KeepsTexts i next t

module _ (u : UnitHeader) (table : List Abbrev) (open_ : Levels) (i : Input) where
  abbrev entry : Abbrev → List (ℕ × Value) × Input → Token
  entry a vs = Entry (record { at = i.at; after = vs.1.at; depth = open_.depth; children = a.children; tag = a.tag; values = vs.0 })

  -- an entry ends where its values end
  entry_is : (a : Abbrev) (j : Input) (n : ℕ) (x : Token × Input) → 0 < n → Passes n i j → entry_at u table open_ i.at a j ≡ Ok x → IsToken open_ i x.1 x.0
  unfolding entry_at
  entry_is a j n x some p is =
      let d = holds_ok (leb open_.depth MAX_DEPTH) DEPTH (holds_or (open_.root || is_root_tag a.tag) BAD_ROOT >> (values u table a.specs j >>= λ vs. Ok (entry a vs, vs.1))) x is in
      let r = holds_ok (open_.root || is_root_tag a.tag) BAD_ROOT (values u table a.specs j >>= λ vs. Ok (entry a vs, vs.1)) x d.1 in
      let v = bind_ok (values u table a.specs j) (λ vs. Ok (entry a vs, vs.1)) x r.1 in
      let g = values_move u table a.specs j v.0 v.1 in
      let made : IsToken open_ i v.0.1 (entry a v.0) = record { bytes = n + g.0; some = omega (arith, some); passes = passes_on n g.0 i j v.0.1 p g.1; says = (refl, refl, refl); texts = λ m text c. passed_later i j v.0.1 text (n, p) (values_keep u table a.specs j v.0 v.1 m text c) } in
      subst (λ (y : Token × Input). IsToken open_ i y.1 y.0) (same_ok (entry a v.0, v.0.1) x v.2) made

  abbrev null_or : Bool → ℕ × Input → Result (Token × Input) ℕ
  null_or null code = cond null (Ok (Null open_.depth code.1.at, code.1)) (some_or (abbrev_of table code.0) BAD_CODE >>= λ a. entry_at u table open_ i.at a code.1)

  null_or_entry : (null : Bool) (code : ℕ × Input) (n : ℕ) (x : Token × Input) → (null ≡ true → open_.root ≡ true) → 0 < n → Passes n i code.1 → null_or null code ≡ Ok x → IsToken open_ i x.1 x.0
  null_or_entry true code n x root some p is = subst (λ (y : Token × Input). IsToken open_ i y.1 y.0) (same_ok (Null open_.depth code.1.at, code.1) x is) (record { bytes = n; some = some; passes = p; says = (root refl, refl, refl); texts = tt })
  null_or_entry false code n x root some p is =
      let a = some_ok (abbrev_of table code.0) BAD_CODE (λ a. entry_at u table open_ i.at a code.1) x is in
      entry_is a.0 code.1 n x some p a.2

  token_is : (x : Token × Input) → token_at u table open_ i ≡ Ok x → IsToken open_ i x.1 x.0
  unfolding token_at
  token_is x is =
      let c = some_ok (uleb i) TRUNCATED (λ code. null_or (eqb code.0 0 && open_.root) code) x is in
      let p = uleb_passes i c.0 c.1 in
      null_or_entry (eqb c.0.0 0 && open_.root) c.0 p.0 x (λ null. (and_parts (eqb c.0.0 0) open_.root null).1) p.1 p.2 c.2

  pub read_is : (x : Token × Input) → token_or_fault u table open_ i ≡ Ok x → IsToken open_ i x.1 x.0
  read_is x is = token_is x (at_place_ok i.at (token_at u table open_ i) x is)

-- ---- the tokens of a walk, one after the other

-- these tokens come behind these levels, where these bytes are left
abbrev pub Follow : Levels → Input → List Token → Type 0
Follow open_ i [] = Unit {0}
Follow open_ i (t ∷ ts) = (is_over open_ i ≡ false) × (next : Input) × IsToken open_ i next t × Follow (levels_after open_ t) next ts

-- nothing is open at the beginning
abbrev pub start : Levels
start = record { root = false; depth = 0 }

module _ (u : UnitHeader) (table : List Abbrev) where
  abbrev read : Levels → Input → Result (Token × Input) Fault
  read = token_or_fault u table

  pub left_follow : (n : ℕ) (open_ : Levels) (i : Input) → Follow open_ i (left_from read n open_ i).tokens
  unfolding left_from tail_of
  left_follow zero open_ i = tt
  left_follow (suc n) open_ i =
      elim (is_over open_ i) as (λ b. is_over open_ i ≡ b → Follow open_ i (cond b (tail_of i) (behind (read open_ i) (λ t. left_from read n (levels_after open_ t.0) t.1))).tokens) [
        | true ↦ λ e. tt
        | false ↦ λ e. elim (read open_ i) as (λ r. read open_ i ≡ r → Follow open_ i (behind r (λ t. left_from read n (levels_after open_ t.0) t.1)).tokens) [
          | Err f ↦ λ g. tt
          | Ok t ↦ λ g. (e, t.1, read_is u table open_ i t g, left_follow n (levels_after open_ t.0) t.1)
        ] refl
      ] refl

  null_root : (open_ : Levels) (i : Input) (t : Token × Input) → read open_ i ≡ Ok t → is_null t.0 ≡ true → open_.root ≡ true
  null_root open_ i t is = by_says open_ i t.1 t.0 (read_is u table open_ i t is).says
    where
      by_says : (open_ : Levels) (i next : Input) (t : Token) → Says open_ i next t → is_null t ≡ true → open_.root ≡ true
      by_says open_ i next (Null depth after) h null = h.0
      by_says open_ i next (Entry d) h null = absurd cc

  -- a walk is what is left at its beginning
  pub walk_left : (body : Input) → walk_of u table body ≡ left read start body
  walk_left body = walk_is_left read null_root body

  pub walk_follows : (body : Input) → Follow start body (walk_of u table body).tokens
  walk_follows body = subst (λ (w : Walk). Follow start body w.tokens) (sym (walk_left body)) (left_follow (length body.rest) start body)
