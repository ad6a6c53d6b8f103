-- Attributes whose values begin at one place, and the first of a number among them.
use Rattle.std.proofs.Common.{◌≡◌, ℕ, ℤ, is_some, zero, suc, ◌+◌, ◌%◌, ◌<◌, ◌⊎◌, inl, inr, Bool, true, false, cond, leb, List, [], ◌∷◌, ◌++◌, take, drop, get_or, length, option_map, Option, Some, None, Result, Ok, Err, refl, ap, sym, subst, ◌∙◌, arith}
use Rattle.std.specs.Prelude.{IfSome}
use Rattle.std.proofs.lemmas.Option.{same_Some}
use Rattle.std.proofs.lemmas.List.{take_more, take-append-drop, get_or_default}
use Rattle.ix_base.specs.declared.code.TheConstants.{TRUNCATED}
use Rattle.ix_base.specs.Reading.{Input, past, skip, number}
use Rattle.index_model.specs.Meaning.{◌>>=◌}
use Rattle.index_model.specs.Forms.{Value, Flag, Str, value_at}
use Rattle.index_model.specs.Walk.{values}
use Rattle.entry_scan.specs.declared.abbreviation.Spec.{Spec}
use Rattle.entry_scan.specs.declared.jumps.Jump.{Jump}
use Rattle.entry_scan.specs.declared.jumps.Jumps.{Jumps}
use Rattle.entry_scan.specs.declared.values.UnitFormat.{UnitFormat}
use Rattle.entry_scan.specs.Values.{values_at, place_read, past_bytes, IsRead, TakeBytes}
use Rattle.entry_scan.specs.Fronts.{narrow}
use Rattle.entry_scan.specs.Jumps.{Take, LacksBefore, IsJump, AreJumps, Leads, slot}
use Rattle.entry_scan.proofs.SizeLaws.{nothing_takes}
use Rattle.entry_scan.proofs.FrontLaws.{both, onwards, alike, next_taken}
use Rattle.entry_scan.proofs.FirstLaws.{first, passed, found}
use Rattle.entry_scan.proofs.ValueLaws.{place_goes, place_stops, no_fault, specs_from, zero_spec}

-- ---- values of two parts

one_then : (r : Result Input ℕ) → (r >>= λ j. Ok j) ≡ r
one_then (Ok j) = refl
one_then (Err code) = refl

of_both : (f : UnitFormat) (xs ys : List Spec) (i : Input) → place_read (values_at f (xs ++ ys) i) ≡ (place_read (values_at f xs i) >>= λ j. place_read (values_at f ys j))
unfolding values
of_both f [] ys i = refl
of_both f (x ∷ xs) ys i =
    let r = place_read (value_at f.version f.wide x.form x.constant i) in
    let rest : Input → Result Input ℕ = λ j. place_read (values_at f ys j) in
    let front : Input → Result Input ℕ = λ j. place_read (values_at f xs j) in
    next_taken f x (xs ++ ys) i r refl
    ∙ alike r (λ j. place_read (values_at f (xs ++ ys) j)) (λ j. front j >>= rest) (λ j. of_both f xs ys j)
    ∙ sym (onwards r front rest)
    ∙ ap (λ (x : Result Input ℕ). x >>= rest) (sym (next_taken f x xs i r refl))

no_more : (f : UnitFormat) (s : Spec) (i : Input) (r : Result Input ℕ) → place_read (value_at f.version f.wide s.form s.constant i) ≡ r → place_read (values_at f (s ∷ []) i) ≡ r
unfolding values
no_more f s i r e = next_taken f s [] i r e ∙ one_then r

-- no attributes take no bytes
pub none_take : (specs : List Spec) → Take 0 0 specs
unfolding values
none_take specs version i = nothing_takes i

-- one more of them
pub one_more : (specs : List Spec) (k n m : ℕ) → k < length specs → Take k n specs → ((version : ℕ) → TakeBytes m (value_at version false (get_or specs k zero_spec).form)) → Take (k + 1) (n + m) specs
one_more specs k n m lt front takes version i =
    let f = narrow version in
    let s = get_or specs k zero_spec in
    let last : Input → Result Input ℕ = λ j. place_read (values_at f (s ∷ []) j) in
    ap (λ (ss : List Spec). place_read (values_at f ss i)) (take_more specs k zero_spec lt)
    ∙ of_both f (take k specs) (s ∷ []) i
    ∙ ap (λ (r : Result Input ℕ). r >>= last) (front version i)
    ∙ alike (past_bytes n i) last (past_bytes m) (λ j. no_more f s j (past_bytes m j) (takes version s.constant j))
    ∙ both n m i (leb n (length i.rest)) refl

-- ---- the first of a number

module _ (f : UnitFormat) (n : ℕ) where
  abbrev Lacks : ℕ → List Spec → Type 0
  Lacks k ss = (j : ℕ) (d : Spec) → j < k → (get_or ss j d).attribute ≡ n → ⊥

  abbrev LeadsTo : List Spec → Input → List Spec → Input → Type 0
  LeadsTo ss i rest j = IsRead (values_at f rest j) × (first f n ss i ≡ first f n rest j)

  -- one value is passed, and then the others before it
  step : (s : Spec) (ss : List Spec) (k : ℕ) (i j : Input) → IsRead (values_at f (s ∷ ss) i) → place_read (values_at f (s ∷ take k ss) i) ≡ Ok j → Lacks (suc k) (s ∷ ss) → ((at : Input) → IsRead (values_at f ss at) → place_read (values_at f (take k ss) at) ≡ Ok j → Lacks k ss → LeadsTo ss at (drop k ss) j) → (r : Result (Value × Input) ℕ) → value_at f.version f.wide s.form s.constant i ≡ r → LeadsTo (s ∷ ss) i (drop k ss) j
  step s ss k i j all e lacks more (Ok x) g =
      let here : place_read (value_at f.version f.wide s.form s.constant i) ≡ Ok x.1 = ap (λ (r : Result (Value × Input) ℕ). place_read r) g in
      let p = passed f n s ss i all x.1 here (lacks 0 s (omega arith)) in
      let on = sym (place_goes f s (take k ss) i x.1 here) ∙ e in
      let rest = more x.1 p.0 on (λ m d lt same. lacks (suc m) d (omega (arith, lt)) same) in
      (rest.0, p.1 ∙ rest.1)
  step s ss k i j all e lacks more (Err code) g =
      let here : place_read (value_at f.version f.wide s.form s.constant i) ≡ Err code = ap (λ (r : Result (Value × Input) ℕ). place_read r) g in
      let stuck = place_stops f s (take k ss) i code here in
      absurd cc

  -- it is the first of those that are behind others without it
  pub later : (ss : List Spec) (k : ℕ) (i j : Input) → IsRead (values_at f ss i) → place_read (values_at f (take k ss) i) ≡ Ok j → Lacks k ss → LeadsTo ss i (drop k ss) j
  unfolding values
  later ss zero i j all e lacks = let same : i ≡ j = cc in subst (λ (at : Input). LeadsTo ss i ss at) same (all, refl)
  later [] (suc k) i j all e lacks = let same : i ≡ j = cc in subst (λ (at : Input). LeadsTo [] i [] at) same (all, refl)
  later (s ∷ ss) (suc k) i j all e lacks = step s ss k i j all e lacks (λ at all e lacks. later ss k at j all e lacks) (value_at f.version f.wide s.form s.constant i) refl

-- ---- jumps

abbrev text : Option (ℕ × Value) → Option Value
text o = option_map (λ (v : ℕ × Value). v.1) o

abbrev empty : Type 0
empty = record {}

abbrev skipped : Input → empty × Input
skipped j = (record {}, j)

abbrev reached : Input → Result Input ℕ
reached j = Ok j

has_room : (b : Bool) (j k : Input) → cond b (Some (skipped j)) None ≡ Some (skipped k) → cond b (Ok j) (Err TRUNCATED) ≡ Ok k
has_room true j k e = ap (λ (p : empty × Input). reached p.1) (same_Some (skipped j) (skipped k) e)
has_room false j k e = absurd cc

lacks_room : (b : Bool) (j : Input) → cond b (Some (skipped j)) None ≡ None → cond b (Ok j) (Err TRUNCATED) ≡ Err TRUNCATED
lacks_room true j e = absurd cc
lacks_room false j e = refl

-- a flag that takes no byte
pub flag_read : (version : ℕ) (wide : Bool) (constant : ℤ) (j : Input) → value_at version wide 0x19 constant j ≡ Ok (Flag true, j)
unfolding value_at
flag_read version wide constant j = refl

-- an offset of a text
pub str_read : (version : ℕ) (wide : Bool) (constant : ℤ) (j next : Input) (x : ℕ) → wide ≡ false → number 4 j ≡ Some (x, next) → value_at version wide 0x0E constant j ≡ Ok (Str x, next)
unfolding value_at
str_read version wide constant j next x e g = rw e (rw g refl)

module _ (specs : List Spec) (f : UnitFormat) (number : ℕ) (jump : Jump) (i : Input) (all : IsRead (values_at f specs i)) (to : Leads f specs number jump) where
  abbrev is : IsJump specs number jump
  is = to.jump

  takes_here : place_read (values_at f (take jump.index specs) i) ≡ past_bytes jump.bytes i
  takes_here =
      let same : f ≡ narrow f.version = ap (λ (w : Bool). let made : UnitFormat = record { version = f.version; wide = w } in made) to.narrow_ in
      subst (λ (g : UnitFormat). place_read (values_at g (take jump.index specs) i) ≡ past_bytes jump.bytes i) (sym same) (is.takes f.version i)

  -- the bytes before its value are there
  pub room : skip jump.bytes i ≡ None → ⊥
  room e =
      let stops = takes_here ∙ lacks_room (leb jump.bytes (length i.rest)) (past jump.bytes i) e in
      let whole = ap (λ (ss : List Spec). place_read (values_at f ss i)) (sym (take-append-drop jump.index specs)) ∙ of_both f (take jump.index specs) (drop jump.index specs) i ∙ ap (λ (r : Result Input ℕ). r >>= λ j. place_read (values_at f (drop jump.index specs) j)) stops in
      let read = all.1 in
      cc

  -- the first of its number is the first behind them
  pub leads : (j : Input) → skip jump.bytes i ≡ Some (skipped j) → LeadsTo f number specs i (drop jump.index specs) j
  leads j e =
      let there = takes_here ∙ has_room (leb jump.bytes (length i.rest)) (past jump.bytes i) j e in
      later f number specs jump.index i j all there (λ k d lt same. is.first k d lt (ap (λ (n : ℕ). n % 64) same))

  -- what it reads there is the first of its number
  pub read_there : (j : Input) → skip jump.bytes i ≡ Some (skipped j) → (v : Value) (next : Input) → value_at f.version f.wide (get_or specs jump.index zero_spec).form (get_or specs jump.index zero_spec).constant j ≡ Ok (v, next) → text (first f number specs i) ≡ Some v
  read_there j e v next read =
      let k = jump.index in
      let rest = rw (specs_from specs k is.within) at leads j e in
      ap text rest.1 ∙ found f number (get_or specs k zero_spec) (drop (k + 1) specs) j rest.0 v next read (to.own zero_spec)

  -- there is a value
  module _ where
    abbrev s : Spec
    s = get_or specs jump.index zero_spec

    by_read : (j : Input) → skip jump.bytes i ≡ Some (skipped j) → (r : Result (Value × Input) ℕ) → value_at f.version f.wide s.form s.constant j ≡ r → is_some (text (first f number specs i)) ≡ true
    by_read j e (Ok x) g = ap (λ (o : Option Value). is_some o) (read_there j e x.0 x.1 g)
    by_read j e (Err code) g =
        let rest = rw (specs_from specs jump.index is.within) at leads j e in
        absurd (no_fault f s (drop (jump.index + 1) specs) j code g rest.0)

    by_skip : (o : Option (empty × Input)) → skip jump.bytes i ≡ o → is_some (text (first f number specs i)) ≡ true
    by_skip None e = absurd (room e)
    by_skip (Some p) e = by_read p.1 e (value_at f.version f.wide s.form s.constant p.1) refl

    at_skip : (o : Option (empty × Input)) → skip jump.bytes i ≡ o → s.form ≡ 0x19 → text (first f number specs i) ≡ Some (Flag true)
    at_skip None g e = absurd (room g)
    at_skip (Some p) g e = read_there p.1 g (Flag true) p.1 (rw e (flag_read f.version f.wide s.constant p.1))

    -- and it is a flag that is set, where it is one that takes no byte
    pub flagged : s.form ≡ 0x19 → text (first f number specs i) ≡ Some (Flag true)
    flagged e = at_skip (skip jump.bytes i) refl e

    pub there : is_some (text (first f number specs i)) ≡ true
    there = by_skip (skip jump.bytes i) refl

-- ---- one more jump

module _ (specs : List Spec) (old new : Jumps) (k : ℕ) (jump : Jump) (number : ℕ) where
  abbrev IsAdded : ℕ → Type 0
  IsAdded m = (slot new m ≡ slot old m) ⊎ ((m % 64 ≡ number % 64) × (slot old m ≡ None) × (slot new m ≡ Some jump))

  pub jumps_added : AreJumps specs old → ((m : ℕ) → slot old m ≡ None → LacksBefore k m specs) → ((m : ℕ) → IsAdded m) → k < length specs → jump.index ≡ k → Take k jump.bytes specs → AreJumps specs new
  jumps_added are lacks added lt index takes m = by (added m)
    where
      by : IsAdded m → IfSome (slot new m) (IsJump specs m)
      by (inl same) = subst (λ (o : Option Jump). IfSome o (IsJump specs m)) (sym same) (are m)
      by (inr h) =
          let is : IsJump specs m jump = record {
            within = omega (arith, lt, index);
            first = rw index (lacks m h.1);
            takes = rw index takes;
          } in
          subst (λ (o : Option Jump). IfSome o (IsJump specs m)) (sym h.2) is

  pub lacks_added : ((m : ℕ) → slot old m ≡ None → LacksBefore k m specs) → ((m : ℕ) → IsAdded m) → k < length specs → (get_or specs k zero_spec).attribute ≡ number → (slot new number ≡ None → ⊥) → (m : ℕ) → slot new m ≡ None → LacksBefore (k + 1) m specs
  lacks_added lacks added lt own there m none j d below same = by (added m) cases
    where
      cases : (j < k) ⊎ (j ≡ k)
      cases = grind arith

      by : IsAdded m → (j < k) ⊎ (j ≡ k) → ⊥
      by (inl kept) (inl less) = lacks m (sym kept ∙ none) j d less same
      by (inl kept) (inr here) =
          let named : (get_or specs k d).attribute ≡ number = ap (λ (s : Spec). s.attribute) (sym (get_or_default specs k zero_spec d lt)) ∙ own in
          let left : number % 64 ≡ m % 64 = ap (λ (n : ℕ). n % 64) (sym named) ∙ ap (λ (at : ℕ). (get_or specs at d).attribute % 64) (sym here) ∙ same in
          there (ap (λ (r : ℕ). get_or new.slots r None) left ∙ none)
      by (inr h) c = let other = h.2 in absurd cc
