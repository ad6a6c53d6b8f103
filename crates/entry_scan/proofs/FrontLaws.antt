-- Attributes whose values take the same bytes in each entry.
use Rattle.std.proofs.Common.{◌≡◌, ℕ, ◌+◌, ◌-◌, ◌<◌, ◌≤◌, Bool, true, false, cond, leb, List, ◌∷◌, length, length-drop, drop, get_or, Result, Ok, Err, refl, ap, sym, ◌∙◌, arith}
use Rattle.std.proofs.lemmas.Bool.{lt-leb, leb-true, leb-false}
use Rattle.std.proofs.lemmas.List.{drop-drop}
use Rattle.ix_base.specs.declared.code.TheConstants.{TRUNCATED}
use Rattle.ix_base.specs.Reading.{Input, past}
use Rattle.index_model.specs.Meaning.{◌>>=◌}
use Rattle.index_model.specs.Forms.{value_at}
use Rattle.entry_scan.specs.declared.abbreviation.Spec.{Spec}
use Rattle.entry_scan.specs.declared.values.UnitFormat.{UnitFormat}
use Rattle.entry_scan.specs.Values.{values_at, place_read, past_bytes, TakeBytes}
use Rattle.entry_scan.specs.Fronts.{Begins, narrow}
use Rattle.entry_scan.proofs.SizeLaws.{nothing_takes}
use Rattle.entry_scan.proofs.ValueLaws.{place_goes, place_stops, specs_from, zero_spec}

-- ---- bytes that are passed one part after the other

same_place : (n m : ℕ) (i : Input) → past m (past n i) ≡ past (n + m) i
same_place n m i =
    let at : i.at + n + m ≡ i.at + (n + m) = omega arith in
    let left : drop m (drop n i.rest) ≡ drop (n + m) i.rest = drop-drop m n i.rest in
    cc

same_room : (n m l : ℕ) → n ≤ l → leb m (l - n) ≡ leb (n + m) l
same_room n m l le = grind arith

both_there : (n m : ℕ) (i : Input) → n ≤ length i.rest → past_bytes m (past n i) ≡ past_bytes (n + m) i
both_there n m i le =
    rw (length-drop n i.rest, same_room n m (length i.rest) le) (ap (λ (j : Input). cond (leb (n + m) (length i.rest)) (Ok j) (Err TRUNCATED)) (same_place n m i))

pub both : (n m : ℕ) (i : Input) (b : Bool) → leb n (length i.rest) ≡ b → (past_bytes n i >>= past_bytes m) ≡ past_bytes (n + m) i
both n m i true e = rw e (both_there n m i (leb-true _ _ e))
both n m i false e =
    let less : length i.rest < n = leb-false _ _ e in
    rw (e, lt-leb (n + m) (length i.rest) (omega arith)) refl

pub onwards : (r : Result Input ℕ) (f g : Input → Result Input ℕ) → ((r >>= f) >>= g) ≡ (r >>= λ j. f j >>= g)
onwards (Ok j) f g = refl
onwards (Err code) f g = refl

pub alike : (r : Result Input ℕ) (f g : Input → Result Input ℕ) → ((j : Input) → f j ≡ g j) → (r >>= f) ≡ (r >>= g)
alike (Ok j) f g h = h j
alike (Err code) f g h = refl

-- ---- values

pub next_taken : (f : UnitFormat) (s : Spec) (ss : List Spec) (i : Input) (r : Result Input ℕ) → place_read (value_at f.version f.wide s.form s.constant i) ≡ r → place_read (values_at f (s ∷ ss) i) ≡ (r >>= λ j. place_read (values_at f ss j))
next_taken f s ss i (Ok j) e = place_goes f s ss i j e
next_taken f s ss i (Err code) e = place_stops f s ss i code e

-- no attributes take no bytes
pub none_first : (specs : List Spec) → Begins 0 0 specs
none_first specs version i = ap (λ (r : Result Input ℕ). r >>= λ j. place_read (values_at (narrow version) specs j)) (nothing_takes i)

-- one more of them
pub one_more : (specs : List Spec) (k n m : ℕ) → k < length specs → Begins k n specs → ((version : ℕ) → TakeBytes m (value_at version false (get_or specs k zero_spec).form)) → Begins (k + 1) (n + m) specs
one_more specs k n m lt front takes version i =
    let f = narrow version in
    let s = get_or specs k zero_spec in
    let ss = drop (k + 1) specs in
    let rest : Input → Result Input ℕ = λ j. place_read (values_at f ss j) in
    let here = rw (specs_from specs k lt) at front version i in
    here
    ∙ alike (past_bytes n i) (λ j. place_read (values_at f (s ∷ ss) j)) (λ j. past_bytes m j >>= rest) (λ j. next_taken f s ss j (past_bytes m j) (takes version s.constant j))
    ∙ sym (onwards (past_bytes n i) (past_bytes m) rest)
    ∙ ap (λ (r : Result Input ℕ). r >>= rest) (both n m i (leb n (length i.rest)) refl)
