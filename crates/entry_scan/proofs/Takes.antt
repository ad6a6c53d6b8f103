-- A number takes a byte at least.
use Rattle.std.proofs.Common.{◌≡◌, ℕ, ◌+◌, ◌*◌, ◌-◌, ◌<◌, ◌≤◌, ◌^◌, Bool, true, false, cond, ltb, List, [], ◌∷◌, length, Option, Some, None, Result, Ok, Err, ap, arith, length-drop}
use Rattle.std.proofs.lemmas.Option.{same_Some, cond_some}
use Rattle.std.specs.Prelude.{OnOk}
use Rattle.ix_base.specs.Reading.{Input, past, unsigned_leb, leb64, uleb, ◌>>=◌}
use Rattle.index_model.proofs.Meanings.{bind_some}

abbrev pub found : {A : Type 0} → A → Option A
found x = Some x

abbrev longer : ℕ → List ℕ → Option (ℕ × ℕ)
longer b bs = unsigned_leb bs >>= λ high. Some (b - 128 + 128 * high.0, high.1 + 1)

byte_or_more : (c : Bool) (b : ℕ) (bs : List ℕ) (x : ℕ × ℕ) → cond c (Some (b, 1)) (longer b bs) ≡ Some x → 1 ≤ x.1
byte_or_more true b bs x e = omega (arith, ap (λ (p : ℕ × ℕ). p.1) (same_Some (b, 1) x e))
byte_or_more false b bs x e =
    let h = bind_some (unsigned_leb bs) (λ high. Some (b - 128 + 128 * high.0, high.1 + 1)) x e in
    omega (arith, ap (λ (p : ℕ × ℕ). p.1) (same_Some (b - 128 + 128 * h.0.0, h.0.1 + 1) x h.2))

leb_one : (bs : List ℕ) (x : ℕ × ℕ) → unsigned_leb bs ≡ Some x → (1 ≤ x.1) × (1 ≤ length bs)
unfolding unsigned_leb
leb_one [] x e = absurd cc
leb_one (b ∷ bs) x e = (byte_or_more (ltb b 128) b bs x e, omega arith)

pub uleb_takes : (i : Input) (x : ℕ × Input) → uleb i ≡ Some x → length x.1.rest < length i.rest
uleb_takes i x e =
    let n = bind_some (leb64 i.rest) (λ n. Some (n.0, past n.1 i)) x e in
    let m = bind_some (unsigned_leb i.rest) (λ n. cond (ltb n.0 (2 ^ 64)) (Some n) None) n.0 n.1 in
    let p = cond_some (ltb m.0.0 (2 ^ 64)) m.0 n.0 m.2 in
    let one = leb_one i.rest m.0 m.1 in
    let k : m.0.1 ≡ n.0.1 = ap (λ (q : ℕ × ℕ). q.1) p.1 in
    let made : ℕ × Input = (n.0.0, past n.0.1 i) in
    let r = ap (λ (q : ℕ × Input). length q.1.rest) (same_Some made x n.2) in
    omega (arith, one.0, one.1, length-drop n.0.1 i.rest)

-- what holds holds at Ok
pub at_ok : {A E : Type 0} (r : Result A E) (P : Type 0) → P → OnOk r P
at_ok (Ok x) P h = h
at_ok (Err e) P h = tt
