-- How many bytes values take.
use Rattle.std.proofs.Common.{◌≡◌, ℕ, ◌+◌, Bool, true, false, cond, leb, length, Option, Some, None, Result, Ok, Err, refl, ap, sym, arith}
use Rattle.std.proofs.lemmas.Bool.{le-leb}
use Rattle.ix_base.specs.declared.code.TheConstants.{TRUNCATED}
use Rattle.ix_base.specs.Reading.{Input, past, number, skip}
use Rattle.index_model.specs.Meaning.{◌>>=◌, some_or}
use Rattle.index_model.specs.Forms.{Value, by}
use Rattle.entry_scan.specs.Values.{place_read, past_bytes}

abbrev made_of : {A : Type 0} → Option (A × Input) → (A → Value) → Result (Value × Input) ℕ
made_of r make = some_or r TRUNCATED >>= λ x. Ok (make x.0, x.1)

-- what is read where there are enough bytes
taken : {A : Type 0} (b : Bool) (x : A) (j : Input) (make : A → Value) → place_read (made_of (cond b (Some (x, j)) None) make) ≡ cond b (Ok j) (Err TRUNCATED)
taken true x j make = refl
taken false x j make = refl

-- a number of k bytes
pub number_takes : (k : ℕ) (make : ℕ → Value) (i : Input) → place_read (by (number k) make i) ≡ past_bytes k i
number_takes k make i = taken (leb k (length i.rest)) _ (past k i) make

abbrev empty : Type 0
empty = record {}

-- bytes that are passed
pub skip_takes : (k : ℕ) (make : empty → Value) (i : Input) → place_read (by (skip k) make i) ≡ past_bytes k i
skip_takes k make i = taken {A = empty} (leb k (length i.rest)) (record {}) (past k i) make

abbrev ended : Input → Result Input ℕ
ended i = Ok i

-- no bytes
pub nothing_takes : (i : Input) → ended i ≡ past_bytes 0 i
nothing_takes i =
    let same : i.at + 0 ≡ i.at = omega arith in
    rw (le-leb 0 (length i.rest) (omega arith)) (ap (λ (a : ℕ). ended (record { at = a; rest = i.rest })) (sym same))
