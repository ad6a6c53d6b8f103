-- What a call did to an input.
use Rattle.std.specs.Prelude.{ℕ, List, Option}

-- the bytes that were left before and behind the call, where they are told, and the counts of faults
pub record Heard : Type 0 where
  pub left_old : Option (List ℕ)
  pub left_new : Option (List ℕ)
  pub faults_old : ℕ
  pub faults_new : ℕ

-- by what an input tells
abbrev pub heard : {S : Type 0} → (S → Option (List ℕ)) → (S → ℕ) → S → S → Heard
heard left faults old new = record { left_old = left old; left_new = left new; faults_old = faults old; faults_new = faults new }
