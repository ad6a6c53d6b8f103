-- The reply by the parts, by the place of the stage.
use Rattle.std.proofs.Common.{◌≡◌, ℕ, ◌<◌, ◌≤◌, false, eqb, Option, Some, refl, ap, arith}
use Rattle.std.specs.Prelude.{option_map}
use Rattle.std.proofs.lemmas.Bool.{lt-ltb, le-leb, eq-eqb, le-ltb, lt-leb}
use Rattle.std.proofs.lemmas.Bool.Decides.{nat_tests}
use Rattle.index_model.specs.Answers.{Answer, Answered, Pending, Refused, Stopped}
use Rattle.index_model.specs.Parts.{Parts, answer_by, reply_by}
use Rattle.index_model.specs.Queries.{Query, need_of}

apart : (n m : ℕ) → m < n → eqb n m ≡ false
apart n m lt = grind (arith, nat_tests)

module _ (p : Parts) (q : Query) (stage : ℕ) where
  pub pending : stage < need_of q → Some Pending ≡ reply_by p q stage
  unfolding reply_by
  pending lt = rw (lt-ltb stage (need_of q) lt) refl

  module _ (need : need_of q ≤ stage) where
    pub answered : stage ≤ 3 → (o : Option Answer) → o ≡ answer_by p q → option_map Answered o ≡ reply_by p q stage
    unfolding reply_by
    answered le o is = rw (le-ltb stage (need_of q) need, le-leb stage 3 le) (ap (option_map Answered) is)

    pub refused : stage ≡ 4 → option_map Refused p.fault ≡ reply_by p q stage
    unfolding reply_by
    refused is = rw (le-ltb stage (need_of q) need, lt-leb stage 3 (omega (arith, is)), eq-eqb stage 4 is) refl

    pub stopped : 4 < stage → Some Stopped ≡ reply_by p q stage
    unfolding reply_by
    stopped lt = rw (le-ltb stage (need_of q) need, lt-leb stage 3 (omega (arith, lt)), apart stage 4 lt) refl
