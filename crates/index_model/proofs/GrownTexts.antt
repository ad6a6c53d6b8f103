-- Texts that end with a zero, in bytes that grow.
use Rattle.std.proofs.Common.{◌≡◌, ℕ, ◌+◌, true, eqb, ltb, List, ◌++◌, length, take, Some, ap, ◌∙◌, arith}
use Rattle.std.specs.List.{position, position_or_len}
use Rattle.std.proofs.lemmas.Bool.{lt-ltb}
use Rattle.std.proofs.lemmas.List.{length-append, take-append-le, get_or_append_left}
use Rattle.std.proofs.lemmas.List.Quantifiers.{position-Some}
use Rattle.std.proofs.lemmas.List.Sums.{position_or_len_is}
use Rattle.ix_base.specs.Reading.{before_zero}
use Rattle.index_model.proofs.Meanings.{bind_some}

-- a text that ends ends there in more bytes too
pub before_stays : (more bs text : List ℕ) → before_zero bs ≡ Some text → before_zero (bs ++ more) ≡ Some text
before_stays more bs text is =
    let b = bind_some (position (λ c. eqb c 0) bs) (λ k. Some (take k bs)) text is in
    let f = position-Some (λ c. eqb c 0) bs b.0 0 b.1 in
    let longer = length-append bs more in
    let there : position_or_len (λ c. eqb c 0) (bs ++ more) ≡ b.0 = position_or_len_is (λ c. eqb c 0) (bs ++ more) b.0 0 (omega (arith, f.0, longer))
    (λ k lt. ap (λ (c : ℕ). eqb c 0) (get_or_append_left bs more 0 k (omega (arith, lt, f.0))) ∙ f.2 k lt)
    (λ lt. ap (λ (c : ℕ). eqb c 0) (get_or_append_left bs more 0 b.0 f.0) ∙ f.1) in
    let within : ltb b.0 (length (bs ++ more)) ≡ true = lt-ltb b.0 (length (bs ++ more)) (omega (arith, f.0, longer)) in
    rw (there, within, take-append-le b.0 bs more (omega (arith, f.0))) b.2
