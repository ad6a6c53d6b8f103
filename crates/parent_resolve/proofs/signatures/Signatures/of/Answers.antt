use Rattle.std.proofs.Common.{◌≡◌, List, ap, ◌∙◌, rules, of_calls}
use Rattle.std.proofs.lemmas.List.Sorted.{IsNonDecreasingBy-from_sort_by_key}
use Rattle.std.proofs.lemmas.Fn.{always_returns_same}
use Rattle.parent_resolve.specs.declared.signatures.TypeUnit.{TypeUnit}
use Rattle.parent_resolve.specs.Signed.{first_signed}
use Rattle.parent_resolve.proofs.SignedLaws.{first_stays}
use Rattle.parent_resolve.proofs.signatures.Signatures.of.Goals as goal

pub returns : goal.returns
returns c =
    let e = c.in_ok-sort_by_key.ensures in
    let stable = e.stable (λ t. t.signature) (always_returns_same _ (λ a r. r ≡ a.0.now.signature) _ (λ a r q k. search (rules, of_calls))) in
    record {
      rise = IsNonDecreasingBy-from_sort_by_key (λ t. t.signature) _ e.sorted (λ a r q k. search (rules, of_calls));
      first = λ s. first_stays s _ _ stable ∙ ap (λ (ts : List TypeUnit). first_signed ts s) c.in_ok-units.ensures;
    }
