-- A followed entry: its chain, and then the name that is spelled for it.
use Rattle.std.proofs.Common.{◌≡◌, ℕ, List, Option, Some, None, option_map, Result, Ok, Err, refl, sym, ap, ◌∙◌}
use denote.Ref.{Bor}
use Rattle.index_model.specs.Chains.{chain_of, spelled_name, name_by_signature}
use Rattle.index_model.specs.Meaning.{◌>>=◌, some_else}
use Rattle.index_model.specs.Program.{Program, Located}
use Rattle.parent_resolve.specs.declared.chain.Chain.{Chain}
use Rattle.parent_resolve.specs.Chained.{IsChain}
use Rattle.parent_resolve.specs.Followed.{IsText, Named, followed_of}
use Rattle.parent_resolve.specs.Traced.{IsTraced}

-- the text of a name
abbrev pub text : Option (Bor (List ℕ)) → Option (List ℕ)
text o = option_map (λ t. t.now) o

module _ (p : Program) (d : Located) where
  -- the name that was found is the one that is spelled
  pub record IsSpelled (chain : List Located) (found : Option (Bor (List ℕ))) : Type 0 where
    pub name : Option (List ℕ)
    pub is : spelled_name p d chain ≡ Ok name
    pub same : text found ≡ name

  module _ (chain : List Located) (c : Chain) (h : IsChain p d c chain) where
    abbrev else_signed : Option (List ℕ) → Result (Option (List ℕ)) ℕ
    else_signed o = some_else o (name_by_signature p d)

    spelled_as : spelled_name p d chain ≡ else_signed (text c.name)
    unfolding spelled_name
    spelled_as = ap else_signed (sym h.name)

    -- a name on the chain is the one
    pub of_chain : (t : Bor (List ℕ)) (found : Option (Bor (List ℕ))) → c.name ≡ Some t → found ≡ Some t → IsSpelled chain found
    of_chain t found on same = record { name = Some t.now; is = spelled_as ∙ ap (λ (o : Option (Bor (List ℕ))). else_signed (text o)) on; same = ap text same }

    -- without one it is that by the signature
    pub of_signature : (found : Option (Bor (List ℕ))) → c.name ≡ None → (name : Option (List ℕ)) → name_by_signature p d ≡ Ok name → IsText found name → IsSpelled chain found
    of_signature found none name is same = record { name = name; is = spelled_as ∙ ap (λ (o : Option (Bor (List ℕ))). else_signed (text o)) none ∙ is; same = same }

    abbrev onwards : Result (List Located) ℕ → Result Named ℕ
    onwards r = r >>= λ chain. spelled_name p d chain >>= λ spelled. Ok (record { chain = chain; spelled = spelled })

    -- a fault of the signature is that of the whole
    pub wrong_signature : chain_of p d ≡ Ok chain → c.name ≡ None → (code : ℕ) → name_by_signature p d ≡ Err code → followed_of p d ≡ Err code
    unfolding followed_of
    wrong_signature whole none code is =
        let e : spelled_name p d chain ≡ Err code = spelled_as ∙ ap (λ (o : Option (Bor (List ℕ))). else_signed (text o)) none ∙ is in
        ap onwards whole ∙ ap (λ (r : Result (Option (List ℕ)) ℕ). r >>= λ spelled. let n : Named = record { chain = chain; spelled = spelled } in Ok n) e

    pub whole : chain_of p d ≡ Ok chain → (found : Option (Bor (List ℕ))) (s : IsSpelled chain found) → followed_of p d ≡ Ok (record { chain = chain; spelled = s.name })
    unfolding followed_of
    whole all found s = ap onwards all ∙ ap (λ (r : Result (Option (List ℕ)) ℕ). r >>= λ spelled. let n : Named = record { chain = chain; spelled = spelled } in Ok n) s.is

    pub is_traced : (found : Option (Bor (List ℕ))) (s : IsSpelled chain found) → IsTraced p d (record { around = c.around; external = c.external; spelled = found; linkage = c.linkage }) (record { chain = chain; spelled = s.name })
    is_traced found s = record { there = h.there; around = h.around; external = h.external; spelled = s.same; linkage = h.linkage }

  -- a fault of the chain is that of the whole
  pub wrong_chain : (code : ℕ) → chain_of p d ≡ Err code → followed_of p d ≡ Err code
  unfolding followed_of
  wrong_chain code is = rw is refl
