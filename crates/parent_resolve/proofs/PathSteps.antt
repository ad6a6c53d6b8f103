-- A scope path step by step, and in however many steps.
use Rattle.std.proofs.Common.{◌≡◌, ℕ, zero, suc, ◌<◌, ◌≤◌, Bool, true, false, cond, eqb, leb, List, [], ◌∷◌, length, Option, Some, None, Result, Ok, Err, refl, sym, ap, ◌∙◌, arith, inl, inr}
use Rattle.std.proofs.lemmas.Bool.{le-leb, lt-leb}
use Rattle.std.proofs.lemmas.Bool.Decides.{leb_tells}
use Rattle.ix_base.specs.declared.code.TheConstants.{REFERENCE_CHAIN}
use Rattle.index_model.specs.Meaning.{◌>>=◌}
use Rattle.index_model.specs.Program.{Program, Located, scope_around}
use Rattle.index_model.specs.Chains.{chain_of, chain_end, spelled_name, name_of, name_with}
use Rattle.index_model.specs.Names.{Member, step, step_to, path_from}
use Rattle.index_model.proofs.Meanings.{bind_ok, same_ok}
use Rattle.parent_resolve.specs.Followed.{Named, followed_of}
use Rattle.parent_resolve.specs.Scopes.{Passed, root_passed, followed_at, passed_at}

abbrev pub Onwards : Type 0
Onwards = Located → Result (List Member) ℕ

-- a member, and the path around its chain's end
abbrev pub beyond : Onwards → Passed → Result (List Member) ℕ
beyond onwards x = step x.end onwards >>= λ others. Ok (x.member ∷ others)

module _ (p : Program) (m : Located) (onwards : Onwards) where
  abbrev member_named : List Located → Option (List ℕ) → Member
  member_named chain spelled = record { entry = m; name = name_with m spelled }

  abbrev by_name : List Located → Result (List Member) ℕ
  by_name chain = name_of p m chain >>= λ name. onwards (chain_end m chain) >>= λ others. Ok (record { entry = m; name = name } ∷ others)

  abbrev by_spelled : List Located → Result Named ℕ
  by_spelled chain = spelled_name p m chain >>= λ spelled. Ok (record { chain = chain; spelled = spelled })

  abbrev on_named : Named → Result (List Member) ℕ
  on_named n = onwards (chain_end m n.chain) >>= λ others. Ok (member_named n.chain n.spelled ∷ others)

  name_then : (chain : List Located) → by_name chain ≡ (by_spelled chain >>= on_named)
  unfolding name_of
  name_then chain = by (spelled_name p m chain)
    where
      by : (r : Result (Option (List ℕ)) ℕ) →
          ((r >>= λ spelled. Ok (name_with m spelled)) >>= λ name. onwards (chain_end m chain) >>= λ others. Ok (record { entry = m; name = name } ∷ others)) ≡
          ((r >>= λ spelled. Ok (record { chain = chain; spelled = spelled })) >>= on_named)
      by (Ok s) = refl
      by (Err e) = refl

  chain_then : (r : Result (List Located) ℕ) → (r >>= by_name) ≡ ((r >>= by_spelled) >>= on_named)
  chain_then (Ok chain) = name_then chain
  chain_then (Err e) = refl

  abbrev passed_named : Named → Passed
  passed_named n = record { member = member_named n.chain n.spelled; end = Some (chain_end m n.chain) }

  named_then : (r : Result Named ℕ) → (r >>= on_named) ≡ ((r >>= λ n. Ok (passed_named n)) >>= beyond onwards)
  named_then (Ok n) = refl
  named_then (Err e) = refl

  -- a step is what is passed, and then the path beyond it
  pub step_passes : step_to p m onwards ≡ (passed_at p m >>= beyond onwards)
  unfolding step_to passed_at followed_at followed_of
  step_passes = by (eqb m.item.depth 0)
    where
      by : (b : Bool) → cond b (Ok (record { entry = m; name = None } ∷ [])) (chain_of p m >>= by_name) ≡
          (cond b (Ok (root_passed m)) ((chain_of p m >>= by_spelled) >>= λ n. Ok (passed_named n)) >>= beyond onwards)
      by true = refl
      by false = chain_then (chain_of p m) ∙ named_then (chain_of p m >>= by_spelled)

-- ---- in however many steps

module _ (p : Program) where
  abbrev pub onwards_in : ℕ → Onwards
  onwards_in n end = path_from n p end

  -- with no step left there is no member
  pub none_left : (e m : Located) → scope_around e ≡ Some m → path_from 0 p e ≡ Err REFERENCE_CHAIN
  unfolding path_from
  none_left e m is = ap (λ (o : Option Located). step o (λ m. Err REFERENCE_CHAIN)) is

  pub one_left : (n : ℕ) (e m : Located) → scope_around e ≡ Some m → path_from (suc n) p e ≡ (passed_at p m >>= beyond (onwards_in n))
  unfolding path_from
  one_left n e m is = ap (λ (o : Option Located). step o (λ m. step_to p m (λ end. path_from n p end))) is ∙ step_passes p m (onwards_in n)

  pub at_root : (n : ℕ) (e : Located) → scope_around e ≡ None → path_from n p e ≡ Ok []
  unfolding path_from
  at_root zero e is = ap (λ (o : Option Located). step o (λ m. Err REFERENCE_CHAIN)) is
  at_root (suc n) e is = ap (λ (o : Option Located). step o (λ m. step_to p m (λ end. path_from n p end))) is

  -- a path that has k steps or fewer, or the fault of one that has more
  abbrev pub within : ℕ → List Member → Result (List Member) ℕ
  within k ms = cond (leb (length ms) k) (Ok ms) (Err REFERENCE_CHAIN)

  pub fits : (k : ℕ) (ms : List Member) → length ms ≤ k → within k ms ≡ Ok ms
  fits k ms le = ap (λ (b : Bool). cond b (Ok ms) (Err REFERENCE_CHAIN)) (le-leb (length ms) k le)

  pub too_long : (k : ℕ) (ms : List Member) → k < length ms → within k ms ≡ Err REFERENCE_CHAIN
  too_long k ms gt = ap (λ (b : Bool). cond b (Ok ms) (Err REFERENCE_CHAIN)) (lt-leb (length ms) k gt)

  abbrev with_member : Member → Result (List Member) ℕ → Result (List Member) ℕ
  with_member x r = r >>= λ others. Ok (x ∷ others)

  within_more : (x : Member) (k : ℕ) (ms : List Member) → with_member x (within k ms) ≡ within (suc k) (x ∷ ms)
  within_more x k ms = elim (leb_tells (length ms) k) as (λ _. with_member x (within k ms) ≡ within (suc k) (x ∷ ms)) [
    | inl small ↦ ap (with_member x) (fits k ms small.1) ∙ sym (fits (suc k) (x ∷ ms) (omega (arith, small.1)))
    | inr big ↦ ap (with_member x) (too_long k ms big.1) ∙ sym (too_long (suc k) (x ∷ ms) (omega (arith, big.1)))
  ]

  module _ (n : ℕ) (again : (e : Located) (ms : List Member) → path_from n p e ≡ Ok ms → (k : ℕ) → path_from k p e ≡ within k ms) where
    -- the path beyond what is passed, in k steps
    beyond_again : (x : Passed) (ms : List Member) → beyond (onwards_in n) x ≡ Ok ms → (k : ℕ) → beyond (onwards_in k) x ≡ within (suc k) ms
    beyond_again x ms is k = by x.end refl
      where
        by : (end : Option Located) → x.end ≡ end → beyond (onwards_in k) x ≡ within (suc k) ms
        by None e =
            let here : (j : ℕ) → beyond (onwards_in j) x ≡ Ok (x.member ∷ []) = λ j. ap (λ (o : Option Located). with_member x.member (step o (onwards_in j))) e in
            let whole : x.member ∷ [] ≡ ms = same_ok (x.member ∷ []) ms (sym (here n) ∙ is) in
            here k ∙ sym (fits (suc k) (x.member ∷ []) (omega arith)) ∙ ap (within (suc k)) whole
        by (Some end) e =
            let here : (j : ℕ) → beyond (onwards_in j) x ≡ with_member x.member (path_from j p end) = λ j. ap (λ (o : Option Located). with_member x.member (step o (onwards_in j))) e in
            let b = bind_ok (path_from n p end) (λ others. Ok (x.member ∷ others)) ms (sym (here n) ∙ is) in
            let whole : x.member ∷ b.0 ≡ ms = same_ok (x.member ∷ b.0) ms b.2 in
            here k ∙ ap (with_member x.member) (again end b.0 b.1 k) ∙ within_more x.member k b.0 ∙ ap (within (suc k)) whole

    passed_again : (e m : Located) → scope_around e ≡ Some m → (ms : List Member) → (passed_at p m >>= beyond (onwards_in n)) ≡ Ok ms → (k : ℕ) → path_from k p e ≡ within k ms
    passed_again e m is ms whole zero =
        let b = bind_ok (passed_at p m) (beyond (onwards_in n)) ms whole in
        let c = bind_ok (step b.0.end (onwards_in n)) (λ others. Ok (b.0.member ∷ others)) ms b.2 in
        let some : b.0.member ∷ c.0 ≡ ms = same_ok (b.0.member ∷ c.0) ms c.2 in
        none_left e m is ∙ sym (too_long 0 (b.0.member ∷ c.0) (omega arith)) ∙ ap (within 0) some
    passed_again e m is ms whole (suc k) =
        let b = bind_ok (passed_at p m) (beyond (onwards_in n)) ms whole in
        one_left k e m is ∙ ap (λ (r : Result Passed ℕ). r >>= beyond (onwards_in k)) b.1 ∙ beyond_again b.0 ms b.2 k

  alone : (n : ℕ) (e : Located) → scope_around e ≡ None → (ms : List Member) → path_from n p e ≡ Ok ms → (k : ℕ) → path_from k p e ≡ within k ms
  alone n e none ms is k =
      let empty : [] ≡ ms = same_ok [] ms (sym (at_root n e none) ∙ is) in
      at_root k e none ∙ sym (fits k [] (omega arith)) ∙ ap (within k) empty

  -- a whole path is the same in however many steps that are enough
  pub in_steps : (n : ℕ) (e : Located) (ms : List Member) → path_from n p e ≡ Ok ms → (k : ℕ) → path_from k p e ≡ within k ms
  in_steps zero e ms is k = by (scope_around e) refl
    where
      by : (o : Option Located) → scope_around e ≡ o → path_from k p e ≡ within k ms
      by None none = alone 0 e none ms is k
      by (Some m) some = let never : Err REFERENCE_CHAIN ≡ Ok ms = sym (none_left e m some) ∙ is in absurd cc
  in_steps (suc n) e ms is k = by (in_steps n) (scope_around e) refl
    where
      by : ((e : Located) (ms : List Member) → path_from n p e ≡ Ok ms → (k : ℕ) → path_from k p e ≡ within k ms) → (o : Option Located) → scope_around e ≡ o → path_from k p e ≡ within k ms
      by again None none = alone (suc n) e none ms is k
      by again (Some m) some = passed_again n again e m some ms (sym (one_left n e m some) ∙ is) k
