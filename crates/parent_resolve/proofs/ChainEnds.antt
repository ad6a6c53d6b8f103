-- A chain ends at an entry of the program.
use Rattle.std.proofs.Common.{◌≡◌, ℕ, zero, suc, List, [], ◌∷◌, Option, Some, None, Ok, Err, ap, subst, ◌∙◌}
use Rattle.std.specs.Prelude.{Contains}
use Rattle.ix_base.specs.declared.code.TheConstants.{BAD_REFERENCE, REFERENCE_CHAIN}
use Rattle.ix_base.specs.declared.limits.TheConstants.{MAX_CHAIN_HOPS}
use Rattle.index_model.specs.Attributes.{Reference, next_reference}
use Rattle.index_model.specs.Chains.{chain_end, chain_of, hop, hops_from, next_of}
use Rattle.index_model.specs.Meaning.{◌>>=◌, if_some, some_or}
use Rattle.index_model.specs.Program.{Program, Located}
use Rattle.index_model.specs.References.{entry_named}
use Rattle.index_model.proofs.Meanings.{bind_ok, same_ok, some_ok}
use Rattle.shard_build.specs.Entries.{entry_meant}
use Rattle.parent_resolve.specs.Followed.{all_entries}
use Rattle.parent_resolve.proofs.ChainLaws.{meant_entry}

module _ (p : Program) where
  next_there : (d e : Located) → next_of p d ≡ Ok (Some e) → Contains (all_entries p) e
  unfolding next_of entry_named
  next_there d e is = by (next_reference d.item) is
    where
      by : (o : Option Reference) → if_some o (λ r. some_or (entry_meant p d.home r) BAD_REFERENCE >>= λ target. Ok (Some target)) ≡ Ok (Some e) → Contains (all_entries p) e
      by None h = absurd cc
      by (Some r) h =
          let t = some_ok (entry_meant p d.home r) BAD_REFERENCE (λ target. Ok (Some target)) (Some e) h in
          let same : t.0 ≡ e = cc in
          meant_entry p d.home r e (t.1 ∙ ap {B = Option Located} (λ (x : Located). Some x) same)

  hops_there : (n : ℕ) (d : Located) → Contains (all_entries p) d → (others : List Located) → hops_from n p d ≡ Ok others → Contains (all_entries p) (chain_end d others)
  unfolding hops_from
  hops_there zero d there others is =
      let a = bind_ok (next_of p d) (λ next. hop next (λ _. Err REFERENCE_CHAIN)) others is in
      by a.0 a.2
    where
      by : (next : Option Located) → hop next (λ _. Err REFERENCE_CHAIN) ≡ Ok others → Contains (all_entries p) (chain_end d others)
      by None h = subst (λ (es : List Located). Contains (all_entries p) (chain_end d es)) (same_ok [] others h) there
      by (Some e) h = absurd cc
  hops_there (suc n) d there others is =
      let a = bind_ok (next_of p d) (λ next. hop next (λ e. hops_from n p e >>= λ more. Ok (e ∷ more))) others is in
      by (hops_there n) a.0 a.1 a.2
    where
      by : ((e : Located) → Contains (all_entries p) e → (more : List Located) → hops_from n p e ≡ Ok more → Contains (all_entries p) (chain_end e more)) → (next : Option Located) → next_of p d ≡ Ok next → hop next (λ e. hops_from n p e >>= λ more. Ok (e ∷ more)) ≡ Ok others → Contains (all_entries p) (chain_end d others)
      by again None own h = subst (λ (es : List Located). Contains (all_entries p) (chain_end d es)) (same_ok [] others h) there
      by again (Some e) own h =
          let b = bind_ok (hops_from n p e) (λ more. Ok (e ∷ more)) others h in
          subst (λ (es : List Located). Contains (all_entries p) (chain_end d es)) (same_ok (e ∷ b.0) others b.2) (again e (next_there d e own) b.0 b.1)

  -- so does that of an entry of the program
  pub end_there : (d : Located) → Contains (all_entries p) d → (chain : List Located) → chain_of p d ≡ Ok chain → Contains (all_entries p) (chain_end d chain)
  unfolding chain_of
  end_there d there chain is =
      let a = bind_ok (hops_from MAX_CHAIN_HOPS p d) (λ others. Ok (d ∷ others)) chain is in
      subst (λ (es : List Located). Contains (all_entries p) (chain_end d es)) (same_ok (d ∷ a.0) chain a.2) (hops_there MAX_CHAIN_HOPS d there a.0 a.1)
