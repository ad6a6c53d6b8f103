-- Scope paths stay.
use Rattle.std.proofs.Common.{◌≡◌, ℕ, zero, suc, eqb, List, [], ◌∷◌, Option, Some, None, Result, Ok, Err, refl, ◌∙◌}
use Rattle.ix_base.specs.declared.code.TheConstants.{REFERENCE_CHAIN}
use Rattle.ix_base.specs.declared.limits.TheConstants.{MAX_PATH_STEPS}
use Rattle.index_model.specs.declared.unit.Unit.{Unit as UnitHeader}
use Rattle.index_model.specs.Sections.{Section}
use Rattle.index_model.specs.Program.{Walked, Program, Located}
use Rattle.index_model.specs.Chains.{chain_of, chain_end, name_of}
use Rattle.index_model.specs.Names.{Member, scope_of, step, step_to, path_from, scope_path}
use Rattle.index_model.specs.Faults.{scan_of}
use Rattle.grown_alike.specs.Grown.{Grows}
use Rattle.grown_alike.proofs.Kept.{Keeps, keeps_itself, keeps_then, choice_stays}
use Rattle.grown_alike.proofs.SameUnits.{with_walks}
use Rattle.grown_alike.proofs.Scanned.{IsKnown}
use Rattle.grown_alike.proofs.Known.{chain_known, end_known, scope_known}
use Rattle.grown_alike.proofs.Chains.{same_chain, name_keeps}

module _ (first second : List Section) (grows : Grows first second) (us : List UnitHeader) (ws : List Walked) (scan : scan_of first us ≡ Ok ws) where
  abbrev before : Program
  before = with_walks first ws

  abbrev after : Program
  after = with_walks second ws

  pub chain_keeps : (d : Located) → Keeps (chain_of before d) (chain_of after d)
  chain_keeps d = record { on = λ chain is. same_chain first second grows us ws scan d ∙ is }

  abbrev Onwards : Type 0
  Onwards = Located → Result (List Member) ℕ

  -- a member, and the path around the end of its chain
  step_keeps : (m : Located) → IsKnown ws m → (f g : Onwards) → ((e : Located) → IsKnown ws e → Keeps (f e) (g e)) → Keeps (step_to before m f) (step_to after m g)
  unfolding step_to
  step_keeps m known f g onwards = choice_stays (λ (ms : List Member). ms) (eqb m.item.depth 0) _ _ _ _
      (keeps_itself (Ok (record { entry = m; name = None } ∷ [])))
      (keeps_then (chain_of before m) (chain_of after m) _ _ (chain_keeps m) (λ chain is.
      let all = (chain_known before m known).only chain is in
      keeps_then (name_of before m chain) (name_of after m chain) _ _ (name_keeps first second grows us ws scan m chain all) (λ name _.
      keeps_then (f (chain_end m chain)) (g (chain_end m chain)) _ _ (onwards (chain_end m chain) (end_known before m chain known all)) (λ others _.
      keeps_itself (Ok (record { entry = m; name = name } ∷ others))))))

  path_keeps : (n : ℕ) (e : Located) → IsKnown ws e → Keeps (path_from n before e) (path_from n after e)
  unfolding path_from
  path_keeps zero e known = keeps_itself (step (scope_of e) (λ m. Err REFERENCE_CHAIN))
  path_keeps (suc n) e known = by (path_keeps n) (scope_of e) refl
    where
      by : ((d : Located) → IsKnown ws d → Keeps (path_from n before d) (path_from n after d)) → (o : Option Located) → scope_of e ≡ o → Keeps (step o (λ m. step_to before m (λ end. path_from n before end))) (step o (λ m. step_to after m (λ end. path_from n after end)))
      by further None is = keeps_itself (Ok [])
      by further (Some m) is = step_keeps m (scope_known before e m known is) (path_from n before) (path_from n after) further

  pub scope_path_keeps : (e : Located) → IsKnown ws e → Keeps (scope_path before e) (scope_path after e)
  scope_path_keeps = path_keeps MAX_PATH_STEPS
