-- Calls that stop as one that they make.
use Rattle.std.proofs.Common.{◌≡◌, Result, Ok, Err, sym, ◌∙◌, subst}
use Rattle.std.specs.Prelude.{IsErrAnd, IfErr}
use Rattle.index_model.specs.WriteStops.{WriteStop, too_large}
use Rattle.ix_base.specs.declared.or_memory.OrMemory.TheVariants.{Cause, Memory}
use Rattle.debugnames_write.specs.Answers.{StopsAt, Answers}

pub stops : {Q R : Type 0} (e : WriteStop) → StopsAt e Q → (Q → R) → StopsAt e R
stops (Cause t) h go = go h
stops Memory h go = tt

-- what a `?` passes on
pub stopped : {A Q R : Type 0} (r : Result A WriteStop) (e : WriteStop) (P : A → Type 0) → IsErrAnd r (λ y. y ≡ e) → StopsAt e Q → (Q → R) → Answers r P R
stopped (Ok x) e P same h go = absurd same
stopped {R = R} (Err y) e P same h go = subst (λ (w : WriteStop). StopsAt w R) (sym same) (stops e h go)

-- and what that says of a call that is too large
pub stopped_large : {A Q R : Type 0} (r : Result A WriteStop) (e : WriteStop) → IsErrAnd r (λ y. y ≡ e) → StopsAt e Q → (Q → R) → IfErr r (λ stop. stop ≡ too_large → R)
stopped_large (Ok x) e same h go = absurd same
stopped_large {Q = Q} (Err y) e same h go = λ large. go (subst (λ (w : WriteStop). StopsAt w Q) (sym same ∙ large) h)
