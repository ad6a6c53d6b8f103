-- The stages at which a build has ended are the last.
use Rattle.std.proofs.Common.{◌≡◌, ℕ, ◌≤◌, sym, subst, arith}
use Rattle.index_model.specs.Stages.{cache_written}
use Rattle.index_model.proofs.StageLaws.{last}
use Rattle.index_pool.specs.declared.ended.Ended.{Ended}
use Rattle.index_pool.specs.declared.ended.Ended.TheVariants.{Done, Refused, Stopped}
use Rattle.index_pool.specs.Ends.{stage_at_end, IsLast}

pub high : (e : Ended) → cache_written ≤ stage_at_end e
high Done = omega arith
high Refused = omega arith
high Stopped = omega arith

pub end_is_last : (e : Ended) (s : ℕ) → s ≡ stage_at_end e → IsLast s
end_is_last e s is t reach = last s t (subst (λ (x : ℕ). cache_written ≤ x) (sym is) (high e)) reach
