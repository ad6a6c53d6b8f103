use Rattle.std.proofs.Common.{◌≡◌, ◌≤◌, filter, length, nat_lt, take, None}
use Rattle.std.specs.List.{last_or}
use Rattle.index_model.proofs.spans.Spans.last_open.Given as goal

-- no span from k on is open
abbrev pub invariant-loop-k : goal.invariant-loop-k
invariant-loop-k l = (l.k ≤ length l.self) × (last_or None (filter (λ s. nat_lt l.place s.to) (take l.count l.self)) ≡ last_or None (filter (λ s. nat_lt l.place s.to) (take l.k l.self)))
