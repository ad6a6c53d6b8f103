-- What a source in memory is seen as, and what its next call does.
use Rattle.std.specs.Prelude.{ℕ, ◌-◌, List, drop, min, slice_index_or, Contains}
use Rattle.outside.specs.Counts.{one_more}

-- the bytes that are left, the calls that are to fail by their numbers from 1 on, how many bytes
-- each call gives at most, and its counts of calls and of faults
pub record SourceSeen : Type 0 where
  pub left : List ℕ
  pub failing : List ℕ
  pub sizes : List ℕ
  pub calls : ℕ
  pub faults : ℕ

-- how many bytes the call gives to so much room at most, which is all of it past the list of sizes
abbrev pub given_by : List ℕ → ℕ → ℕ → ℕ
given_by sizes call room = min room (slice_index_or sizes (call - 1) room)

-- the next call is one of those that are to fail
abbrev pub IsToFail : SourceSeen → Type 0
IsToFail source = Contains source.failing (one_more source.calls)

-- the source after a call that gave so many bytes
abbrev pub after_giving : SourceSeen → ℕ → SourceSeen
after_giving source n = record source { left = drop n source.left; calls = one_more source.calls }

-- the source after a call that failed
abbrev pub after_fault : SourceSeen → SourceSeen
after_fault source = record source { calls = one_more source.calls; faults = one_more source.faults }
