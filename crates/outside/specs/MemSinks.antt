-- What a sink in memory is seen as, and what its next call does.
use Rattle.std.specs.Prelude.{ℕ, ◌-◌, List, ◌++◌, min, slice_index_or, Contains}
use Rattle.outside.specs.Counts.{one_more}

-- the bytes that it took, the calls that are to fail by their numbers from 1 on, how many bytes
-- each call takes at most, and its counts of calls and of faults
pub record SinkSeen : Type 0 where
  pub bytes : List ℕ
  pub failing : List ℕ
  pub sizes : List ℕ
  pub calls : ℕ
  pub faults : ℕ

-- how many bytes of a piece the call takes, which is all of them past the list of sizes
abbrev pub taken_by : List ℕ → ℕ → ℕ → ℕ
taken_by sizes call len = min len (slice_index_or sizes (call - 1) len)

-- the next call is one of those that are to fail
abbrev pub IsToFail : SinkSeen → Type 0
IsToFail sink = Contains sink.failing (one_more sink.calls)

-- the sink after a call that took these bytes
abbrev pub after_taking : SinkSeen → List ℕ → SinkSeen
after_taking sink bytes = record sink { bytes = sink.bytes ++ bytes; calls = one_more sink.calls }

-- the sink after a call that failed
abbrev pub after_fault : SinkSeen → SinkSeen
after_fault sink = record sink { calls = one_more sink.calls; faults = one_more sink.faults }
