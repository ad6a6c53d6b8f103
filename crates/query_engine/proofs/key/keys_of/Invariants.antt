use Rattle.std.proofs.Common.{◌≡◌, take}
use Rattle.std.specs.List.{enumerate_from}
use Rattle.query_engine.specs.Seen.{pairs_seen, texts_seen}
use Rattle.query_engine.proofs.key.keys_of.Given as goal

abbrev pub invariant-loop-number : goal.invariant-loop-number
invariant-loop-number l = pairs_seen l.keys.items ≡ enumerate_from 0 (texts_seen (take l.number l.texts))
