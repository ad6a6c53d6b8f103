use Rattle.std.proofs.Common.{◌≡◌, ℕ, ◌<◌, ◌∷◌, length, get_or}
use Rattle.query_engine.specs.Groups.{IsGroupAt}
use Rattle.query_engine.specs.Seen.{texts_seen}
use Rattle.query_engine.proofs.groups.groups_of.Given as goal

abbrev pub invariant-loop-k : goal.invariant-loop-k
invariant-loop-k l = record {
  size : length l.groups.items ≡ l.k;
  start : l.start ≡ get_or (0 ∷ l.ends) l.k 0;
  each : (j : ℕ) → j < l.k → IsGroupAt (texts_seen l.texts) l.ends l.groups.items j;
}
