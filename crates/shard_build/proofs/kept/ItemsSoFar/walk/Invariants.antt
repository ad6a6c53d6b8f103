use Rattle.std.proofs.Common.{◌≡◌, length}
use Rattle.std.specs.Prelude.{Contains}
use Rattle.index_model.specs.Walk.{Item, items}
use Rattle.shard_build.specs.Kept.{kept_seen, behind_all}
use Rattle.shard_build.specs.Texts.{HoldsTexts}
use Rattle.shard_build.proofs.kept.ItemsSoFar.walk.Given as goal

-- what is kept and what is still to come is what all is
abbrev pub invariant-tokens : goal.invariant-tokens
invariant-tokens l = record {
  same : behind_all l.home.sections.now (l.home.number, l.home.unit) (kept_seen l.self) l.walk.tokens ≡ behind_all l.home.sections.now (l.home.number, l.home.unit) (kept_seen l.initial.self) l.initial.walk.tokens;
  strings : l.self.nodes.strings ≡ l.initial.self.nodes.strings;
  end : l.walk.end ≡ l.initial.walk.end;
  texts : (d : Item) → Contains (items l.walk) d → HoldsTexts l.home.bytes.now l.home.unit d;
}

abbrev pub decreases-tokens : goal.decreases-tokens
decreases-tokens l = length l.walk.tokens
