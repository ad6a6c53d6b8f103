-- The link of an entry whose references were followed.
use Rattle.std.specs.Prelude.{◌≡◌, ℕ, true, false, not, ◌||◌, List, Option, Some, None, Result, Ok, Err, IsOkAnd}
use Rattle.ix_base.specs.declared.code.TheConstants.{NAME_TOO_LONG}
use Rattle.index_model.specs.declared.rules.Class.{Class}
use Rattle.index_model.specs.declared.shard.LinkedEntry.{LinkedEntry}
use Rattle.index_model.specs.declared.shard.Node.{Node}
use Rattle.index_model.specs.Meaning.{◌>>◌, holds_or}
use Rattle.index_model.specs.Program.{Program, Located}
use Rattle.index_model.specs.Languages.{class_of_unit}
use Rattle.index_model.specs.Names.{Member}
use Rattle.index_model.specs.Links.{Link, is_link_indexed, is_within_limit, qualified_of}
use Rattle.index_model.specs.ShardParts.{IsNodeOf}
use Rattle.index_model.specs.Shards.{IsLinkedEntryOf}
use Rattle.parent_resolve.specs.declared.traced.Traced.{Traced}
use Rattle.parent_resolve.specs.Followed.{Named}
use Rattle.parent_resolve.specs.Traced.{IsTraced}

-- the link of an entry whose chain, name and path are known
abbrev pub link_with : Program → Located → Named → List Member → Link
link_with p d n path = record { entry = d; class = class_of_unit p d.home; chain = n.chain; spelled = n.spelled; path = path }

-- the same, where the entry isn't indexed or its qualified name isn't too long
unfoldable pub link_tested : Program → Located → Named → List Member → Result Link ℕ
link_tested p d n path = do
  let k = link_with p d n path
  holds_or (not (is_link_indexed k) || is_within_limit (qualified_of k)) NAME_TOO_LONG
  Ok k

-- whatever entry has the node and the class, and was followed with this result: what holds of it with its chain and its name
abbrev pub ForTraced : Node → Class → Traced → (Program → Located → Named → Type 0) → Type 0
ForTraced node class traced Holds = (p : Program) (d : Located) (n : Named) → IsNodeOf p.sections node d → class ≡ class_of_unit p d.home → IsTraced p d traced n → Holds p d n

-- The answer stands for the meaning: the relation holds of both values at Ok, and Err is what is first wrong. There is no want of memory.
abbrev pub StandsAlways : {X Y E : Type 0} → (X → Y → Type 0) → Result X E → Result Y E → Type 0
StandsAlways StandsFor (Ok x) meaning = IsOkAnd meaning (StandsFor x)
StandsAlways StandsFor (Err e) meaning = meaning ≡ Err e

-- the link is that of an indexed entry, of which this is said, or its entry isn't indexed
abbrev pub IsEntryOf : Program → Option LinkedEntry → Link → Type 0
IsEntryOf p None k = is_link_indexed k ≡ false
IsEntryOf p (Some e) k = (is_link_indexed k ≡ true) × IsLinkedEntryOf p e k
