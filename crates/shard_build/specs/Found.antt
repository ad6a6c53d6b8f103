-- Where an entry of a file is found by the shards of its units.
use Rattle.std.specs.Prelude.{◌≡◌, ℕ, ◌-◌, Bool, ◌&&◌, nat_le, nat_lt, List, length, Contains, Option, Some, None, option_map, Ok}
use Rattle.index_model.specs.declared.shard.Shard.{Shard}
use Rattle.index_model.specs.declared.shard.Span.{Span}
use Rattle.index_model.specs.Faults.{program_of}
use Rattle.index_model.specs.Parents.{parent_offset}
use Rattle.index_model.specs.Program.{Walked, Program, Located, items_of, item_with_offset}
use Rattle.index_model.specs.ShardParts.{spans_of, item_in_span}
use Rattle.index_model.specs.Shards.{StandsFor, IsRunOf}
use Rattle.index_model.specs.Walk.{Item}
use Rattle.shard_build.specs.declared.found.NodeOrSpan.{NodeOrSpan}
use Rattle.shard_build.specs.declared.found.NodeOrSpan.TheVariants.{Kept, Within, Nowhere}
use Rattle.shard_build.specs.Entries.{IsNodeIn}

-- the unit is one of the shard's run
abbrev pub has_unit : ℕ → Shard → Bool
has_unit unit s = nat_le s.first unit && nat_lt (unit - s.first) (length s.roots)

-- if an entry of the file stands at the offset, the answer is the number of its unit
abbrev pub IsUnitAt : List ℕ → ℕ → Option ℕ → Type 0
IsUnitAt f o answer = (p : Program) → program_of f ≡ Ok p → (w : Walked) → Contains p.walks w → (d : Item) → Contains (items_of w) d → d.at ≡ o → answer ≡ Some w.number

-- the entry at the offset in a span of the unit, if there is one
abbrev pub located_in_span : Walked → Span → ℕ → Option Located
located_in_span w s o = option_map (λ d. record { home = w; item = d }) (item_in_span w s o)

-- the entry of the span is the parent of the one that stands in it at the offset, if there is one
abbrev pub IsSpanOfParent : Walked → Span → ℕ → Type 0
IsSpanOfParent w s o = (d : Located) → located_in_span w s o ≡ Some d → parent_offset d ≡ Some s.entry

-- the entry at the offset, if there is one, stands in the span of its parent
pub record IsWithin (p : Program) (o : ℕ) (s : Span) : Type 0 where
  pub home : Walked
  pub unit : Contains p.walks home
  pub span : Contains (spans_of home) s
  pub same : item_with_offset p o ≡ located_in_span home s o
  pub parent : IsSpanOfParent home s o

-- the entry at the offset, if there is one, is found there
abbrev pub IsFound : Program → ℕ → NodeOrSpan → Type 0
IsFound p o (Kept n) = IsNodeIn p.sections (Some n) (item_with_offset p o)
IsFound p o (Within s) = IsWithin p o s
IsFound p o Nowhere = item_with_offset p o ≡ None

-- Whatever run of a file's units the Shard stands for: if the entry at the offset stands in one of them or nowhere, it is found there.
abbrev pub IsFoundIn : Shard → ℕ → NodeOrSpan → Type 0
IsFoundIn s o found = (f : List ℕ) (p : Program) (run : List Walked) → program_of f ≡ Ok p → IsRunOf p run → StandsFor p.sections s run →
    ((d : Located) → item_with_offset p o ≡ Some d → Contains run d.home) → IsFound p o found
