-- The entries inside the children of an entry.
use Rattle.std.specs.Prelude.{ℕ, ◌+◌, ◌-◌, true, List, drop}
use Rattle.ix_base.specs.Reading.{Input}
use Rattle.index_model.specs.declared.unit.Unit.{Unit as UnitHeader}
use Rattle.index_model.specs.declared.shard.Span.{Span}
use Rattle.index_model.specs.Abbreviations.{Abbrev}
use Rattle.index_model.specs.Walk.{Walk, walk_of, token_or_fault}
use Rattle.index_model.specs.WalkLeft.{left}
use Rattle.index_model.specs.Program.{Walked}

-- the bytes of a unit from its first entry on, as joint offsets count them
abbrev pub tree_of : UnitHeader → List ℕ → Input
tree_of u bytes = record { at = u.start + u.body; rest = drop u.body bytes }

-- the walk of the unit with a number, by its own bytes
abbrev pub walked_of : UnitHeader → List Abbrev → List ℕ → ℕ → Walked
walked_of u table bytes number = record { number = number; unit = u; walk = walk_of u table (tree_of u bytes) }

-- the walk that begins where a span does, one level below the entry of the span
abbrev pub inside_of : UnitHeader → List Abbrev → List ℕ → Span → Walk
inside_of u table bytes s = left (token_or_fault u table) (record { root = true; depth = s.depth + 1 }) (record { at = s.from; rest = drop (s.from - u.start) bytes })
