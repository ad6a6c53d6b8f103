-- What is left of a walk, by the number of levels that are open: the form that a cursor over the entries keeps.
use Rattle.std.specs.Prelude.{ℕ, zero, suc, ◌+◌, ◌-◌, true, if◌then◌else◌, length, Result}
use Rattle.ix_base.specs.declared.fault.Fault.{Fault}
use Rattle.ix_base.specs.Reading.{Input}
use Rattle.index_model.specs.Walk.{Token, Null, Entry, Levels, Walk, is_over, behind, tail_of}

-- a null closes a level, and an entry with children opens one
abbrev pub levels_after : Levels → Token → Levels
levels_after open_ (Null depth after) = record { root = true; depth = open_.depth - 1 }
levels_after open_ (Entry d) = record { root = true; depth = if d.children then open_.depth + 1 else open_.depth }

module _ (read : Levels → Input → Result (Token × Input) Fault) where
  -- the same, of at most n tokens
  unfoldable pub left_from : ℕ → Levels → Input → Walk
  left_from zero open_ i = tail_of i
  left_from (suc n) open_ i =
      if is_over open_ i then tail_of i else
      behind (read open_ i) (λ t. left_from n (levels_after open_ t.0) t.1)

  -- what is left of the walk behind these levels
  abbrev pub left : Levels → Input → Walk
  left open_ i = left_from (length i.rest) open_ i
