-- The tokens of a unit, as the definitions see them.
use Rattle.std.specs.Prelude.{ℕ, ◌+◌, ⊤}
use Rattle.ix_base.specs.Reading.{Input}
use Rattle.index_model.specs.Walk as meant
use Rattle.entry_scan.specs.declared.token.Token.{Token}
use Rattle.entry_scan.specs.declared.token.Token.TheVariants.{Null, Entry}
use Rattle.entry_scan.specs.declared.token.Levels.{Levels}

-- the same token
abbrev pub token_seen : Token → meant.Token
token_seen (Null depth after) = meant.Null depth after
token_seen (Entry d) = meant.Entry d

-- the same levels
abbrev pub levels_seen : Levels → meant.Levels
levels_seen l = record { root = l.root; depth = l.depth }

-- a place in a unit's own bytes, counted as joint offsets are
abbrev pub joint : ℕ → Input → Input
joint start i = record { at = start + i.at; rest = i.rest }

-- what holds where the token is an entry
abbrev pub OnEntry : Token → Type 0 → Type 0
OnEntry (Null depth after) P = ⊤
OnEntry (Entry d) P = P
