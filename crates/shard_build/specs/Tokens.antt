-- What is kept of a unit behind all the tokens of its walk.
use Rattle.std.specs.Prelude.{ℕ, List, Option, Some, None, Result, Ok, Err, ⊤}
use Rattle.ix_base.specs.declared.fault.Fault.{Fault}
use Rattle.index_model.specs.declared.unit.Unit.{Unit as UnitHeader}
use Rattle.index_model.specs.Sections.{Section}
use Rattle.index_model.specs.Walk.{Item, Token, Null, Entry, Walk}
use Rattle.shard_build.specs.Kept.{Behind, behind_all}

-- what holds of the entry that the token is
abbrev pub OnEntry : Token → (Item → Type 0) → Type 0
OnEntry (Null depth after) P = ⊤
OnEntry (Entry d) P = P d

-- the fault that ends a walk, if there is one
abbrev pub ended : Option Fault → Result (Unit {0}) Fault
ended None = Ok tt
ended (Some f) = Err f

-- the fault that is there, or else the other meaning
abbrev pub unless : {A : Type 0} → Option Fault → Result A Fault → Result A Fault
unless None r = r
unless (Some f) r = Err f

-- behind the tokens of a walk; the fault that ends it comes first
abbrev pub behind_walk : List Section → ℕ × UnitHeader → Behind → Walk → Result Behind Fault
behind_walk ss u b w = unless w.end (behind_all ss u b w.tokens)
