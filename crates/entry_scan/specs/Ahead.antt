-- What of a walk is still to come.
use Rattle.std.specs.Prelude.{◌≡◌, ◌≤◌, ℕ, [], ◌∷◌, Contains, Option, Some, None, Result, Ok, Err, ⊤}
use Rattle.ix_base.specs.declared.fault.Fault.{Fault}
use Rattle.index_model.specs.Walk as meant
use Rattle.index_model.specs.WalkLeft.{left}
use Rattle.entry_scan.specs.declared.token.Token.{Token}
use Rattle.entry_scan.specs.declared.item.Item.{Item}
use Rattle.entry_scan.specs.declared.tree.Tree.{Tree}
use Rattle.entry_scan.specs.Tokens.{token_seen, levels_seen, joint}

-- nothing but this end
abbrev pub ended : Option Fault → meant.Walk
ended end = record { tokens = []; end = end }

-- what is ahead in a tree
abbrev pub ahead : Tree → meant.Walk
ahead t = left (meant.token_or_fault t.frame.unit t.frame.abbrevs.now) (levels_seen t.levels) (joint t.frame.unit.start t.cursor)

-- the same; behind a fault there is only that fault
abbrev pub unless_stopped : Option Fault → meant.Walk → meant.Walk
unless_stopped (Some f) w = ended (Some f)
unless_stopped None w = w

-- A tree that goes on gave its next token, or the fault at which it ends.
abbrev pub GivesNext : meant.Walk → meant.Walk → Result Token Fault → Type 0
GivesNext old new (Ok t) = old ≡ meant.with_token (token_seen t) new
GivesNext old new (Err f) = old ≡ ended (Some f)

-- The call gave the next token, or the end, at which the walk stays.
abbrev pub GivesToken : meant.Walk → meant.Walk → Result (Option Token) Fault → Type 0
GivesToken old new (Ok (Some t)) = old ≡ meant.with_token (token_seen t) new
GivesToken old new (Ok None) = (old ≡ ended None) × (new ≡ old)
GivesToken old new (Err f) = (old ≡ ended (Some f)) × (new ≡ old)

-- Only nulls stand before the end, and the walk stays there.
pub record EndsSo (old new : meant.Walk) (fault : Option Fault) : Type 0 where
  pub items : meant.items old ≡ []
  pub end : old.end ≡ fault
  pub stays : new ≡ ended fault

-- The next entry, and what is ahead behind it.
pub record BeginsWith (old new : meant.Walk) (d : meant.Item) : Type 0 where
  pub items : meant.items old ≡ d ∷ meant.items new
  pub end : old.end ≡ new.end

-- The call gave the next entry, or the end, at which the walk stays.
abbrev pub GivesItem : meant.Walk → meant.Walk → Result (Option Item) Fault → Type 0
GivesItem old new (Ok (Some d)) = BeginsWith old new d
GivesItem old new (Ok None) = EndsSo old new None
GivesItem old new (Err f) = EndsSo old new (Some f)

-- Each entry of the walk stands at this place or behind it.
abbrev pub StandsBehind : ℕ → meant.Walk → Type 0
StandsBehind place w = (d : meant.Item) → Contains (meant.items w) d → place ≤ d.at

-- the place behind a token
abbrev pub place_behind : meant.Token → ℕ
place_behind (meant.Null depth after) = after
place_behind (meant.Entry d) = d.after

-- What is ahead stands behind the token that was read.
abbrev pub FollowsRead : meant.Walk → Result Token Fault → Type 0
FollowsRead new (Ok t) = StandsBehind (place_behind (token_seen t)) new
FollowsRead new (Err f) = ⊤

-- What is ahead stands behind the token that was given.
abbrev pub FollowsToken : meant.Walk → Result (Option Token) Fault → Type 0
FollowsToken new (Ok (Some t)) = StandsBehind (place_behind (token_seen t)) new
FollowsToken new (Ok None) = ⊤
FollowsToken new (Err f) = ⊤

-- What is ahead stands behind the entry that was given.
abbrev pub FollowsItem : meant.Walk → Result (Option Item) Fault → Type 0
FollowsItem new (Ok (Some d)) = StandsBehind d.after new
FollowsItem new (Ok None) = ⊤
FollowsItem new (Err f) = ⊤
