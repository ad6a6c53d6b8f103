-- What contracts see of a lock and of its passes.
use Rattle.std.specs.Prelude.{◌≡◌, ◌≢◌, ℕ, Bool, true, false, List, [], ◌∷◌, Option, Some, None, IsSome}
use Rattle.atomic_table.specs.Table.{Me}
use Rattle.atomic_table.specs.Seated.{TableId}
use Rattle.stage_lock.specs.declared.known.Known.{Known}
use Rattle.stage_lock.specs.declared.known.Share.{Share}
use Rattle.stage_lock.specs.declared.known.Turn.{Turn}
use Rattle.stage_lock.specs.declared.known.Turn.TheVariants.{Without, Out}
use Rattle.stage_lock.specs.Shares.{whole_share, half_of}

-- A lock: what no other lock shares with it, and what no event of its value changes.
pub record Lock (X : Type 0) : Type 0 where
  pub id : TableId
  pub subject : X

-- A pass.
pub record Seen (V X : Type 0) : Type 0 where
  -- the lock that it is of
  pub id : TableId
  pub subject : Option X
  -- its share in the lock
  pub share : Share
  -- the stages that its own calls of `mark` loaded, in order
  pub marks : List ℕ
  -- the highest stage that it has seen, or that a pass that it came from or took in has seen
  pub floor : ℕ
  -- whether it holds the value
  pub holding : Bool
  -- how often it entered
  pub turns : ℕ
  -- the value that its last `enter` took out
  pub value_out : Option V
  -- the value that its last `leave` put back
  pub value_back : Option V

-- the pass is one of this lock
abbrev pub IsPassOf : {V X : Type 0} → Lock X → Seen V X → Type 0
IsPassOf lock pass = (pass.id ≡ lock.id) × (pass.subject ≡ Some lock.subject)

-- the first pass of a lock, with this floor
abbrev pub first_pass : {V X : Type 0} → Lock X → ℕ → Seen V X
first_pass lock floor = record { id = lock.id; subject = Some lock.subject; share = whole_share; marks = []; floor = floor; holding = false; turns = 0; value_out = None; value_back = None }

-- a pass after another was split from it
abbrev pub parted_pass : {V X : Type 0} → Seen V X → Seen V X
parted_pass pass = record pass { share = half_of pass.share }

-- a pass that was split from another
abbrev pub split_pass : {V X : Type 0} → Seen V X → Seen V X
split_pass pass = record { id = pass.id; subject = pass.subject; share = half_of pass.share; marks = []; floor = pass.floor; holding = false; turns = 0; value_out = None; value_back = None }

-- whether a pass that is so far with its turn holds the value: from the start of its turn to the end
abbrev pub is_holding : Turn → Bool
is_holding Without = false
is_holding _ = true

-- a pass by what it knows
abbrev pub seen : {V X : Type 0} → TableId → Known V X → Seen V X
seen id v = record { id = id; subject = v.about; share = v.share; marks = v.marks; floor = v.floor; holding = is_holding v.turn; turns = v.turns; value_out = v.value_out; value_back = v.value_back }

-- between two calls a pass isn't spent or within a join, and either is without the turn, or holds the value, which lies with its caller
abbrev pub IsWell : {V X : Type 0} → Me (Option V) (Known V X) → Type 0
IsWell me =
    IsSome me.0.about × (me.0.old_floors ≡ []) × (me.0.turn ≡ Without → me.1 ≡ [])
    × (me.0.turn ≢ Without → (me.0.turn ≡ Out) × (me.1 ≡ (0, None) ∷ []) × IsSome me.0.value_out)
