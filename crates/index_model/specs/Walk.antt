-- The entries of a unit (DWARF 5, 7.5.2 and 7.5.3; 2.3 for the tree).
use Rattle.std.specs.Prelude.{ℕ, zero, suc, ◌+◌, ◌-◌, Bool, true, false, not, ◌&&◌, ◌||◌, nat_lt, nat_le, ◌==◌, if◌then◌else◌, List, [], ◌∷◌, ◌++◌, length, filter, filter_map, count_by, position, Option, Some, None, Result, Ok, Err}
use Rattle.std.specs.Option.{option_map}
use Rattle.std.specs.List.{last_or}
use Rattle.ix_base.specs.declared.fault.Fault.{Fault}
use Rattle.index_model.specs.declared.unit.Unit.{Unit as UnitHeader}
use Rattle.ix_base.specs.declared.code.TheConstants.{TRUNCATED, BAD_CODE, BAD_ROOT, DEPTH, TRAILING_BYTES}
use Rattle.ix_base.specs.declared.limits.TheConstants.{MAX_DEPTH}
use Rattle.ix_base.specs.Reading.{Input, uleb}
use Rattle.index_model.specs.Meaning.{◌>>=◌, ◌>>◌, fault, holds_or, some_or, at_place}
use Rattle.index_model.specs.Tags.{is_root_tag}
use Rattle.index_model.specs.Abbreviations.{Abbrev, Spec, abbrev_of}
use Rattle.index_model.specs.Forms.{Value, value_at}

-- a debugging information entry: its place and the place behind it, its depth, whether it has children, its tag and its values
pub record Item : Type 0 where
  pub at : ℕ
  pub after : ℕ
  pub depth : ℕ
  pub children : Bool
  pub tag : ℕ
  pub values : List (ℕ × Value)

-- an entry; or a null, with its depth and the place behind it
pub data Token : Type 0 where
  Null : ℕ → ℕ → Token
  Entry : Item → Token

-- whether the token is a null
abbrev pub is_null : Token → Bool
is_null (Null depth after) = true
is_null (Entry d) = false

-- whether the token is an entry with children
abbrev pub has_children : Token → Bool
has_children (Null depth after) = false
has_children (Entry d) = d.children

-- whether the tree has its root, and how many levels are open
pub record Levels : Type 0 where
  pub root : Bool
  pub depth : ℕ

-- behind these tokens: the entries with children minus the nulls
abbrev pub levels : List Token → Levels
levels earlier = record { root = nat_lt 0 (length earlier); depth = count_by has_children earlier - count_by is_null earlier }

-- whether the first byte is zero
abbrev pub begins_with_zero : List ℕ → Bool
begins_with_zero [] = false
begins_with_zero (b ∷ bs) = b == 0

-- The tree ends with the bytes, or where all its levels are closed. It is empty where the first byte is zero.
abbrev pub is_over : Levels → Input → Bool
is_over open_ i = length i.rest == 0 || (if open_.root then open_.depth == 0 else begins_with_zero i.rest)

module _ (u : UnitHeader) (table : List Abbrev) where
  -- the values of the attributes, one after the other
  unfoldable pub values : List Spec → Input → Result (List (ℕ × Value) × Input) ℕ
  values [] i = Ok ([], i)
  values (s ∷ ss) i = do
    v ← value_at u.version u.wide s.form s.constant i
    others ← values ss v.1
    Ok ((s.attribute, v.0) ∷ others.0, others.1)

  -- The entry at a place whose abbreviation is known, and what stands behind it. Its depth is tested, then a root's tag, then its values are read.
  unfoldable pub entry_at : Levels → ℕ → Abbrev → Input → Result (Token × Input) ℕ
  entry_at open_ at a i = do
    holds_or (nat_le open_.depth MAX_DEPTH) DEPTH
    holds_or (open_.root || is_root_tag a.tag) BAD_ROOT
    vs ← values a.specs i
    Ok (Entry (record { at = at; after = vs.1.at; depth = open_.depth; children = a.children; tag = a.tag; values = vs.0 }), vs.1)

  -- the token at the front: a null is code 0, but in the root's place
  unfoldable pub token_at : Levels → Input → Result (Token × Input) ℕ
  token_at open_ i = do
    code ← some_or (uleb i) TRUNCATED
    let entry = some_or (abbrev_of table code.0) BAD_CODE >>= λ a. entry_at open_ i.at a code.1
    if code.0 == 0 && open_.root then Ok (Null open_.depth code.1.at, code.1) else entry

-- ---- the walk: what comes, and how it ends

-- the tokens of the tree that could be read, and the fault that ended the reading, if one did
pub record Walk : Type 0 where
  pub tokens : List Token
  pub end : Option Fault

-- Only zeros stand behind the tree. A byte other than zero is a fault at its place.
unfoldable pub tail_of : Input → Walk
tail_of i = record { tokens = []; end = option_map (λ k. fault TRAILING_BYTES (i.at + k)) (position (λ b. not (b == 0)) i.rest) }

-- a token, and what comes behind it
abbrev pub with_token : Token → Walk → Walk
with_token t more = record more { tokens = t ∷ more.tokens }

-- what follows a token, or the token's fault
abbrev pub behind : Result (Token × Input) Fault → (Token × Input → Walk) → Walk
behind (Ok t) later = with_token t.0 (later t)
behind (Err f) later = record { tokens = []; end = Some f }

module _ (read : Levels → Input → Result (Token × Input) Fault) where
  -- what comes behind the earlier tokens, of which n follow at most
  unfoldable pub walk_from : ℕ → List Token → Input → Walk
  walk_from zero earlier i = tail_of i
  walk_from (suc n) earlier i =
      if is_over (levels earlier) i then tail_of i else
      behind (read (levels earlier) i) (λ t. walk_from n (earlier ++ t.0 ∷ []) t.1)

-- the token at the front, or its fault at that place
abbrev pub token_or_fault : UnitHeader → List Abbrev → Levels → Input → Result (Token × Input) Fault
token_or_fault u table open_ i = at_place i.at (token_at u table open_ i)

-- The walk of a unit, by its abbreviations and its body: the tokens of its tree, one behind the other, and then its tail. Each token takes a byte, so there are no more of them than bytes.
abbrev pub walk_of : UnitHeader → List Abbrev → Input → Walk
walk_of u table body = walk_from (token_or_fault u table) (length body.rest) [] body

-- the entry that the token is
abbrev pub item_in : Token → Option Item
item_in (Null depth after) = None
item_in (Entry d) = Some d

-- the entries of the walk
abbrev pub items : Walk → List Item
items w = filter_map item_in w.tokens

-- The lexical parent: the last earlier item of the same walk with depth one less. A root has none.
abbrev pub parent_of : List Item → Item → Option Item
parent_of ds d = last_or None (filter (λ e. nat_lt e.at d.at && e.depth + 1 == d.depth) ds)
