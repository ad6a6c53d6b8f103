-- The laws of the spans: what stands inside the children of an entry.
use Rattle.std.specs.Prelude.{◌≡◌, ℕ, ◌+◌, ◌-◌, ◌<◌, ◌≤◌, ◌&&◌, nat_le, nat_lt, true, List, filter, drop, codes, Contains, Some, Ok}
use mathlib.Core.Logic.{◌⊎◌}
use Rattle.ix_base.specs.Reading.{Input}
use Rattle.index_model.specs.declared.unit.Unit.{Unit as UnitHeader}
use Rattle.index_model.specs.declared.shard.Span.{Span}
use Rattle.index_model.specs.Sections.{Section, section_bytes}
use Rattle.index_model.specs.Abbreviations.{Abbrev, table}
use Rattle.index_model.specs.Walk.{Item, Walk, items, parent_of, token_or_fault}
use Rattle.index_model.specs.WalkLeft.{left}
use Rattle.index_model.specs.Program.{Walked, walked, items_of, body}
use Rattle.index_model.specs.ShardParts.{span_of, spans_of}

-- the place stands inside the span
abbrev pub Holds : Span → ℕ → Type 0
Holds s place = (s.from ≤ place) × (place < s.to)

-- of the spans that hold the place this one has the greatest from
pub record IsInnermost (spans : List Span) (place : ℕ) (s : Span) : Type 0 where
  pub member : Contains spans s
  pub holds : Holds s place
  pub greatest : (t : Span) → Contains spans t → Holds t place → (t ≡ s) ⊎ (t.from < s.from)

-- the parent of an entry below the root is the entry of the innermost span that holds it
abbrev pub ParentHasTheInnermostSpan : Type 0
ParentHasTheInnermostSpan = (ss : List Section) (u : ℕ × UnitHeader) (w : Walked) → walked ss u ≡ Ok w → (d : Item) → Contains (items_of w) d → 0 < d.depth →
    (e : Item) × (parent_of (items_of w) d ≡ Some e) × IsInnermost (spans_of w) d.at (span_of w e)

-- no span holds a root
abbrev pub NoSpanHoldsARoot : Type 0
NoSpanHoldsARoot = (ss : List Section) (u : ℕ × UnitHeader) (w : Walked) → walked ss u ≡ Ok w → (d : Item) → Contains (items_of w) d → d.depth ≡ 0 →
    (s : Span) → Contains (spans_of w) s → ¬ Holds s d.at

-- the bytes of a unit from a place on
abbrev pub bytes_at : List Section → UnitHeader → ℕ → Input
bytes_at ss u place = record { at = place; rest = drop (place - (u.start + u.body)) (body ss u).rest }

-- a walk that begins where the children of an entry begin, one level below it
abbrev pub resumed : List Section → UnitHeader → List Abbrev → Span → Walk
resumed ss u a s = left (token_or_fault u a) (record { root = true; depth = s.depth + 1 }) (bytes_at ss u s.from)

-- it gives the entries of the whole walk up to where the children end
abbrev pub ResumedGivesTheSame : Type 0
ResumedGivesTheSame = (ss : List Section) (u : ℕ × UnitHeader) (w : Walked) (a : List Abbrev) → table (section_bytes ss (codes ".debug_abbrev")) u.1.«abbrev» ≡ Some a → walked ss u ≡ Ok w →
    (s : Span) → Contains (spans_of w) s →
    filter (λ d. nat_lt d.at s.to) (items (resumed ss u.1 a s)) ≡ filter (λ d. nat_le s.from d.at && nat_lt d.at s.to) (items_of w)
