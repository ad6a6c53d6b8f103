-- The parts that make up a table.
use Rattle.std.specs.Prelude.{◌≡◌, ◌+◌, ◌-◌, ◌≤◌, ◌<◌, ℕ, List, length, map, take, drop, slice_index_or, All, Contains}
use Rattle.entry_scan.specs.declared.abbreviation.Spec.{Spec}
use Rattle.entry_scan.specs.declared.abbreviation.AbbrevHead.{AbbrevHead}
use Rattle.entry_scan.specs.declared.abbreviation.CodeIndex.{CodeIndex}
use Rattle.index_model.specs.Abbreviations as meant
use Rattle.entry_scan.specs.SeenAbbreviations.{spec_seen}
use Rattle.entry_scan.specs.Fronts.{IsFront}
use Rattle.entry_scan.specs.Marks.{AreMarks}
use Rattle.entry_scan.specs.Jumps.{AreJumps}

-- the attributes of a head among those of all heads
abbrev pub own : List Spec → AbbrevHead → List Spec
own specs h = take (h.end - h.start) (drop h.start specs)

-- the abbreviation of a head
abbrev pub head_seen : List Spec → AbbrevHead → meant.Abbrev
head_seen specs h = record { code = h.code; tag = h.tag; children = h.children; specs = map spec_seen (own specs h) }

-- those of all heads
abbrev pub heads_seen : List Spec → List AbbrevHead → List meant.Abbrev
heads_seen specs heads = map (head_seen specs) heads

-- a list whose front is the other
abbrev pub Extends : {A : Type 0} → List A → List A → Type 0
Extends old new = take (length old) new ≡ old

-- the attributes of a head are among these, begin with its front, and have its marks and its jumps
pub record IsWithin (specs : List Spec) (h : AbbrevHead) : Type 0 where
  pub start : h.start ≤ h.end
  pub end : h.end ≤ length specs
  pub front : IsFront (own specs h) h.front
  pub marks : AreMarks (own specs h) h.marks
  pub jumps : AreJumps (own specs h) h.jumps

-- the place of the head at an index
abbrev pub place_at : List AbbrevHead → ℕ → AbbrevHead → CodeIndex
place_at heads k d = record { code = (slice_index_or heads k d).code; index = k }

-- how many heads aren't among the others
abbrev pub in_front : List AbbrevHead → List CodeIndex → ℕ
in_front heads others = length heads - length others

-- The heads at the front have the codes 1, 2, 3 and so on, and the others are the places of those behind them.
pub record IsSplit (heads : List AbbrevHead) (others : List CodeIndex) : Type 0 where
  pub fewer : length others ≤ length heads
  pub front : (k : ℕ) (d : AbbrevHead) → k < in_front heads others → (slice_index_or heads k d).code ≡ k + 1
  pub behind : (k : ℕ) (d : AbbrevHead) (e : CodeIndex) → k < length others → slice_index_or others k e ≡ place_at heads (in_front heads others + k) d

-- the first place isn't behind the second, by code and then by index
pub record IsBefore (x y : CodeIndex) : Type 0 where
  pub code : x.code ≤ y.code
  pub index : x.code ≡ y.code → x.index ≤ y.index

-- no place is behind a later one
abbrev pub AreInOrder : List CodeIndex → Type 0
AreInOrder places = (i j : ℕ) (d : CodeIndex) → i ≤ j → j < length places → IsBefore (slice_index_or places i d) (slice_index_or places j d)

-- the places below r have lower codes, and those from r on have not
pub record Cuts (places : List CodeIndex) (code r : ℕ) : Type 0 where
  pub below : (k : ℕ) (d : CodeIndex) → k < r → (slice_index_or places k d).code < code
  pub above : (k : ℕ) (d : CodeIndex) → r ≤ k → k < length places → code ≤ (slice_index_or places k d).code

-- The same, with the places of the others sorted.
pub record IsSearchable (heads : List AbbrevHead) (others : List CodeIndex) : Type 0 where
  pub fewer : length others ≤ length heads
  pub front : (k : ℕ) (d : AbbrevHead) → k < in_front heads others → (slice_index_or heads k d).code ≡ k + 1
  pub each : All (λ (o : CodeIndex). (o.index < length heads) × ((d : AbbrevHead) → (slice_index_or heads o.index d).code ≡ o.code)) others
  pub all : (k : ℕ) (d : AbbrevHead) → in_front heads others ≤ k → k < length heads → Contains others (place_at heads k d)
  pub sorted : AreInOrder others
