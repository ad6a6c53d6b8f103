-- Lines of which the newline is known, and the bytes behind the last of them.
use Rattle.std.specs.Prelude.{◌≡◌, ◌≢◌, ℕ, ◌+◌, ◌==◌, if◌then◌else◌, Bool, List, [], ◌∷◌, ◌++◌, take, drop, flat_map, Option, Some, None}
use Rattle.std.specs.List.{AllByRecursion}
use Rattle.index_model.specs.Texts.{newline}
use Rattle.index_model.specs.Transcripts.{lines_of}

-- a byte before the first of some lines; with no line behind it, it is in none that is whole
abbrev pub onto_whole : ℕ → List (List ℕ) → List (List ℕ)
onto_whole c [] = []
onto_whole c (line ∷ lines) = (c ∷ line) ∷ lines

-- the lines that have their newline
unfoldable pub whole_lines_of : List ℕ → List (List ℕ)
whole_lines_of [] = []
whole_lines_of (c ∷ cs) = if c == 10 then [] ∷ whole_lines_of cs else onto_whole c (whole_lines_of cs)

-- the lines that are known to be whole once so much of an input was taken: all of them where it has ended, and before that those
-- that have their newline
abbrev pub known_lines : Bool → List ℕ → List (List ℕ)
known_lines ended taken = if ended then lines_of taken else whole_lines_of taken

-- bytes within one line
abbrev pub HasNoNewline : List ℕ → Type 0
HasNoNewline bytes = AllByRecursion (λ b. b ≢ 10) bytes

-- the place of the first newline, if there is one
abbrev pub IsFirstNewline : List ℕ → Option ℕ → Type 0
IsFirstNewline bytes None = HasNoNewline bytes
IsFirstNewline bytes (Some end) = HasNoNewline (take end bytes) × (bytes ≡ take end bytes ++ (newline ++ drop (end + 1) bytes))

-- the bytes are these lines, each with its newline
pub record Spells (bytes : List ℕ) (lines : List (List ℕ)) : Type 0 where
  pub spelled : bytes ≡ flat_map (λ line. line ++ newline) lines
  pub each : AllByRecursion HasNoNewline lines
