-- What a session writes while the index of a file is built, and what that of `serve` does.
use Rattle.std.specs.Prelude.{◌≡◌, ◌≤◌, ◌<◌, ◌⊎◌, ◌^◌, ℕ, List, [], ◌∷◌, ◌++◌, length, Bool, All, IsSome}
use Rattle.outside.specs.Taken.{Takes, IsAtEnd}
use Rattle.index_model.specs.declared.job.CacheKind.TheVariants.{Gdb8}
use Rattle.index_model.specs.Cache.{size_in}
use Rattle.index_model.specs.Faults.{built_of, first_fault, IsAccepted}
use Rattle.index_model.specs.Stages.{initial, stopped, IsReachable}
use Rattle.index_model.specs.Transcripts.{lines_of}
use Rattle.query_text.specs.Spelled.{transcript_in}
use Rattle.query_text.specs.Sessions.{look_ups, HasLongLine, IsShort, TakesUntil}
use Rattle.query_text.specs.WholeLines.{known_lines, whole_lines_of}
use Rattle.session_base.specs.Heard.{Heard}
use Rattle.name_quotes.specs.declared.quote.Spelling.{Spelling}

-- ---- one session

-- the stages 1 to 3 are those of a file without a fault, and stage 4 is that of one with a fault
pub record IsStageOf (file : List ℕ) (stage : ℕ) : Type 0 where
  pub accepted : 1 ≤ stage → stage ≤ 3 → IsAccepted file
  pub refused_ : stage ≡ 4 → IsSome (first_fault file)

-- digits of looks, from a stage on: each is reachable from the one before it and is a stage of the file
abbrev pub AreDigits : List ℕ → ℕ → List ℕ → Type 0
AreDigits file floor [] = Unit {0}
AreDigits file floor (digit ∷ digits) = IsReachable floor digit × IsStageOf file digit × AreDigits file digit digits

module _ (spelling : Spelling) where
  -- The text is that of these lines: each look-up among them has the next of some digits, none below the least or above the most,
  -- and the reply at that stage.
  pub record IsTranscript (file : List ℕ) (least most : ℕ) (lines : List (List ℕ)) (text : List ℕ) : Type 0 where
    pub digits : List ℕ
    pub count : length digits ≡ look_ups lines
    pub each : AreDigits file initial digits
    pub range : All (λ digit. (least ≤ digit) × (digit ≤ most)) digits
    pub text_is : text ≡ transcript_in spelling (built_of file) (size_in Gdb8 (built_of file)) lines digits

  -- ---- `serve`

  -- the input was read to its end, and the text answers all of its lines, none of which is too long
  pub record Serves (file : List ℕ) (least most : ℕ) (heard : Heard) (text : List ℕ) : Type 0 where
    pub taken : List ℕ
    pub takes : Takes heard.left_old heard.left_new taken
    pub end : IsAtEnd heard.left_new
    pub few : length taken < 2 ^ 32
    pub short : All IsShort (lines_of taken)
    pub says : IsTranscript file least most (lines_of taken) text

  -- the text answers the lines of what was taken that are whole, none of which is too long
  pub record ServesWhole (file : List ℕ) (least : ℕ) (heard : Heard) (text : List ℕ) : Type 0 where
    pub taken : List ℕ
    pub takes : Takes heard.left_old heard.left_new taken
    pub few : length taken ≤ 2 ^ 32
    pub short : All IsShort (whole_lines_of taken)
    pub says : IsTranscript file least stopped (whole_lines_of taken) text

  -- the same, behind which stands a line that is longer than the longest, or so many bytes that no more are taken
  pub record ServesLong (file : List ℕ) (least : ℕ) (heard : Heard) (text : List ℕ) : Type 0 where
    pub whole : ServesWhole file least heard text
    pub long : HasLongLine whole.taken ⊎ (length whole.taken ≡ 2 ^ 32)

  -- the text answers the first lines of what was taken, none of which is too long
  pub record ServesPart (file : List ℕ) (least : ℕ) (heard : Heard) (text : List ℕ) : Type 0 where
    pub taken : List ℕ
    pub ended : Bool
    pub takes : TakesUntil heard.left_old heard.left_new ended taken
    pub few : length taken ≤ 2 ^ 32
    pub short : All IsShort (known_lines ended taken)
    pub lines : List (List ℕ)
    pub rest : List (List ℕ)
    pub front : lines ++ rest ≡ known_lines ended taken
    pub says : IsTranscript file least stopped lines text
