-- What the sessions of `race` write: those of each reader over a script, one while the index of a file is built and one after it.
use Rattle.std.specs.Prelude.{◌≡◌, ◌<◌, ◌≤◌, ℕ, ◌+◌, ◌^◌, List, [], ◌∷◌, ◌++◌, length, map, All, codes, decimal, IsSome}
use Rattle.index_model.specs.Faults.{first_fault, IsAccepted}
use Rattle.index_model.specs.Stages.{initial, cache_written, refused, stopped}
use Rattle.index_model.specs.Texts.{line}
use Rattle.index_model.specs.Transcripts.{lines_of}
use Rattle.query_text.specs.Sessions.{HasLongLine, IsShort}
use Rattle.query_text.specs.WholeLines.{whole_lines_of}
use Rattle.session_base.specs.Sessions.{AreDigits, IsTranscript}
use Rattle.command_base.specs.declared.status.Status.{Status}
use Rattle.command_base.specs.declared.status.Status.TheVariants.{Answered, Refused, InputTooLong, Stopped}
use Rattle.name_quotes.specs.declared.quote.Spelling.{Spelling}

-- ---- the lines of a script that a session answers

-- all of them, none of which is too long
pub record AreAll (script : List ℕ) (lines : List (List ℕ)) : Type 0 where
  pub all : lines ≡ lines_of script
  pub few : length script < 2 ^ 32
  pub short : All IsShort lines

-- those that are whole before the first that is too long
pub record AreBeforeLong (script : List ℕ) (lines : List (List ℕ)) : Type 0 where
  pub taken : List ℕ
  pub rest : List ℕ
  pub front : script ≡ taken ++ rest
  pub few : length taken ≤ 2 ^ 32
  pub long : HasLongLine taken
  pub whole : lines ≡ whole_lines_of taken
  pub short : All IsShort lines

-- the first of them, none of which is too long
pub record AreFirst (script : List ℕ) (lines : List (List ℕ)) : Type 0 where
  pub rest : List (List ℕ)
  pub front : lines ++ rest ≡ lines_of script
  pub short : All IsShort lines

-- ---- both sessions of a reader

-- their texts
pub record Texts : Type 0 where
  pub during : List ℕ
  pub after : List ℕ

-- ---- all readers

-- a word and the number of each reader on a line, from a number on, and behind it the text of its session
abbrev pub round_text : List ℕ → ℕ → List (List ℕ) → List ℕ
round_text word number [] = []
round_text word number (text ∷ texts) = line (word ∷ decimal number ∷ []) ++ (text ++ round_text word (number + 1) texts)

-- the sessions during the build, and then those after it
abbrev pub race_text : List Texts → List ℕ
race_text all = round_text (codes "during") 0 (map (λ t. t.during) all) ++ round_text (codes "after") 0 (map (λ t. t.after) all)

module _ (spelling : Spelling) where
  -- The texts are those of such lines. No digit is above the most, those of the second session are 3 or more, and each is
  -- reachable from the one before it, over both sessions.
  pub record SaysTwice (file : List ℕ) (most : ℕ) (Lines : List (List ℕ) → Type 0) (texts : Texts) : Type 0 where
    pub first_lines : List (List ℕ)
    pub first_are : Lines first_lines
    pub first : IsTranscript spelling file initial most first_lines texts.during
    pub second_lines : List (List ℕ)
    pub second_are : Lines second_lines
    pub second : IsTranscript spelling file cache_written most second_lines texts.after
    pub rises : AreDigits file initial (first.digits ++ second.digits)

  -- the text is that of so many readers
  pub record Races (file : List ℕ) (readers most : ℕ) (Lines : List (List ℕ) → Type 0) (text : List ℕ) : Type 0 where
    pub all : List Texts
    pub count : length all ≡ readers
    pub each : All (SaysTwice file most Lines) all
    pub text_is : text ≡ race_text all

  -- Readers over a file and a script. Where they ended well, all lines were answered and no look was at stage 5.
  abbrev pub SaysRace : List ℕ → ℕ → List ℕ → Status → List ℕ → Type 0
  SaysRace file readers script Answered text = IsAccepted file × Races file readers refused (AreAll script) text
  SaysRace file readers script Refused text = IsSome (first_fault file) × Races file readers refused (AreAll script) text
  SaysRace file readers script InputTooLong text = Races file readers stopped (AreBeforeLong script) text
  SaysRace file readers script Stopped text = Races file readers stopped (AreFirst script) text
  SaysRace file readers script other text = ⊥
