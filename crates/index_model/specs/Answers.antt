-- Answers and replies (DWARF 5, 6.1, for what a look-up by name or by address is).
use Rattle.std.specs.Prelude.{ℕ, Bool, not, ◌&&◌, nat_lt, nat_le, if◌then◌else◌, List, filter, map, filter_map, slice_get, bytes_eq, Option, Result, Ok, Err}
use Rattle.std.specs.List.{enumerate_from}
use Rattle.ix_base.specs.declared.fault.Fault.{Fault}
use Rattle.index_model.specs.declared.entry.Entry.{Entry}
use Rattle.index_model.specs.declared.answer.Main.{Main}
use Rattle.index_model.specs.declared.answer.CacheSize.{CacheSize}
use Rattle.index_model.specs.Entries.{entries_of, simple_of}
use Rattle.index_model.specs.Ranges.{unit_at}
use Rattle.index_model.specs.MainProgram.{main_of}
use Rattle.index_model.specs.Faults.{Built}
use Rattle.index_model.specs.Queries.{Query, AskName, AskSimple, AskAddress, AskMain, AskCache, need_of}
use Rattle.index_model.specs.Stages.{refused}

-- what is answered: places in a list of entries, a unit, main, or the length of the cache
pub data Answer : Type 0 where
  Entries : List Entry → List ℕ → Answer
  InUnit : Option ℕ → Answer
  MainIs : Option Main → Answer
  CacheIs : CacheSize → Answer

-- the ascending places of the entries that pass the test
abbrev pub places : (Entry → Bool) → List Entry → List ℕ
places test es = map (λ e. e.0) (filter (λ e. test e.1) (enumerate_from 0 es))

-- the entries at these places
abbrev pub entries_at : List Entry → List ℕ → List Entry
entries_at es ks = filter_map (slice_get es) ks

-- the name is the asked one; linkage entries count too
abbrev pub is_named : List ℕ → Entry → Bool
is_named name e = bytes_eq e.name name

-- the simple name is the asked one; linkage entries don't count
abbrev pub is_simply_named : List ℕ → Entry → Bool
is_simply_named name e = not e.linkage && bytes_eq (simple_of e) name

-- the list of entries of an accepted file
abbrev pub entries_in : Built → List Entry
entries_in b = entries_of b.program b.links

-- the answer of an accepted file, whose cache has this size
unfoldable pub answer_to : Built → CacheSize → Query → Answer
answer_to b cache (AskName n) = Entries (entries_in b) (places (is_named n) (entries_in b))
answer_to b cache (AskSimple n) = Entries (entries_in b) (places (is_simply_named n) (entries_in b))
answer_to b cache (AskAddress a) = InUnit (unit_at b.ranges a)
answer_to b cache AskMain = MainIs (main_of b.program b.links)
answer_to b cache AskCache = CacheIs cache

-- what is replied at a stage
pub data Reply : Type 0 where
  Answered : Answer → Reply
  Pending : Reply
  Refused : Fault → Reply
  Stopped : Reply

-- what the file has: its answer, or its first fault
abbrev pub reply_of : Result Built Fault → CacheSize → Query → Reply
reply_of (Ok b) cache q = Answered (answer_to b cache q)
reply_of (Err f) cache q = Refused f

-- The reply at a stage. Stages 1 to 3 fit only an accepted file, and stage 4 only one with a fault.
unfoldable pub reply_at : Result Built Fault → CacheSize → Query → ℕ → Reply
reply_at r cache q stage =
    if nat_lt stage (need_of q) then Pending else
    if nat_le stage refused then reply_of r cache q else Stopped
