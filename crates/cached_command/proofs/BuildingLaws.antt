-- An index that was built, by what a reader keeps.
use Rattle.std.proofs.Common.{◌≡◌, ℕ, Bool, true, false, cond, List, Option, Some, sym, subst}
use Rattle.std.specs.Prelude.{IfSome}
use Rattle.ix_base.specs.declared.fault.Fault.{Fault}
use Rattle.index_model.specs.declared.job.CacheKind.{CacheKind}
use Rattle.index_model.specs.declared.job.CacheKind.TheVariants.{Gdb9}
use Rattle.index_model.specs.declared.job.Job.TheVariants.{Write}
use Rattle.index_model.specs.Cache.{Cache, GdbBytes, NameBytes, DoesNotFit, cache_in, cache_of}
use Rattle.index_model.specs.Faults.{Built, built_of}
use Rattle.index_model.specs.Outputs.{Makes, CacheOf}
use Rattle.query_text.specs.Questions.{Question}
use Rattle.index_pool.proofs.Lists.{ok_and}
use Rattle.index_alike.proofs.GdbBuilt.{alike_9}
use Rattle.outside.specs.Files.{Files}
use Rattle.index_board.specs.Kept.{AreOf}
use Rattle.index_board.specs.Readers.{Reader}
use Rattle.command_base.specs.Replies.{Wrote}
use Rattle.command_base.specs.Tables.{ForBuilt}
use Rattle.command_base.specs.declared.status.Status.{Status}
use Rattle.command_base.specs.declared.status.Status.TheVariants.{Answered, Refused, Usage, ReadFault, StoreFault, WriteFault, NoMemory, IndexRefused, TableRefused, IndexTooLarge, FileTooBig, AlreadyIndexed, TooManySections, InputFault, InputTooLong, Stopped}
use Rattle.command_base.proofs.ReplyLaws.{wrote_weaker}
use Rattle.cached_command.specs.Buildings.{IsRead, SaysBuilt, SaysSaved}
use Rattle.cached_command.specs.Caches.{IsIndexOf}
use Rattle.cached_command.specs.Places.{Spot}

-- ---- what a reader keeps

-- the index of version 9 of these bytes, which have no fault
abbrev pub HasCache : List ℕ → Cache → Type 0
HasCache file cache = ForBuilt file (λ b. cache ≡ cache_in Gdb9 b)

of_kind : (file : List ℕ) (kind : CacheKind) (c : Cache) → kind ≡ Gdb9 → ForBuilt file (λ b. c ≡ cache_in kind b) → HasCache file c
of_kind file kind c is h = subst (λ (k : CacheKind). ForBuilt file (λ b. c ≡ cache_in k b)) is h

pub index_of : (r : Reader) → r.board.subject.cache ≡ Gdb9 → AreOf r.board.subject r.kept → (c : Cache) → r.kept.cache ≡ Some c → HasCache r.board.subject.file c
index_of r kind right c is =
    let s = r.board.subject in
    let b = ok_and (built_of s.file) (λ b. c ≡ cache_in s.cache b) (subst (λ (o : Option Cache). IfSome o (λ c. Makes s Write (CacheOf c))) is right.cache) in
    of_kind s.file s.cache c kind (record { built = b.0; accepted = b.1; holds = b.2 })

no_names : (bytes names strings : List ℕ) (fits : Bool) → NameBytes names strings ≡ cond fits (GdbBytes bytes) DoesNotFit → ⊥
no_names bytes names strings true is = absurd (cc is)
no_names bytes names strings false is = absurd (cc is)

isnt_names : (b : Built) (names strings : List ℕ) → NameBytes names strings ≡ cache_in Gdb9 b → ⊥
unfolding cache_in cache_of
isnt_names b names strings is = no_names _ names strings _ is

module _ (file : List ℕ) where
  -- it isn't a `.debug_names`
  pub never_names : (names strings : List ℕ) → HasCache file (NameBytes names strings) → ⊥
  never_names names strings h = isnt_names h.built names strings h.holds

  pub bytes_of : (bytes : List ℕ) → HasCache file (GdbBytes bytes) → IsIndexOf file bytes
  bytes_of bytes h = record { built = h.built; accepted = h.accepted; holds = sym h.holds }

  -- it is read without a fault
  pub read_of : (bytes : List ℕ) → HasCache file (GdbBytes bytes) → IsRead bytes
  read_of bytes h = let alike = alike_9 file h.built bytes h.accepted (sym h.holds) in (alike.index, alike.is)

  -- ---- it is kept, and answers

  module _ (before after : Option Files) (stores : Type 0) (spot : Option Spot) (why : Option Fault) (q : Question) where
    module _ (bytes : List ℕ) (index : IsIndexOf file bytes) where
      says_built : (status : Status) (text : List ℕ) → SaysSaved before after stores spot why bytes q status text → SaysBuilt before after stores file spot why q status text
      says_built Answered text h = (bytes, index, h)
      says_built Refused text h = absurd h
      says_built Usage text h = absurd h
      says_built ReadFault text h = absurd h
      says_built StoreFault text h = absurd h
      says_built WriteFault text h = absurd h
      says_built InputFault text h = absurd h
      says_built NoMemory text h = absurd h
      says_built IndexRefused text h = absurd h
      says_built (TableRefused table) text h = absurd h
      says_built IndexTooLarge text h = absurd h
      says_built FileTooBig text h = absurd h
      says_built AlreadyIndexed text h = absurd h
      says_built TooManySections text h = absurd h
      says_built InputTooLong text h = absurd h
      says_built Stopped text h = absurd h

      pub saved_wrote : (status : Status) (old new : Option (List ℕ)) → Wrote (SaysSaved before after stores spot why bytes q) status old new → Wrote (SaysBuilt before after stores file spot why q) status old new
      saved_wrote status old new w = wrote_weaker (SaysSaved before after stores spot why bytes q) (SaysBuilt before after stores file spot why q) says_built status old new w
