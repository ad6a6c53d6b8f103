-- An index is stored.
use Rattle.std.proofs.Common.{◌≡◌, ℕ, List, [], Option, Some, refl, sym, subst, ◌∙◌}
use Rattle.std.specs.Prelude.{IfSome, IsOkAnd}
use Rattle.ix_base.specs.declared.fault.Fault.{Fault}
use Rattle.index_model.specs.declared.job.Job.TheVariants.{Write}
use Rattle.index_model.specs.Answers.{Refused as Refuses}
use Rattle.index_model.specs.Cache.{Cache, cache_in}
use Rattle.index_forms.specs.declared.form.IndexForm.{IndexForm}
use Rattle.index_forms.specs.declared.form.IndexForm.TheVariants.{ByDwarf}
use Rattle.gdb_index.specs.Indexes.{index_in}
use Rattle.index_model.specs.Faults.{built_of, first_fault}
use Rattle.index_model.specs.Outputs.{Makes, CacheOf}
use Rattle.index_pool.proofs.Lists.{ok_and}
use Rattle.outside.specs.Files.{Files, SameFiles}
use Rattle.outside.proofs.WrittenLaws.{appends_none}
use Rattle.index_board.specs.Kept.{AreOf}
use Rattle.index_board.specs.Readers.{Reader}
use Rattle.command_base.specs.Replies.{CausesOfResult, SaysReply, Wrote}
use Rattle.command_base.specs.declared.status.Status.{Status}
use Rattle.command_base.specs.declared.status.Status.TheVariants.{Answered, Refused, Usage, ReadFault, StoreFault, WriteFault, NoMemory, IndexRefused, TableRefused, IndexTooLarge, FileTooBig, AlreadyIndexed, TooManySections, InputFault, InputTooLong, Stopped}
use Rattle.command_base.proofs.ReplyLaws.{wrote_refused}
use Rattle.store_commands.specs.Indexes.{CausesOfIndex, CausesOfStoring, IsIndexOf, LeavesIndex, SaysIndex}
use Rattle.store_commands.specs.Stores.{CausesOfStore, Keeps, KeepsPart, StoreLeaves}

-- ---- an index of these bytes is stored

module _ (file : List ℕ) (form : IndexForm) (stores : Type 0) where
  -- nothing is written then
  pub storing_wrote : (written : Option (List ℕ)) (status : Status) → CausesOfStoring file form stores status → Wrote (SaysIndex file) status written written
  storing_wrote written Answered c = ([], refl, appends_none written)
  storing_wrote written Refused c = absurd c
  storing_wrote written Usage c = absurd c
  storing_wrote written ReadFault c = absurd c
  storing_wrote written StoreFault c = appends_none written
  storing_wrote written WriteFault c = absurd c
  storing_wrote written NoMemory c = appends_none written
  storing_wrote written IndexRefused c = absurd c
  storing_wrote written IndexTooLarge c = appends_none written
  storing_wrote written FileTooBig c = absurd c
  storing_wrote written AlreadyIndexed c = absurd c
  storing_wrote written TooManySections c = absurd c
  storing_wrote written (TableRefused table) c = absurd c
  storing_wrote written InputFault c = absurd c
  storing_wrote written InputTooLong c = absurd c
  storing_wrote written Stopped c = absurd c

  pub storing_causes : (writes : Type 0) (status : Status) → CausesOfStoring file form stores status → CausesOfIndex file form stores writes status
  storing_causes writes Answered c = tt
  storing_causes writes Refused c = absurd c
  storing_causes writes Usage c = absurd c
  storing_causes writes ReadFault c = absurd c
  storing_causes writes StoreFault c = c
  storing_causes writes WriteFault c = absurd c
  storing_causes writes NoMemory c = tt
  storing_causes writes IndexRefused c = absurd c
  storing_causes writes IndexTooLarge c = c
  storing_causes writes FileTooBig c = absurd c
  storing_causes writes AlreadyIndexed c = absurd c
  storing_causes writes TooManySections c = absurd c
  storing_causes writes (TableRefused table) c = absurd c
  storing_causes writes InputFault c = absurd c
  storing_causes writes InputTooLong c = absurd c
  storing_causes writes Stopped c = absurd c

  module _ (cache : Cache) (is : IsIndexOf file form cache) where
    pub store_causes : (status : Status) → CausesOfStore stores cache status → CausesOfStoring file form stores status
    store_causes Answered c = tt
    store_causes Refused c = absurd c
    store_causes Usage c = absurd c
    store_causes ReadFault c = absurd c
    store_causes StoreFault c = c
    store_causes WriteFault c = absurd c
    store_causes NoMemory c = tt
    store_causes IndexRefused c = absurd c
    store_causes IndexTooLarge c = record { built = is.built; accepted = is.accepted; holds = sym is.holds ∙ c }
    store_causes FileTooBig c = absurd c
    store_causes AlreadyIndexed c = absurd c
    store_causes TooManySections c = absurd c
    store_causes (TableRefused table) c = absurd c
    store_causes InputFault c = absurd c
    store_causes InputTooLong c = absurd c
    store_causes Stopped c = absurd c

    pub store_leaves : (old new : Option Files) (out : List ℕ) (status : Status) → CausesOfStore stores cache status → StoreLeaves old new out cache status → LeavesIndex file form old new out status
    store_leaves old new out Answered c h = record { built = is.built; accepted = is.accepted; holds = subst (Keeps old new out) is.holds h }
    store_leaves old new out Refused c h = absurd c
    store_leaves old new out Usage c h = absurd c
    store_leaves old new out ReadFault c h = absurd c
    store_leaves old new out StoreFault c h = record { built = is.built; accepted = is.accepted; holds = subst (KeepsPart old new out) is.holds h }
    store_leaves old new out WriteFault c h = absurd c
    store_leaves old new out NoMemory c h = h
    store_leaves old new out IndexRefused c h = absurd c
    store_leaves old new out IndexTooLarge c h = h
    store_leaves old new out FileTooBig c h = absurd c
    store_leaves old new out AlreadyIndexed c h = absurd c
    store_leaves old new out TooManySections c h = absurd c
    store_leaves old new out (TableRefused table) c h = absurd c
    store_leaves old new out InputFault c h = absurd c
    store_leaves old new out InputTooLong c h = absurd c
    store_leaves old new out Stopped c h = absurd c

-- ---- they have a fault

module _ (file : List ℕ) (form : IndexForm) (f : Fault) (first : first_fault file ≡ Some f) where
  pub refusal_wrote : (status : Status) (old new : Option (List ℕ)) → Wrote (SaysReply (Refuses f)) status old new → Wrote (SaysIndex file) status old new
  refusal_wrote status old new w = wrote_refused (SaysIndex file) f (λ text is. record { fault = f; first = first; text_is = is }) status old new w

  pub refusal_causes : (stores writes : Type 0) (status : Status) → CausesOfResult writes status → CausesOfIndex file form stores writes status
  refusal_causes stores writes Answered c = tt
  refusal_causes stores writes Refused c = tt
  refusal_causes stores writes Usage c = absurd c
  refusal_causes stores writes ReadFault c = absurd c
  refusal_causes stores writes StoreFault c = absurd c
  refusal_causes stores writes WriteFault c = c
  refusal_causes stores writes NoMemory c = tt
  refusal_causes stores writes IndexRefused c = tt
  refusal_causes stores writes IndexTooLarge c = absurd c
  refusal_causes stores writes FileTooBig c = absurd c
  refusal_causes stores writes AlreadyIndexed c = absurd c
  refusal_causes stores writes TooManySections c = absurd c
  refusal_causes stores writes (TableRefused table) c = absurd c
  refusal_causes stores writes InputFault c = absurd c
  refusal_causes stores writes InputTooLong c = absurd c
  refusal_causes stores writes Stopped c = absurd c

  pub refusal_leaves : (status : Status) (old new : Option (List ℕ)) (writes : Type 0) (shelf after : Option Files) (out : List ℕ) → Wrote (SaysReply (Refuses f)) status old new → CausesOfResult writes status → SameFiles shelf after → LeavesIndex file form shelf after out status
  refusal_leaves Answered old new writes shelf after out w c same = absurd w.1
  refusal_leaves Refused old new writes shelf after out w c same = same
  refusal_leaves Usage old new writes shelf after out w c same = absurd c
  refusal_leaves ReadFault old new writes shelf after out w c same = absurd c
  refusal_leaves StoreFault old new writes shelf after out w c same = absurd c
  refusal_leaves WriteFault old new writes shelf after out w c same = same
  refusal_leaves NoMemory old new writes shelf after out w c same = same
  refusal_leaves IndexRefused old new writes shelf after out w c same = same
  refusal_leaves IndexTooLarge old new writes shelf after out w c same = absurd c
  refusal_leaves FileTooBig old new writes shelf after out w c same = absurd c
  refusal_leaves AlreadyIndexed old new writes shelf after out w c same = absurd c
  refusal_leaves TooManySections old new writes shelf after out w c same = absurd c
  refusal_leaves (TableRefused table) old new writes shelf after out w c same = absurd c
  refusal_leaves InputFault old new writes shelf after out w c same = absurd c
  refusal_leaves InputTooLong old new writes shelf after out w c same = absurd c
  refusal_leaves Stopped old new writes shelf after out w c same = absurd c

-- ---- by a reader

-- an index that is kept is that of the file
pub index_of : (r : Reader) → AreOf r.board.subject r.kept → (c : Cache) → r.kept.cache ≡ Some c → IsIndexOf r.board.subject.file (ByDwarf r.board.subject.cache) c
index_of r right c is =
    let s = r.board.subject in
    let b = ok_and (built_of s.file) (λ b. c ≡ cache_in s.cache b) (subst (λ (o : Option Cache). IfSome o (λ c. Makes s Write (CacheOf c))) is right.cache) in
    record { built = b.0; accepted = b.1; holds = b.2 }

-- so is an index that was made in this form
pub made_of : (file : List ℕ) (form : IndexForm) (c : Cache) → IsOkAnd (built_of file) (λ b. c ≡ index_in form b) → IsIndexOf file form c
made_of file form c is =
    let b = ok_and (built_of file) (λ b. c ≡ index_in form b) is in
    record { built = b.0; accepted = b.1; holds = b.2 }
