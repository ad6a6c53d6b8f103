-- Where the index of a program is kept, and what is said of it.
use Rattle.std.proofs.Common.{◌≡◌, ◌⊎◌, inl, inr, ℕ, List, ◌++◌, Option, Some, None, Result, Ok, Bor, refl, sym, ap, subst, ◌∙◌}
use Rattle.std.specs.Prelude.{option_map}
use Rattle.std.specs.Option.{option_copied}
use Rattle.ix_base.specs.declared.fault.Fault.{Fault}
use Rattle.file_image.specs.Images.{Image, image_of}
use Rattle.index_model.specs.Faults.{first_fault}
use Rattle.index_model.specs.Meaning.{◌>>=◌, wrong_in}
use Rattle.query_text.specs.Questions.{Question}
use Rattle.index_board.specs.Boards.{IsImage}
use Rattle.outside.specs.Files.{Files, SameFiles}
use Rattle.outside.proofs.FileLaws.{same_files-trans}
use Rattle.reach_model.specs.BuildIds.{build_id_of}
use Rattle.reach_model.specs.KeptTexts.{text_of_stale}
use Rattle.command_base.specs.GdbLooks.{IsGdbAnswerOf}
use Rattle.command_base.specs.Replies.{Wrote}
use Rattle.command_base.specs.declared.status.Status.{Status}
use Rattle.command_base.specs.declared.status.Status.TheVariants.{Answered, Refused, Usage, ReadFault, StoreFault, WriteFault, NoMemory, IndexRefused, TableRefused, IndexTooLarge, FileTooBig, AlreadyIndexed, TooManySections, InputFault, InputTooLong, Stopped}
use Rattle.command_base.proofs.ReplyLaws.{wrote_weaker}
use Rattle.cached_command.specs.Askings.{CausesOfHit, IsMissedAt, SaysHit}
use Rattle.cached_command.specs.Buildings.{CausesOfBuilt, CausesTied, IsAnswerSaved, SaysBuilt}
use Rattle.cached_command.specs.Cached.{HasMissed, SaysTied}
use Rattle.cached_command.specs.Caches.{id_of, FaultsEarly, IsCached, IsIndexOf, IsMissed, IsTooLarge, failed, hit, nowhere as unplaced, stale, stored, unread, unsaved, without_id}
use Rattle.cached_command.specs.Places.{Spot, early, here, nowhere, place_seen, spot_in, spot_of, IsSpotOf}
use Rattle.cached_command.specs.declared.place.KeptFile.{KeptFile}
use Rattle.cached_command.specs.Savings.{text_of_saved, IsSaved}
use Rattle.cached_command.specs.declared.save.Saved.{Saved}
use Rattle.cached_command.specs.declared.save.Saved.TheVariants as saves
use Rattle.index_board.proofs.Openings.{image_fault}
use Rattle.cached_command.proofs.FilesLaws.{saved_since}

-- ---- a place

abbrev pub spot_behind : Option (Bor KeptFile) → Option Spot
spot_behind o = option_map (λ p. place_seen p.now) o

behind_is : (o : Option (Bor KeptFile)) → spot_behind o ≡ option_map place_seen (option_copied o)
behind_is None = refl
behind_is (Some p) = refl

none_behind : (o : Option (Bor KeptFile)) → spot_behind o ≡ None → o ≡ None
none_behind None is = refl
none_behind (Some p) is = absurd (cc is)

module _ (file store : List ℕ) where
  -- ---- the spot

  module _ (image : Image) (is : image_of file ≡ Ok image) where
    id_is : (o : Option (List ℕ)) → build_id_of image.sections ≡ o → id_of file ≡ Ok o
    id_is o e = ap (λ (r : Result Image Fault). r >>= λ i. Ok (build_id_of i.sections)) is ∙ ap (λ (o : Option (List ℕ)). Ok o) e

    by_id : (o : Option (List ℕ)) → build_id_of image.sections ≡ o → IsSpotOf file store (option_map (spot_in store) o)
    by_id None e = nowhere (id_is None e)
    by_id (Some id) e = here id (id_is (Some id) e)

  -- it is that of the file
  pub spot_is : (image : Option Image) → IsImage (image_of file) image → IsSpotOf file store (spot_of image store)
  spot_is None is = early is.0 is.1
  spot_is (Some image) is = by_id image is (build_id_of image.sections) refl

  module _ (o : Option (Bor KeptFile)) (place : Option KeptFile) (image : Option Image) (same : option_copied o ≡ place) (seen : option_map place_seen place ≡ spot_of image store) (is : IsImage (image_of file) image) where
    pub place_is : spot_behind o ≡ spot_of image store
    place_is = behind_is o ∙ ap (option_map place_seen) same ∙ seen

    -- so is what is behind a place of its image
    pub place_spot : IsSpotOf file store (spot_behind o)
    place_spot = subst (IsSpotOf file store) (sym place_is) (spot_is image is)

  -- a fault of the sections or headers leaves none
  early_none : (f : Fault) → FaultsEarly file f → (image : Option Image) → IsImage (image_of file) image → image ≡ None
  early_none f e None is = refl
  early_none f e (Some image) is = absurd (cc (sym e ∙ is))

  pub early_spot : (f : Fault) → FaultsEarly file f → (image : Option Image) → IsImage (image_of file) image → spot_of image store ≡ None
  early_spot f e image is = ap (λ (i : Option Image). spot_of i store) (early_none f e image is)

  pub early_place : (f : Fault) → FaultsEarly file f → (o : Option (Bor KeptFile)) (place : Option KeptFile) (image : Option Image) → option_copied o ≡ place → option_map place_seen place ≡ spot_of image store → IsImage (image_of file) image → o ≡ None
  early_place f e o place image same seen is = none_behind o (place_is o place image same seen is ∙ early_spot f e image is)

  -- and the file has it
  pub early_fault : (f : Fault) → FaultsEarly file f → first_fault file ≡ Some f
  early_fault f e = image_fault file f e

  not_early : (f : Fault) → FaultsEarly file f → (bytes : List ℕ) → IsIndexOf file bytes → ⊥
  not_early f e bytes index = absurd (cc (sym (ap wrong_in index.accepted) ∙ early_fault f e))

  not_large : (f : Fault) → FaultsEarly file f → IsTooLarge file → ⊥
  not_large f e index = absurd (cc (sym (ap wrong_in index.accepted) ∙ early_fault f e))

  -- ---- no kept index answered

  pub missed_is : (told : Option Files) (kept_reads : Type 0) (spot : Option Spot) → IsSpotOf file store spot → (why : Option Fault) → IsMissedAt told spot kept_reads why → ((f : Fault) × FaultsEarly file f) ⊎ IsMissed told file store kept_reads why
  missed_is told kept_reads spot (early f e) why h = inl (f, e)
  missed_is told kept_reads spot (nowhere none) why h = inr (subst (IsMissed told file store kept_reads) (sym h) (without_id none))
  missed_is told kept_reads spot (here id own) None h = inr (unread id own h)
  missed_is told kept_reads spot (here id own) (Some f) h = inr (stale id f own h)

  -- ---- a kept index answers

  module _ (before after : Option Files) (q : Question) (kept_reads stores : Type 0) where
    module _ (same : SameFiles before after) (spot : Option Spot) (own : IsSpotOf file store spot) where
      by_spot : (s : Option Spot) → IsSpotOf file store s → (text : List ℕ) → SaysHit before s q Answered text → IsCached before after file store q kept_reads stores text
      by_spot s (early f e) text h = absurd h
      by_spot s (nowhere none) text h = absurd h
      by_spot s (here id is) text h = hit (record {
        id = id;
        own = is;
        kept = h.kept;
        held = h.held;
        small = h.small;
        index = h.index;
        accepted = h.accepted;
        answer = h.answer;
        answers = h.answers;
        text_is = h.text_is;
        same = same;
      })

      says_hit : (status : Status) (text : List ℕ) → SaysHit before spot q status text → SaysTied before after file store q kept_reads stores status text
      says_hit status text h = by spot own status text h
        where
          by : (s : Option Spot) → IsSpotOf file store s → (status : Status) (text : List ℕ) → SaysHit before s q status text → SaysTied before after file store q kept_reads stores status text
          by None is Answered text h = absurd h
          by None is Refused text h = absurd h
          by None is Usage text h = absurd h
          by None is ReadFault text h = absurd h
          by None is StoreFault text h = absurd h
          by None is WriteFault text h = absurd h
          by None is InputFault text h = absurd h
          by None is NoMemory text h = absurd h
          by None is IndexRefused text h = absurd h
          by None is (TableRefused table) text h = absurd h
          by None is IndexTooLarge text h = absurd h
          by None is FileTooBig text h = absurd h
          by None is AlreadyIndexed text h = absurd h
          by None is TooManySections text h = absurd h
          by None is InputTooLong text h = absurd h
          by None is Stopped text h = absurd h
          by (Some s) is Answered text h = by_spot (Some s) is text h
          by (Some s) is Refused text h = absurd h
          by (Some s) is Usage text h = absurd h
          by (Some s) is ReadFault text h = absurd h
          by (Some s) is StoreFault text h = absurd h
          by (Some s) is WriteFault text h = absurd h
          by (Some s) is InputFault text h = absurd h
          by (Some s) is NoMemory text h = absurd h
          by (Some s) is IndexRefused text h = absurd h
          by (Some s) is (TableRefused table) text h = absurd h
          by (Some s) is IndexTooLarge text h = absurd h
          by (Some s) is FileTooBig text h = absurd h
          by (Some s) is AlreadyIndexed text h = absurd h
          by (Some s) is TooManySections text h = absurd h
          by (Some s) is InputTooLong text h = absurd h
          by (Some s) is Stopped text h = absurd h

      pub hit_wrote : (status : Status) (old new : Option (List ℕ)) → Wrote (SaysHit before spot q) status old new → Wrote (SaysTied before after file store q kept_reads stores) status old new
      hit_wrote status old new w = wrote_weaker (SaysHit before spot q) (SaysTied before after file store q kept_reads stores) says_hit status old new w

    pub hit_causes : SameFiles before after → (writes : Type 0) (status : Status) → CausesOfHit writes status → CausesTied before after file store kept_reads writes status
    hit_causes same writes Answered c = tt
    hit_causes same writes Refused c = absurd c
    hit_causes same writes Usage c = absurd c
    hit_causes same writes ReadFault c = absurd c
    hit_causes same writes StoreFault c = absurd c
    hit_causes same writes WriteFault c = c
    hit_causes same writes InputFault c = absurd c
    hit_causes same writes NoMemory c = same
    hit_causes same writes IndexRefused c = absurd c
    hit_causes same writes (TableRefused table) c = absurd c
    hit_causes same writes IndexTooLarge c = absurd c
    hit_causes same writes FileTooBig c = absurd c
    hit_causes same writes AlreadyIndexed c = absurd c
    hit_causes same writes TooManySections c = absurd c
    hit_causes same writes InputTooLong c = absurd c
    hit_causes same writes Stopped c = absurd c

  -- ---- the index was built

  module _ (before mid after : Option Files) (q : Question) (kept_reads stores : Type 0) (same : SameFiles before mid) (why : Option Fault) where
    module _ (missed : IsMissed before file store kept_reads why) (bytes : List ℕ) (index : IsIndexOf file bytes) (answer : List ℕ) (answers : IsGdbAnswerOf bytes q answer) (text : List ℕ) where
      by_saved : (spot : Option Spot) → IsSpotOf file store spot → (saved : Saved) → IsSaved before after stores spot bytes saved → text ≡ text_of_stale why ++ (text_of_saved saved ++ answer) → IsCached before after file store q kept_reads stores text
      by_saved spot (early f e) saved is text_is = absurd (not_early f e bytes index)
      by_saved spot (nowhere none) saves.Stored is text_is = absurd is
      by_saved spot (nowhere none) saves.Unsaved is text_is = unsaved (record { why = why; missed = missed; bytes = bytes; index = index; answer = answer; answers = answers; text_is = text_is; not_kept = unplaced none is })
      by_saved spot (here id own) saves.Stored is text_is = stored (record { why = why; missed = missed; bytes = bytes; index = index; answer = answer; answers = answers; text_is = text_is; id = id; own = own; stored = is })
      by_saved spot (here id own) saves.Unsaved is text_is = unsaved (record { why = why; missed = missed; bytes = bytes; index = index; answer = answer; answers = answers; text_is = text_is; not_kept = failed id own is.0 is.1 })

    module _ (spot : Option Spot) (own : IsSpotOf file store spot) (missed : ((f : Fault) × FaultsEarly file f) ⊎ IsMissed before file store kept_reads why) where
      answered : (bytes : List ℕ) → IsIndexOf file bytes → (text : List ℕ) → IsAnswerSaved mid after stores spot why bytes q text → ((f : Fault) × FaultsEarly file f) ⊎ IsMissed before file store kept_reads why → IsCached before after file store q kept_reads stores text
      answered bytes index text h (inl e) = absurd (not_early e.0 e.1 bytes index)
      answered bytes index text h (inr m) = by_saved m bytes index h.answer h.answers text spot own h.saved (saved_since before mid after same stores spot bytes h.saved h.is) h.text_is

      has_missed : ((f : Fault) × FaultsEarly file f) ⊎ IsMissed before file store kept_reads why → ((f : Fault) × FaultsEarly file f) ⊎ HasMissed before file store kept_reads
      has_missed (inl e) = inl e
      has_missed (inr m) = inr (why, m)

      missed_large : IsTooLarge file → ((f : Fault) × FaultsEarly file f) ⊎ IsMissed before file store kept_reads why → HasMissed before file store kept_reads
      missed_large large (inl e) = absurd (not_large e.0 e.1 large)
      missed_large large (inr m) = (why, m)

      says_tied : (status : Status) (text : List ℕ) → SaysBuilt mid after stores file spot why q status text → SaysTied before after file store q kept_reads stores status text
      says_tied Answered text h = answered h.0 h.1 text h.2 missed
      says_tied Refused text h = (h.0, same_files-trans before mid after same h.1, has_missed missed)
      says_tied Usage text h = absurd h
      says_tied ReadFault text h = absurd h
      says_tied StoreFault text h = absurd h
      says_tied WriteFault text h = absurd h
      says_tied InputFault text h = absurd h
      says_tied NoMemory text h = absurd h
      says_tied IndexRefused text h = absurd h
      says_tied (TableRefused table) text h = absurd h
      says_tied IndexTooLarge text h = absurd h
      says_tied FileTooBig text h = absurd h
      says_tied AlreadyIndexed text h = absurd h
      says_tied TooManySections text h = absurd h
      says_tied InputTooLong text h = absurd h
      says_tied Stopped text h = absurd h

      pub built_wrote : (status : Status) (old new : Option (List ℕ)) → Wrote (SaysBuilt mid after stores file spot why q) status old new → Wrote (SaysTied before after file store q kept_reads stores) status old new
      built_wrote status old new w = wrote_weaker (SaysBuilt mid after stores file spot why q) (SaysTied before after file store q kept_reads stores) says_tied status old new w

      pub built_causes : (writes : Type 0) (status : Status) → CausesOfBuilt mid after file writes status → CausesTied before after file store kept_reads writes status
      built_causes writes Answered c = tt
      built_causes writes Refused c = tt
      built_causes writes Usage c = absurd c
      built_causes writes ReadFault c = absurd c
      built_causes writes StoreFault c = absurd c
      built_causes writes WriteFault c = c
      built_causes writes InputFault c = absurd c
      built_causes writes NoMemory c = same_files-trans before mid after same c
      built_causes writes IndexRefused c = absurd c
      built_causes writes (TableRefused table) c = absurd c
      built_causes writes IndexTooLarge c = (c.0, same_files-trans before mid after same c.1, missed_large c.0 missed)
      built_causes writes FileTooBig c = absurd c
      built_causes writes AlreadyIndexed c = absurd c
      built_causes writes TooManySections c = absurd c
      built_causes writes InputTooLong c = absurd c
      built_causes writes Stopped c = absurd c
