-- Where nothing failed, a command comes to what was asked, or to want of memory.
use Rattle.std.proofs.Common.{◌≡◌, ◌⊎◌, inl, inr, ⊎_elim, ℕ, ◌<◌, ◌≤◌, List, Option, Some, None, Ok, Err, refl, sym, ap, subst, ◌∙◌, arith}
use Rattle.std.specs.Prelude.{length, IsSome}
use Rattle.ix_base.specs.declared.fault.Fault.{Fault}
use Rattle.ix_base.specs.declared.limits.TheConstants.{MAX_FILE_BYTES}
use Rattle.elf_make.specs.Generated.{generated_file}
use Rattle.index_forms.specs.Forms.{kind_of}
use Rattle.index_forms.specs.declared.form.IndexForm.{IndexForm}
use Rattle.gdb_index.specs.Indexes.{index_in}
use Rattle.index_model.specs.declared.job.CacheKind.TheVariants.{Gdb8, Names}
use Rattle.index_model.specs.Cache.{Cache, GdbBytes, NameBytes, DoesNotFit, cache_in}
use Rattle.index_model.specs.Faults.{Built, first_fault, built_of, IsAccepted}
use Rattle.index_model.specs.GdbIndexRead.{GdbIndex, gdb_index}
use Rattle.index_model.specs.NameIndexRead.{NameIndex, name_index}
use Rattle.query_text.specs.Questions.{Question}
use Rattle.index_model.proofs.Meanings.{same_ok}
use Rattle.index_model.specs.Sections.{Section}
use Rattle.outside.specs.Files.{Files, Stored}
use Rattle.race_command.specs.declared.script.TheConstants.{MAX_SCRIPT_BYTES}
use Rattle.index_cmd.specs.Requests.{Request, TheHelp, TheVersion, OfFile, OfIndex, OfAdd, OfGdb, OfNames, OfServe, OfRace, OfDrill, OfAranges, OfFiles, OfCached, AsksFile, AsksProgram, AsksIndex}
use Rattle.drill_command.specs.Drills.{HasTooLarge, IsSummaryOf}
use Rattle.command_base.specs.FilesRead.{HoldsMore}
use Rattle.session_base.specs.Heard.{Heard}
use Rattle.index_cmd.specs.Results.{Says, Completes}
use Rattle.serve_command.specs.SessionResults.{IsServeMeant}
use Rattle.drill_command.specs.DrillResults.{IsDrillMeant}
use Rattle.aranges_command.specs.Comparisons.{sets_of}
use Rattle.files_command.specs.Listings.{found_by}
use Rattle.index_cmd.specs.Replies.{Causes, HasTooManySections, IsAlreadyIndexed, IsIndexRefusal, IsTableRefusal, MakesTooLarge}
use Rattle.command_base.specs.Replies.{IsMeant, line_of}
use Rattle.store_commands.specs.Adds.{ForNamedProgram, ForProgram, IsAddMeant, OfAdded}
use Rattle.store_commands.specs.Indexes.{IsIndexMeant}
use Rattle.command_base.specs.GdbLooks.{IsLookMeant}
use Rattle.index_commands.specs.declared.names.NamesLook.{NamesLook}
use Rattle.index_commands.specs.NamesLooks.{IsNamesMeant}
use Rattle.command_base.specs.Statuses.{status_code}
use Rattle.store_commands.specs.Stores.{Keeps}
use Rattle.index_cmd.specs.Stores.{LeavesAtEnd}
use Rattle.command_base.specs.declared.status.RefusedTable.{RefusedTable}
use Rattle.command_base.specs.declared.status.Status.{Status}
use Rattle.command_base.specs.declared.status.Status.TheVariants.{Answered, Refused, Usage, ReadFault, StoreFault, WriteFault, NoMemory, IndexRefused, TableRefused, IndexTooLarge, FileTooBig, AlreadyIndexed, TooManySections, InputFault, InputTooLong, Stopped}
use Rattle.index_cmd.proofs.Adding.{short_of_memory, when_crowded, when_indexed, when_refused, when_stored, when_too_large}
use Rattle.index_cmd.proofs.KeptMeant.{cached_meant}
use Rattle.index_cmd.proofs.Tables.{by_aranges, by_lines, table_meant}
use Rattle.index_cmd.proofs.Outcomes.{Outcome, tells, stops, lines, fails, Plain, answers, refuses, index_refuses, table_refuses, plain_lines, plain_fails, plain, no_request, same_bytes, accepted_built, none_some}

-- ---- the program's own texts

module _ (told : Option Files) (reads stores writes : Type 0) (old new : Option (List ℕ)) where
  own_text : (request : Request) → ((P : List ℕ → ℕ → Type 0) → AsksFile (Some request) P → ⊥) → ((P : List ℕ → Type 0) → AsksProgram (Some request) P → ⊥) → ((P : IndexForm → List ℕ → List ℕ → Type 0) → AsksIndex (Some request) P → ⊥) → (MakesTooLarge (Some request) told → ⊥) → ((text : List ℕ) → IsIndexRefusal (Some request) told text → ⊥) → ((text : List ℕ) → (kind : RefusedTable) → IsTableRefusal (Some request) kind told text → ⊥) → (IsAlreadyIndexed (Some request) told → ⊥) → (HasTooManySections (Some request) told → ⊥) → (writes → ⊥) → (status : Status) → Plain (Some request) told reads stores writes old new status → (status_code status ≡ 0) ⊎ (status_code status ≡ 7)
  own_text request file program index large look table indexed crowded none status (answers w) = inl refl
  own_text request file program index large look table indexed crowded none status (refuses w) = absurd (program _ w.1)
  own_text request file program index large look table indexed crowded none status (index_refuses w) = absurd (look _ w.1)
  own_text request file program index large look table indexed crowded none status (table_refuses kind w) = absurd (table _ kind w.1)
  own_text request file program index large look table indexed crowded none status (plain_fails f) = absurd (none f)
  own_text request file program index large look table indexed crowded none Usage (plain_lines text is c) = absurd (cc c)
  own_text request file program index large look table indexed crowded none ReadFault (plain_lines text is c) = absurd (file _ c)
  own_text request file program index large look table indexed crowded none StoreFault (plain_lines text is c) = absurd (index _ c)
  own_text request file program index large look table indexed crowded none NoMemory (plain_lines text is c) = inr refl
  own_text request file program index large look table indexed crowded none IndexTooLarge (plain_lines text is c) = absurd (large c)
  own_text request file program index large look table indexed crowded none FileTooBig (plain_lines text is c) = absurd (file _ c)
  own_text request file program index large look table indexed crowded none AlreadyIndexed (plain_lines text is c) = absurd (indexed c)
  own_text request file program index large look table indexed crowded none TooManySections (plain_lines text is c) = absurd (crowded c)
  own_text request file program index large look table indexed crowded none Answered (plain_lines text is c) = absurd (cc is)
  own_text request file program index large look table indexed crowded none Refused (plain_lines text is c) = absurd (cc is)
  own_text request file program index large look table indexed crowded none IndexRefused (plain_lines text is c) = absurd (cc is)
  own_text request file program index large look table indexed crowded none (TableRefused kept) (plain_lines text is c) = absurd (cc is)
  own_text request file program index large look table indexed crowded none WriteFault (plain_lines text is c) = absurd (cc is)
  own_text request file program index large look table indexed crowded none InputFault (plain_lines text is c) = absurd (cc is)
  own_text request file program index large look table indexed crowded none InputTooLong (plain_lines text is c) = absurd (cc is)
  own_text request file program index large look table indexed crowded none Stopped (plain_lines text is c) = absurd (cc is)

  nothing_asked : (status : Status) → Plain None told reads stores writes old new status → (writes → ⊥) → (status_code status ≡ 2) ⊎ (status_code status ≡ 7)
  nothing_asked status o none = by (no_request told reads stores writes old new status o)
    where
      by : (status ≡ Usage) ⊎ ((status ≡ WriteFault) × writes) ⊎ (status ≡ NoMemory) → (status_code status ≡ 2) ⊎ (status_code status ≡ 7)
      by (inl e) = inl (ap status_code e)
      by (inr (inl e)) = absurd (none e.1)
      by (inr (inr e)) = inr (ap status_code e)

-- ---- files

-- the file is no larger than its limit
fits : (most : ℕ) (held : Option (List ℕ)) (bytes : List ℕ) → held ≡ Some bytes → length bytes ≤ most → (all : List ℕ) × (held ≡ Some all) × (most < length all) → ⊥
fits most held bytes holds small c = let same = same_bytes held c.0 bytes c.1 holds in omega (arith, c.2, small, ap length same)

module _ (files : Files) (reads stores writes : Type 0) (old new : Option (List ℕ)) (file bytes : List ℕ) (holds : files file ≡ Some bytes) (small : length bytes ≤ MAX_FILE_BYTES) (no_read : reads → ⊥) (no_write : writes → ⊥) where
  -- ---- ask

  module _ (q : Question) where
    abbrev asked : Option Request
    asked = Some (OfFile file q)

    -- the line of a status can be that of want of memory alone
    only_memory : (status : Status) (text : List ℕ) → line_of status ≡ Some text → Causes asked (Some files) reads stores writes status → status_code status ≡ 7
    only_memory NoMemory text is c = refl
    only_memory Usage text is c = absurd (cc c)
    only_memory ReadFault text is c = absurd (no_read c)
    only_memory StoreFault text is c = absurd c
    only_memory IndexTooLarge text is c = absurd c
    only_memory FileTooBig text is c = absurd (fits MAX_FILE_BYTES (files file) bytes holds small c)
    only_memory AlreadyIndexed text is c = absurd c
    only_memory TooManySections text is c = absurd c
    only_memory Answered text is c = absurd (cc is)
    only_memory Refused text is c = absurd (cc is)
    only_memory IndexRefused text is c = absurd (cc is)
    only_memory (TableRefused table) text is c = absurd (cc is)
    only_memory WriteFault text is c = absurd (cc is)
    only_memory InputFault text is c = absurd (cc is)
    only_memory InputTooLong text is c = absurd (cc is)
    only_memory Stopped text is c = absurd (cc is)

    meant : (status : Status) → Plain asked (Some files) reads stores writes old new status → IsMeant bytes (status_code status)
    meant status (answers w) = record {
      answered = λ _. inl refl;
      refused = λ f first. let same = same_bytes (files file) w.1.0 bytes w.1.1 holds in absurd (none_some f (sym (accepted_built w.1.0 w.1.3.built w.1.3.accepted) ∙ ap first_fault same ∙ first));
    }
    meant status (refuses w) = record {
      answered = λ accepted. let same = same_bytes (files file) w.1.0 bytes w.1.1 holds in absurd (none_some w.1.3.fault (sym accepted ∙ ap first_fault (sym same) ∙ w.1.3.first));
      refused = λ f first. inl refl;
    }
    meant status (table_refuses table w) = absurd w.1
    meant status (index_refuses w) = absurd w.1
    meant status (plain_lines text is c) = record { answered = λ _. inr (only_memory status text is c); refused = λ f first. inr (only_memory status text is c) }
    meant status (plain_fails f) = absurd (no_write f)

  -- ---- look

  module _ (q : Question) where
    abbrev looked : Option Request
    looked = Some (OfGdb file q)

    only_memory_looks : (status : Status) (text : List ℕ) → line_of status ≡ Some text → Causes looked (Some files) reads stores writes status → status_code status ≡ 7
    only_memory_looks NoMemory text is c = refl
    only_memory_looks Usage text is c = absurd (cc c)
    only_memory_looks ReadFault text is c = absurd (no_read c)
    only_memory_looks StoreFault text is c = absurd c
    only_memory_looks IndexTooLarge text is c = absurd c
    only_memory_looks FileTooBig text is c = absurd (fits MAX_FILE_BYTES (files file) bytes holds small c)
    only_memory_looks AlreadyIndexed text is c = absurd c
    only_memory_looks TooManySections text is c = absurd c
    only_memory_looks Answered text is c = absurd (cc is)
    only_memory_looks Refused text is c = absurd (cc is)
    only_memory_looks IndexRefused text is c = absurd (cc is)
    only_memory_looks (TableRefused table) text is c = absurd (cc is)
    only_memory_looks WriteFault text is c = absurd (cc is)
    only_memory_looks InputFault text is c = absurd (cc is)
    only_memory_looks InputTooLong text is c = absurd (cc is)
    only_memory_looks Stopped text is c = absurd (cc is)

    both : (index : GdbIndex) (f : Fault) → gdb_index bytes ≡ Ok index → gdb_index bytes ≡ Err f → ⊥
    both index f a b = let e : Ok index ≡ Err f = sym a ∙ b in cc e

    look_meant : (status : Status) → Plain looked (Some files) reads stores writes old new status → IsLookMeant bytes (status_code status)
    look_meant status (answers w) = record {
      answered = λ index is. inl refl;
      refused = λ f is. let same = same_bytes (files file) w.1.0 bytes w.1.1 holds in absurd (both w.1.3.index f (ap gdb_index (sym same) ∙ w.1.3.accepted) is);
    }
    look_meant status (index_refuses w) = record {
      answered = λ index is. let same = same_bytes (files file) w.1.0 bytes w.1.1 holds in absurd (both index w.1.3.fault is (ap gdb_index (sym same) ∙ w.1.3.first));
      refused = λ f is. inl refl;
    }
    look_meant status (refuses w) = absurd w.1
    look_meant status (table_refuses table w) = absurd w.1
    look_meant status (plain_lines text is c) = record { answered = λ index e. inr (only_memory_looks status text is c); refused = λ f e. inr (only_memory_looks status text is c) }
    look_meant status (plain_fails f) = absurd (no_write f)

  -- ---- index

  module _ (form : IndexForm) (out : List ℕ) (no_store : stores → ⊥) (shelf : Option Files) where
    abbrev stored : Option Request
    stored = Some (OfIndex form file out)

    one_built : (a b : Built) (own : List ℕ) → files file ≡ Some own → built_of own ≡ Ok a → built_of bytes ≡ Ok b → a ≡ b
    one_built a b own at x y = same_ok a b (sym x ∙ ap built_of (same_bytes (files file) own bytes at holds) ∙ y)

    no_fault : (a : Built) (own : List ℕ) (f : Fault) → files file ≡ Some own → built_of own ≡ Ok a → first_fault bytes ≡ Some f → ⊥
    no_fault a own f at x first = none_some f (sym (accepted_built own a x) ∙ ap first_fault (same_bytes (files file) own bytes at holds) ∙ first)

    -- an index that is stored fits
    kept_fits : (c : Cache) → Keeps (Some files) shelf out c → c ≡ DoesNotFit → ⊥
    kept_fits (GdbBytes xs) k e = cc e
    kept_fits (NameBytes xs ys) k e = cc e
    kept_fits DoesNotFit k e = k

    by_line : (status : Status) (text : List ℕ) → line_of status ≡ Some text → Causes stored (Some files) reads stores writes status → IsIndexMeant bytes form (status_code status)
    by_line NoMemory text is c = record { stored = λ b e fit. inr refl; too_large = λ b e large. inr refl; refused = λ f first. inr refl }
    by_line IndexTooLarge text is c = record {
      stored = λ b e fit. absurd (fit (ap (index_in form) (sym (one_built c.3.built b c.0 c.1 c.3.accepted e)) ∙ c.3.holds));
      too_large = λ b e large. inl refl;
      refused = λ f first. absurd (no_fault c.3.built c.0 f c.1 c.3.accepted first);
    }
    by_line Usage text is c = absurd (cc c)
    by_line ReadFault text is c = absurd (no_read c)
    by_line StoreFault text is c = absurd (no_store c)
    by_line FileTooBig text is c = absurd (fits MAX_FILE_BYTES (files file) bytes holds small c)
    by_line AlreadyIndexed text is c = absurd c
    by_line TooManySections text is c = absurd c
    by_line Answered text is c = absurd (cc is)
    by_line Refused text is c = absurd (cc is)
    by_line IndexRefused text is c = absurd (cc is)
    by_line (TableRefused table) text is c = absurd (cc is)
    by_line WriteFault text is c = absurd (cc is)
    by_line InputFault text is c = absurd (cc is)
    by_line InputTooLong text is c = absurd (cc is)
    by_line Stopped text is c = absurd (cc is)

    index_meant : (status : Status) → Plain stored (Some files) reads stores writes old new status → LeavesAtEnd stored (Some files) shelf stores status → IsIndexMeant bytes form (status_code status)
    index_meant status (answers w) left = record {
      stored = λ b e fit. inl refl;
      too_large = λ b e large. absurd (kept_fits (index_in form left.3.built) left.3.holds (ap (index_in form) (one_built left.3.built b left.0 left.1 left.3.accepted e) ∙ large));
      refused = λ f first. absurd (no_fault left.3.built left.0 f left.1 left.3.accepted first);
    }
    index_meant status (refuses w) left =
        let none : (b : Built) → built_of bytes ≡ Ok b → ⊥ = λ b e. no_fault b bytes w.1.3.fault holds e (ap first_fault (sym (same_bytes (files file) w.1.0 bytes w.1.1 holds)) ∙ w.1.3.first) in
        record { stored = λ b e fit. absurd (none b e); too_large = λ b e large. absurd (none b e); refused = λ f first. inl refl }
    index_meant status (table_refuses table w) left = absurd w.1
    index_meant status (index_refuses w) left = absurd w.1
    index_meant status (plain_lines text is c) left = by_line status text is c
    index_meant status (plain_fails f) left = absurd (no_write f)

  -- ---- add

  module _ (form : IndexForm) (out : List ℕ) (no_store : stores → ⊥) (shelf : Option Files) where
    abbrev with_index : Option Request
    with_index = Some (OfAdd form file out)

    -- what holds of the program with this name holds of these bytes
    of_these : (P : List ℕ → List Section → Cache → Type 0) → ForNamedProgram (Some files) file form P → ForProgram bytes form P
    of_these P h = subst (λ (own : List ℕ). ForProgram own form P) (same_bytes (files file) h.0 bytes h.1 holds) h.3

    add_line : (status : Status) (text : List ℕ) → line_of status ≡ Some text → Causes with_index (Some files) reads stores writes status → IsAddMeant bytes form (status_code status)
    add_line NoMemory text is c = short_of_memory bytes form
    add_line IndexTooLarge text is c = when_too_large bytes form (of_these _ c)
    add_line AlreadyIndexed text is c = when_indexed bytes form (of_these _ c)
    add_line TooManySections text is c = when_crowded bytes form (of_these _ c)
    add_line Usage text is c = absurd (cc c)
    add_line ReadFault text is c = absurd (no_read c)
    add_line StoreFault text is c = absurd (no_store c)
    add_line FileTooBig text is c = absurd (fits MAX_FILE_BYTES (files file) bytes holds small c)
    add_line Answered text is c = absurd (cc is)
    add_line Refused text is c = absurd (cc is)
    add_line IndexRefused text is c = absurd (cc is)
    add_line (TableRefused table) text is c = absurd (cc is)
    add_line WriteFault text is c = absurd (cc is)
    add_line InputFault text is c = absurd (cc is)
    add_line InputTooLong text is c = absurd (cc is)
    add_line Stopped text is c = absurd (cc is)

    add_meant : (status : Status) → Plain with_index (Some files) reads stores writes old new status → LeavesAtEnd with_index (Some files) shelf stores status → IsAddMeant bytes form (status_code status)
    add_meant status (answers w) left = when_stored bytes form (Stored (Some files) shelf out) (of_these (OfAdded (kind_of form) (Stored (Some files) shelf out)) left)
    add_meant status (refuses w) left = when_refused bytes form w.1.3.fault (ap first_fault (sym (same_bytes (files file) w.1.0 bytes w.1.1 holds)) ∙ w.1.3.first)
    add_meant status (table_refuses table w) left = absurd w.1
    add_meant status (index_refuses w) left = absurd w.1
    add_meant status (plain_lines text is c) left = add_line status text is c
    add_meant status (plain_fails f) left = absurd (no_write f)

-- ---- look, in an index and its strings

module _ (files : Files) (reads stores writes : Type 0) (old new : Option (List ℕ)) (index strings bytes held : List ℕ) (has_index : files index ≡ Some bytes) (small_index : length bytes ≤ MAX_FILE_BYTES) (has_strings : files strings ≡ Some held) (small_strings : length held ≤ MAX_FILE_BYTES) (no_read : reads → ⊥) (no_write : writes → ⊥) (look : NamesLook) (name : List ℕ) where
  abbrev names : Option Request
  names = Some (OfNames look index strings name)

  no_read_of_both : reads ⊎ reads → ⊥
  no_read_of_both (inl h) = no_read h
  no_read_of_both (inr h) = no_read h

  both_fit : ((all : List ℕ) × (files index ≡ Some all) × (MAX_FILE_BYTES < length all)) ⊎ ((all : List ℕ) × (files strings ≡ Some all) × (MAX_FILE_BYTES < length all)) → ⊥
  both_fit (inl h) = fits MAX_FILE_BYTES (files index) bytes has_index small_index h
  both_fit (inr h) = fits MAX_FILE_BYTES (files strings) held has_strings small_strings h

  only_memory_names : (status : Status) (text : List ℕ) → line_of status ≡ Some text → Causes names (Some files) reads stores writes status → status_code status ≡ 7
  only_memory_names NoMemory text is c = refl
  only_memory_names Usage text is c = absurd (cc c)
  only_memory_names ReadFault text is c = absurd (no_read_of_both c)
  only_memory_names StoreFault text is c = absurd c
  only_memory_names IndexTooLarge text is c = absurd c
  only_memory_names FileTooBig text is c = absurd (both_fit c)
  only_memory_names AlreadyIndexed text is c = absurd c
  only_memory_names TooManySections text is c = absurd c
  only_memory_names Answered text is c = absurd (cc is)
  only_memory_names Refused text is c = absurd (cc is)
  only_memory_names IndexRefused text is c = absurd (cc is)
  only_memory_names (TableRefused table) text is c = absurd (cc is)
  only_memory_names WriteFault text is c = absurd (cc is)
  only_memory_names InputFault text is c = absurd (cc is)
  only_memory_names InputTooLong text is c = absurd (cc is)
  only_memory_names Stopped text is c = absurd (cc is)

  not_both : (read : NameIndex) (f : Fault) → name_index bytes held look.base ≡ Ok read → name_index bytes held look.base ≡ Err f → ⊥
  not_both read f a b = let e : Ok read ≡ Err f = sym a ∙ b in cc e

  -- what these files hold, whatever bytes they are known by
  own_bytes : (a b : List ℕ) → files index ≡ Some a → files strings ≡ Some b → name_index bytes held look.base ≡ name_index a b look.base
  own_bytes a b x y = ap (λ (l : List ℕ). name_index l held look.base) (same_bytes (files index) bytes a has_index x) ∙ ap (λ (l : List ℕ). name_index a l look.base) (same_bytes (files strings) held b has_strings y)

  names_meant : (status : Status) → Plain names (Some files) reads stores writes old new status → IsNamesMeant bytes held look (status_code status)
  names_meant status (answers w) = record {
    answered = λ read is. inl refl;
    refused = λ f is. absurd (not_both w.1.3.3.index f (own_bytes w.1.0 w.1.3.0 w.1.1 w.1.3.1 ∙ w.1.3.3.accepted) is);
  }
  names_meant status (table_refuses table w) = absurd w.1
  names_meant status (index_refuses w) = record {
    answered = λ read is. absurd (not_both read w.1.3.3.fault is (own_bytes w.1.0 w.1.3.0 w.1.1 w.1.3.1 ∙ w.1.3.3.first));
    refused = λ f is. inl refl;
  }
  names_meant status (refuses w) = absurd w.1
  names_meant status (plain_lines text is c) = record { answered = λ read e. inr (only_memory_names status text is c); refused = λ f e. inr (only_memory_names status text is c) }
  names_meant status (plain_fails f) = absurd (no_write f)

-- ---- sessions

-- a file has a fault or none
not_both_kinds : (own bytes : List ℕ) (f : Fault) → own ≡ bytes → first_fault own ≡ None → first_fault bytes ≡ Some f → ⊥
not_both_kinds own bytes f same none some = none_some f (sym none ∙ ap first_fault same ∙ some)

not_refused : (own bytes : List ℕ) → own ≡ bytes → IsSome (first_fault own) → first_fault bytes ≡ None → ⊥
not_refused own bytes same some none = nothing_there (subst IsSome (ap first_fault same ∙ none) some)
  where
    nothing_there : IsSome {T = Fault} None → ⊥
    nothing_there h = absurd (cc h)

module _ (request : Option Request) (files : Files) (heard : Heard) (reads stores writes : Type 0) (old new : Option (List ℕ)) (file bytes : List ℕ) (holds : files file ≡ Some bytes) (no_read : AsksFile request (λ _ _. reads) → ⊥) (no_store : AsksIndex request (λ _ _ _. stores) → ⊥) (small : AsksFile request (HoldsMore (Some files)) → ⊥) (no_large : MakesTooLarge request (Some files) → ⊥) (no_indexed : IsAlreadyIndexed request (Some files) → ⊥) (no_crowded : HasTooManySections request (Some files) → ⊥) (asks : request ≡ None → ⊥) (no_write : writes → ⊥) where
  session_line : (status : Status) (text : List ℕ) → line_of status ≡ Some text → Causes request (Some files) reads stores writes status → status_code status ≡ 7
  session_line NoMemory text is c = refl
  session_line Usage text is c = absurd (asks c)
  session_line ReadFault text is c = absurd (no_read c)
  session_line StoreFault text is c = absurd (no_store c)
  session_line IndexTooLarge text is c = absurd (no_large c)
  session_line FileTooBig text is c = absurd (small c)
  session_line AlreadyIndexed text is c = absurd (no_indexed c)
  session_line TooManySections text is c = absurd (no_crowded c)
  session_line Answered text is c = absurd (cc is)
  session_line Refused text is c = absurd (cc is)
  session_line IndexRefused text is c = absurd (cc is)
  session_line (TableRefused table) text is c = absurd (cc is)
  session_line WriteFault text is c = absurd (cc is)
  session_line InputFault text is c = absurd (cc is)
  session_line InputTooLong text is c = absurd (cc is)
  session_line Stopped text is c = absurd (cc is)

  -- what is said with each status, of some bytes that the file holds
  pub session_meant : ((text : List ℕ) → Says request (Some files) heard Answered text → (own : List ℕ) × (files file ≡ Some own) × IsAccepted own) → ((text : List ℕ) → Says request (Some files) heard Refused text → (own : List ℕ) × (files file ≡ Some own) × IsSome (first_fault own)) →
      ((text : List ℕ) → Says request (Some files) heard IndexRefused text → ⊥) → ((kind : RefusedTable) (text : List ℕ) → Says request (Some files) heard (TableRefused kind) text → ⊥) → ((text : List ℕ) → Says request (Some files) heard InputFault text → ⊥) →
      (status : Status) → Outcome request (Some files) heard reads stores writes old new status → IsServeMeant bytes (status_code status)
  session_meant says_yes says_no never table input Answered (tells t w) = let a = says_yes w.0 w.1 in record {
    answered = λ _. inl refl;
    refused_ = λ f some. absurd (not_both_kinds a.0 bytes f (same_bytes (files file) a.0 bytes a.1 holds) a.2 some);
  }
  session_meant says_yes says_no never table input Refused (tells t w) = let a = says_no w.0 w.1 in record {
    answered = λ none. absurd (not_refused a.0 bytes (same_bytes (files file) a.0 bytes a.1 holds) a.2 none);
    refused_ = λ f some. inl refl;
  }
  session_meant says_yes says_no never table input IndexRefused (tells t w) = absurd (never w.0 w.1)
  session_meant says_yes says_no never table input (TableRefused kind) (tells t w) = absurd (table kind w.0 w.1)
  session_meant says_yes says_no never table input InputFault (tells t w) = absurd (input w.0 w.1)
  session_meant says_yes says_no never table input InputTooLong (tells t w) = record { answered = λ _. inr (inr refl); refused_ = λ f some. inr (inr refl) }
  session_meant says_yes says_no never table input Usage (tells t w) = absurd t
  session_meant says_yes says_no never table input ReadFault (tells t w) = absurd t
  session_meant says_yes says_no never table input StoreFault (tells t w) = absurd t
  session_meant says_yes says_no never table input WriteFault (tells t w) = absurd t
  session_meant says_yes says_no never table input NoMemory (tells t w) = absurd t
  session_meant says_yes says_no never table input IndexTooLarge (tells t w) = absurd t
  session_meant says_yes says_no never table input FileTooBig (tells t w) = absurd t
  session_meant says_yes says_no never table input AlreadyIndexed (tells t w) = absurd t
  session_meant says_yes says_no never table input TooManySections (tells t w) = absurd t
  session_meant says_yes says_no never table input Stopped (tells t w) = absurd t
  session_meant says_yes says_no never table input status (stops text says part) = record { answered = λ _. inr (inl refl); refused_ = λ f some. inr (inl refl) }
  session_meant says_yes says_no never table input status (lines text is c a) = let e = session_line status text is c in record { answered = λ _. inr (inl e); refused_ = λ f some. inr (inl e) }
  session_meant says_yes says_no never table input status (fails f p) = absurd (no_write f)

-- ---- drill

-- where both indexes fit, none is too large
none_too_large : (file : List ℕ) (b : Built) → built_of file ≡ Ok b → (cache_in Gdb8 b ≡ DoesNotFit → ⊥) → (cache_in Names b ≡ DoesNotFit → ⊥) → HasTooLarge file → ⊥
none_too_large file b is gdb names large = by large.large
  where
    same : b ≡ large.built
    same = same_ok b large.built (sym is ∙ large.accepted)

    by : (cache_in Gdb8 large.built ≡ DoesNotFit) ⊎ (cache_in Names large.built ≡ DoesNotFit) → ⊥
    by (inl off) = gdb (ap (cache_in Gdb8) same ∙ off)
    by (inr off) = names (ap (cache_in Names) same ∙ off)

-- those whose sizes were written fit
sizes_fit : (file text : List ℕ) → IsSummaryOf file text → HasTooLarge file → ⊥
sizes_fit file text s large = none_too_large file s.built s.accepted
    (λ off. let e : GdbBytes s.gdb ≡ DoesNotFit = sym s.gdb_is ∙ off in cc e)
    (λ off. let e : NameBytes s.names s.strings ≡ DoesNotFit = sym s.names_is ∙ off in cc e) large

-- an accepted file has no fault
not_faulty : (file : List ℕ) (b : Built) (f : Fault) → built_of file ≡ Ok b → first_fault file ≡ Some f → ⊥
not_faulty file b f is first = none_some f (sym (accepted_built file b is) ∙ first)

module _ (seed units : ℕ) (told : Option Files) (heard : Heard) (reads stores writes : Type 0) (old new : Option (List ℕ)) (no_write : writes → ⊥) where
  abbrev drilled : Option Request
  drilled = Some (OfDrill seed units)

  abbrev made : List ℕ
  made = generated_file seed units

  -- the line of a status can be that of want of memory or of an index that is too large
  drill_line : (status : Status) (text : List ℕ) → line_of status ≡ Some text → Causes drilled told reads stores writes status → IsDrillMeant made (status_code status)
  drill_line NoMemory text is c = record { answered = λ b e gdb names. inr refl; too_large = λ large. inr refl; refused_ = λ f first. inr refl }
  drill_line IndexTooLarge text is c = record {
    answered = λ b e gdb names. absurd (none_too_large made b e gdb names c);
    too_large = λ large. inl refl;
    refused_ = λ f first. absurd (not_faulty made c.built f c.accepted first);
  }
  drill_line Usage text is c = absurd (cc c)
  drill_line ReadFault text is c = absurd c
  drill_line StoreFault text is c = absurd c
  drill_line FileTooBig text is c = absurd c
  drill_line AlreadyIndexed text is c = absurd c
  drill_line TooManySections text is c = absurd c
  drill_line Answered text is c = absurd (cc is)
  drill_line Refused text is c = absurd (cc is)
  drill_line IndexRefused text is c = absurd (cc is)
  drill_line (TableRefused table) text is c = absurd (cc is)
  drill_line WriteFault text is c = absurd (cc is)
  drill_line InputFault text is c = absurd (cc is)
  drill_line InputTooLong text is c = absurd (cc is)
  drill_line Stopped text is c = absurd (cc is)

  drill_meant : (status : Status) → Outcome drilled told heard reads stores writes old new status → IsDrillMeant made (status_code status)
  drill_meant Answered (tells t w) = record {
    answered = λ b e gdb names. inl refl;
    too_large = λ large. absurd (sizes_fit made w.0 w.1 large);
    refused_ = λ f first. absurd (not_faulty made w.1.built f w.1.accepted first);
  }
  drill_meant Refused (tells t w) = record {
    answered = λ b e gdb names. absurd (not_faulty made b w.1.fault e w.1.first);
    too_large = λ large. absurd (not_faulty made large.built w.1.fault large.accepted w.1.first);
    refused_ = λ f first. inl refl;
  }
  drill_meant IndexRefused (tells t w) = absurd w.1
  drill_meant (TableRefused table) (tells t w) = absurd w.1
  drill_meant InputFault (tells t w) = absurd w.1
  drill_meant InputTooLong (tells t w) = absurd w.1
  drill_meant Usage (tells t w) = absurd t
  drill_meant ReadFault (tells t w) = absurd t
  drill_meant StoreFault (tells t w) = absurd t
  drill_meant WriteFault (tells t w) = absurd t
  drill_meant NoMemory (tells t w) = absurd t
  drill_meant IndexTooLarge (tells t w) = absurd t
  drill_meant FileTooBig (tells t w) = absurd t
  drill_meant AlreadyIndexed (tells t w) = absurd t
  drill_meant TooManySections (tells t w) = absurd t
  drill_meant Stopped (tells t w) = absurd t
  drill_meant status (stops text says part) = absurd says
  drill_meant status (lines text is c a) = drill_line status text is c
  drill_meant status (fails f p) = absurd (no_write f)

pub complete : (request : Option Request) (told shelf : Option Files) (heard : Heard) (reads stores writes : Type 0) (old new : Option (List ℕ)) (status : Status) → Outcome request told heard reads stores writes old new status → LeavesAtEnd request told shelf stores status →
    Completes request told heard reads stores writes (status_code status)
complete None told shelf heard reads stores writes old new status o left = nothing_asked told reads stores writes old new status (plain None told reads stores writes old new heard (λ _ _ h. h) status o)
complete (Some TheHelp) told shelf heard reads stores writes old new status o left = λ none. own_text told reads stores writes old new TheHelp (λ P h. h) (λ P h. h) (λ P h. h) (λ h. h) (λ text h. h) (λ text kind h. h) (λ h. h) (λ h. h) none status (plain (Some TheHelp) told reads stores writes old new heard (λ _ _ h. h) status o)
complete (Some TheVersion) told shelf heard reads stores writes old new status o left = λ none. own_text told reads stores writes old new TheVersion (λ P h. h) (λ P h. h) (λ P h. h) (λ h. h) (λ text h. h) (λ text kind h. h) (λ h. h) (λ h. h) none status (plain (Some TheVersion) told reads stores writes old new heard (λ _ _ h. h) status o)
complete (Some (OfFile file q)) None shelf heard reads stores writes old new status o left = tt
complete (Some (OfFile file q)) (Some files) shelf heard reads stores writes old new status o left = λ bytes holds small no_read no_write. meant files reads stores writes old new file bytes holds small no_read no_write q status (plain (Some (OfFile file q)) (Some files) reads stores writes old new heard (λ _ _ h. h) status o)
complete (Some (OfIndex form file out)) None shelf heard reads stores writes old new status o left = tt
complete (Some (OfIndex form file out)) (Some files) shelf heard reads stores writes old new status o left = λ bytes holds small no_read no_write no_store. index_meant files reads stores writes old new file bytes holds small no_read no_write form out no_store shelf status (plain (Some (OfIndex form file out)) (Some files) reads stores writes old new heard (λ _ _ h. h) status o) left
complete (Some (OfAdd form file out)) None shelf heard reads stores writes old new status o left = tt
complete (Some (OfAdd form file out)) (Some files) shelf heard reads stores writes old new status o left = λ bytes holds small no_read no_write no_store. add_meant files reads stores writes old new file bytes holds small no_read no_write form out no_store shelf status (plain (Some (OfAdd form file out)) (Some files) reads stores writes old new heard (λ _ _ h. h) status o) left
complete (Some (OfGdb index q)) None shelf heard reads stores writes old new status o left = tt
complete (Some (OfGdb index q)) (Some files) shelf heard reads stores writes old new status o left = λ bytes holds small no_read no_write. look_meant files reads stores writes old new index bytes holds small no_read no_write q status (plain (Some (OfGdb index q)) (Some files) reads stores writes old new heard (λ _ _ h. h) status o)
complete (Some (OfNames look index strings name)) None shelf heard reads stores writes old new status o left = tt
complete (Some (OfNames look index strings name)) (Some files) shelf heard reads stores writes old new status o left = λ bytes has_index small_index no_read no_write held has_strings small_strings again_no_read again_no_write. names_meant files reads stores writes old new index strings bytes held has_index small_index has_strings small_strings no_read no_write look name status (plain (Some (OfNames look index strings name)) (Some files) reads stores writes old new heard (λ _ _ h. h) status o)
complete (Some (OfAranges file)) None shelf heard reads stores writes old new status o left = tt
complete (Some (OfAranges file)) (Some files) shelf heard reads stores writes old new status o left = λ bytes holds small no_read no_write.
    let line = session_line (Some (OfAranges file)) files heard reads stores writes old new file bytes holds no_read (λ h. h) (fits MAX_FILE_BYTES (files file) bytes holds small) (λ h. h) (λ h. h) (λ h. h) (λ e. cc e) no_write in
    table_meant files reads stores writes old new file bytes holds no_write sets_of (Some (OfAranges file)) line 14 (λ text h. (h.0, h.1, (h.3.built, h.3.accepted, (h.3.holds.0, h.3.holds.1)))) (λ text h. (h.0, h.1, h.3)) (by_aranges files file) (λ text h. h) status (plain (Some (OfAranges file)) (Some files) reads stores writes old new heard (λ _ _ h. h) status o)
complete (Some (OfFiles file name)) None shelf heard reads stores writes old new status o left = tt
complete (Some (OfFiles file name)) (Some files) shelf heard reads stores writes old new status o left = λ bytes holds small no_read no_write.
    let line = session_line (Some (OfFiles file name)) files heard reads stores writes old new file bytes holds no_read (λ h. h) (fits MAX_FILE_BYTES (files file) bytes holds small) (λ h. h) (λ h. h) (λ h. h) (λ e. cc e) no_write in
    table_meant files reads stores writes old new file bytes holds no_write (found_by name) (Some (OfFiles file name)) line 15 (λ text h. (h.0, h.1, (h.3.built, h.3.accepted, (h.3.holds.0, h.3.holds.1)))) (λ text h. (h.0, h.1, h.3)) (by_lines files file name) (λ text h. h) status (plain (Some (OfFiles file name)) (Some files) reads stores writes old new heard (λ _ _ h. h) status o)
complete (Some (OfCached file store q)) None shelf heard reads stores writes old new status o left = tt
complete (Some (OfCached file store q)) (Some files) shelf heard reads stores writes old new status o left = λ bytes holds small no_read no_write. cached_meant files reads stores writes old new file bytes store q holds (fits MAX_FILE_BYTES (files file) bytes holds small) no_read no_write status (plain (Some (OfCached file store q)) (Some files) reads stores writes old new heard (λ _ _ h. h) status o)
complete (Some (OfServe how file)) None shelf heard reads stores writes old new status o left = tt
complete (Some (OfServe how file)) (Some files) shelf heard reads stores writes old new status o left = λ bytes holds small no_read no_write no_input.
    session_meant (Some (OfServe how file)) files heard reads stores writes old new file bytes holds no_read (λ h. h) (fits MAX_FILE_BYTES (files file) bytes holds small) (λ h. h) (λ h. h) (λ h. h) (λ e. cc e) no_write
    (λ text h. (h.0, h.1, h.3.0)) (λ text h. (h.0, h.1, h.3.0)) (λ text h. h.3) (λ kind text h. h.3) (λ text h. no_input h.3.0) status o
complete (Some (OfRace how file script)) None shelf heard reads stores writes old new status o left = tt
complete (Some (OfRace how file script)) (Some files) shelf heard reads stores writes old new status o left = λ bytes holds small no_read no_write held has_script small_script again_no_read again_no_write.
    session_meant (Some (OfRace how file script)) files heard reads stores writes old new file bytes holds (⊎_elim no_read no_read) (λ h. h) (⊎_elim (fits MAX_FILE_BYTES (files file) bytes holds small) (fits MAX_SCRIPT_BYTES (files script) held has_script small_script)) (λ h. h) (λ h. h) (λ h. h) (λ e. cc e) no_write
    (λ text h. (h.0, h.1, h.3.3.0)) (λ text h. (h.0, h.1, h.3.3.0)) (λ text h. h.3.3) (λ kind text h. h.3.3) (λ text h. h.3.3) status o
complete (Some (OfDrill seed units)) told shelf heard reads stores writes old new status o left = λ no_write. drill_meant seed units told heard reads stores writes old new no_write status o
