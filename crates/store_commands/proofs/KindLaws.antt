-- What is added for an index, by its kind.
use Rattle.std.proofs.Common.{◌≡◌, ◌⊎◌, inl, inr, ℕ, Bool, true, false, cond, List, [], codes, Result, Ok, Err, Some, refl, sym, ap, subst, ◌∙◌, ◌≤◌, length, arith}
use Rattle.std.specs.Prelude.{IfErr, IfOk, OnOk, ⊤}
use Rattle.std.proofs.lemmas.Option.{same_Some}
use Rattle.index_model.specs.declared.job.CacheKind.{CacheKind}
use Rattle.index_model.specs.declared.job.CacheKind.TheVariants.{Gdb8, Gdb9, Names}
use Rattle.index_model.specs.Cache.{Cache, GdbBytes, NameBytes, DoesNotFit}
use Rattle.ix_base.specs.declared.limits.TheConstants.{MAX_FILE_BYTES}
use Rattle.index_model.specs.Cache.{cache_in, cache_of}
use Rattle.index_model.specs.Faults.{Built, built_of}
use Rattle.index_model.specs.Sections.{Section}
use Rattle.reach_model.specs.Added.{Addition, added, names_start, new_sections, strings_index}
use Rattle.reach_model.specs.AddedIndex.{addition_of}
use Rattle.reach_model.specs.AddedSections.{HavePlaces}
use Rattle.index_model.proofs.Meanings.{same_ok}
use Rattle.reach_model.proofs.BuiltSections.{built_sections}
use Rattle.reach_model.proofs.Places.{names_within, places_fit}
use Rattle.index_forms.specs.Forms.{kind_of}
use Rattle.index_forms.specs.declared.form.GdbVersion.TheVariants.{Eight, Nine}
use Rattle.index_forms.specs.declared.form.IndexForm.{IndexForm}
use Rattle.index_forms.specs.declared.form.IndexForm.TheVariants.{ByDwarf, ByGdb}
use Rattle.gdb_index.specs.Indexes.{gdb_bytes, index_in}
use Rattle.elf_add.specs.Adders.{Adder, adder_of}
use Rattle.store_commands.specs.Adds.{ForProgram, HasRoom, OfAdded}
use Rattle.store_commands.specs.Indexes.{IsIndexOf as IsStoredIndex}
use Rattle.store_commands.specs.Programs.{gdb_section, nothing, staged, AddStops, FillStops, FinishStops, FitsKind, HasRoomForOne, IsIndexOf, SectionStops}
use Rattle.store_commands.specs.declared.program.NotAdded.{NotAdded}
use Rattle.store_commands.specs.declared.program.NotAdded.TheVariants as stops

-- a `.gdb_index` of either version
abbrev pub IsGdb : CacheKind → Type 0
IsGdb Gdb8 = ⊤
IsGdb Gdb9 = ⊤
IsGdb Names = ⊥

pub of_gdb_bytes : (kind : CacheKind) (bytes : List ℕ) → FitsKind kind (GdbBytes bytes) → IsGdb kind
of_gdb_bytes Gdb8 bytes h = tt
of_gdb_bytes Gdb9 bytes h = tt
of_gdb_bytes Names bytes h = absurd h

pub gdb_room : (kind : CacheKind) (file : List ℕ) (sections : List Section) → IsGdb kind → HasRoomForOne file sections (codes ".gdb_index") → HasRoom kind file sections
gdb_room Gdb8 file sections g h = h
gdb_room Gdb9 file sections g h = h
gdb_room Names file sections g h = absurd g

pub gdb_stops : (kind : CacheKind) (file : List ℕ) (sections : List Section) → IsGdb kind → (stop : NotAdded) → SectionStops file sections (codes ".gdb_index") stop → FillStops kind file sections stop
gdb_stops Gdb8 file sections g stops.Present h = h
gdb_stops Gdb8 file sections g stops.TooMany h = h
gdb_stops Gdb8 file sections g stops.TooLarge h = h
gdb_stops Gdb8 file sections g stops.Memory h = h
gdb_stops Gdb9 file sections g stops.Present h = h
gdb_stops Gdb9 file sections g stops.TooMany h = h
gdb_stops Gdb9 file sections g stops.TooLarge h = h
gdb_stops Gdb9 file sections g stops.Memory h = h
gdb_stops Names file sections g stop h = absurd g

-- ---- the section of a `.gdb_index` alone

pub gdb_errs : (kind : CacheKind) (file : List ℕ) (sections : List Section) → IsGdb kind → (r : Result (Unit {0}) NotAdded) → IfErr r (SectionStops file sections (codes ".gdb_index")) → IfErr r (FillStops kind file sections)
gdb_errs kind file sections g (Ok x) h = tt
gdb_errs kind file sections g (Err stop) h = gdb_stops kind file sections g stop h

pub gdb_rooms : (kind : CacheKind) (file : List ℕ) (sections : List Section) → IsGdb kind → (r : Result (Unit {0}) NotAdded) → OnOk r (HasRoomForOne file sections (codes ".gdb_index")) → OnOk r (HasRoom kind file sections)
gdb_rooms kind file sections g (Ok x) h = gdb_room kind file sections g h
gdb_rooms kind file sections g (Err stop) h = tt

pub is_gdb : (kind : CacheKind) → (kind ≡ Gdb8) ⊎ (kind ≡ Gdb9) → IsGdb kind
is_gdb kind (inl e) = subst IsGdb (sym e) tt
is_gdb kind (inr e) = subst IsGdb (sym e) tt

pub none_staged : (kind : CacheKind) → IsGdb kind → staged kind DoesNotFit ≡ gdb_section []
none_staged Gdb8 g = refl
none_staged Gdb9 g = refl
none_staged Names g = absurd g

-- ---- results

pub ok_more : {X E : Type 0} (P Q : X → Type 0) (R : Type 0) (r : Result X E) → IfOk r P → OnOk r R → ((x : X) → P x → R → Q x) → IfOk r Q
ok_more P Q R (Ok x) p o f = f x p o
ok_more P Q R (Err e) p o f = tt

pub err_more : {X E : Type 0} (P Q : E → Type 0) (r : Result X E) → IfErr r P → ((e : E) → P e → Q e) → IfErr r Q
err_more P Q (Ok x) p f = tt
err_more P Q (Err e) p f = f e p

-- ---- a program and its index

gdb8_fits : (bytes : List ℕ) (fits : Bool) → FitsKind Gdb8 (cond fits (GdbBytes bytes) DoesNotFit)
gdb8_fits bytes true = tt
gdb8_fits bytes false = tt

gdb9_fits : (bytes : List ℕ) (fits : Bool) → FitsKind Gdb9 (cond fits (GdbBytes bytes) DoesNotFit)
gdb9_fits bytes true = tt
gdb9_fits bytes false = tt

of_names_fits : (names strings : List ℕ) (fits : Bool) → FitsKind Names (cond fits (NameBytes names strings) DoesNotFit)
of_names_fits names strings true = tt
of_names_fits names strings false = tt

kind_fits : (kind : CacheKind) (b : Built) → FitsKind kind (cache_in kind b)
unfolding cache_in cache_of
kind_fits Gdb8 b = gdb8_fits _ _
kind_fits Gdb9 b = gdb9_fits _ _
kind_fits Names b = of_names_fits _ _ _

form_fits : (form : IndexForm) (b : Built) → FitsKind (kind_of form) (index_in form b)
form_fits (ByDwarf kind) b = kind_fits kind b
form_fits (ByGdb Eight) b = gdb8_fits _ _
form_fits (ByGdb Nine) b = gdb9_fits _ _

-- an index of these bytes, as that of a program
pub as_program : {file : List ℕ} {form : IndexForm} {c : Cache} → IsStoredIndex file form c → IsIndexOf file form c
as_program is = record { built = is.built; accepted = is.accepted; holds = is.holds }

staged_is : (kind : CacheKind) (c : Cache) → (c ≡ DoesNotFit → ⊥) → addition_of c ≡ Some (staged kind c)
staged_is kind (GdbBytes bytes) fits = refl
staged_is kind (NameBytes names strings) fits = refl
staged_is kind DoesNotFit fits = absurd (fits refl)

-- a section alone has a place in a program within the limit
gdb_places : (file : List ℕ) (sections : List Section) (bytes : List ℕ) (fits : Bool) (addition : Addition) → length file ≤ MAX_FILE_BYTES → addition_of (cond fits (GdbBytes bytes) DoesNotFit) ≡ Some addition → HavePlaces (names_start file sections addition) (new_sections file sections addition)
unfolding names_start new_sections strings_index
gdb_places file sections bytes false addition small is = absurd cc
gdb_places file sections bytes true addition small is = rw (← same_Some (gdb_section bytes) addition is) (omega (arith, names_within file, small), tt)

form_places : (file : List ℕ) (b : Built) (form : IndexForm) (addition : Addition) → length file ≤ MAX_FILE_BYTES → built_of file ≡ Ok b → addition_of (index_in form b) ≡ Some addition → HavePlaces (names_start file b.program.sections addition) (new_sections file b.program.sections addition)
form_places file b (ByDwarf kind) addition small is add = places_fit file b kind addition small is add
form_places file b (ByGdb version) addition small is add = gdb_places file b.program.sections (gdb_bytes b version) _ addition small add

module _ (file : List ℕ) (form : IndexForm) (c : Cache) (index : IsIndexOf file form c) where
  abbrev kind : CacheKind
  kind = kind_of form

  pub index_fits : FitsKind kind c
  index_fits = rw (index.holds) (form_fits form index.built)

  pub of_index : (c ≡ DoesNotFit → ⊥) → addition_of (index_in form index.built) ≡ Some (staged kind c)
  of_index fits = rw (← index.holds) (staged_is kind c fits)

  stops_at : (stop : NotAdded) → FillStops kind file index.built.program.sections stop → AddStops file form stop
  stops_at stops.Present h = record { built = index.built; accepted = index.accepted; holds = h }
  stops_at stops.TooMany h = record { built = index.built; accepted = index.accepted; holds = h }
  stops_at stops.TooLarge h = absurd h
  stops_at stops.Memory h = tt

  stops_last : HasRoom kind file index.built.program.sections → (stop : NotAdded) → FinishStops c stop → AddStops file form stop
  stops_last room stops.Present h = absurd h
  stops_last room stops.TooMany h = absurd h
  stops_last room stops.TooLarge h = record { built = index.built; accepted = index.accepted; holds = (room, sym index.holds ∙ h) }
  stops_last room stops.Memory h = tt

  module _ (a : Adder) (opened : adder_of file ≡ Ok a) where
    abbrev first : Adder
    first = record { file = file; sections = index.built.program.sections; addition = nothing }

    opened_first : adder_of file ≡ Ok first
    unfolding adder_of
    opened_first = rw (built_sections file index.built index.accepted) refl

    pub adder_is : a ≡ first
    adder_is = sym (same_ok first a (sym opened_first ∙ opened))

    pub fresh : a.addition ≡ nothing
    fresh = ap (λ (x : Adder). x.addition) adder_is

    room_here : HasRoom kind a.file a.sections → HasRoom kind file index.built.program.sections
    room_here room = subst (λ (x : Adder). HasRoom kind x.file x.sections) adder_is room

    pub stops_program : (stop : NotAdded) → FillStops kind a.file a.sections stop → AddStops file form stop
    stops_program stop h = stops_at stop (subst (λ (x : Adder). FillStops kind x.file x.sections stop) adder_is h)

    pub finish_stops : HasRoom kind a.file a.sections → (stop : NotAdded) → FinishStops c stop → AddStops file form stop
    finish_stops room stop h = stops_last (room_here room) stop h

    module _ (new : Adder) (is : new ≡ record a { addition = staged kind c }) where
      new_is : new ≡ record first { addition = staged kind c }
      new_is = is ∙ ap (λ (x : Adder). record x { addition = staged kind c }) adder_is

      pub places : length file ≤ MAX_FILE_BYTES → (c ≡ DoesNotFit → ⊥) → HavePlaces (names_start new.file new.sections new.addition) (new_sections new.file new.sections new.addition)
      places small fits = subst (λ (x : Adder). HavePlaces (names_start x.file x.sections x.addition) (new_sections x.file x.sections x.addition)) (sym new_is) (form_places file index.built form (staged kind c) small index.accepted (of_index fits))

      pub with_added : HasRoom kind a.file a.sections → (c ≡ DoesNotFit → ⊥) → (bytes : List ℕ) → bytes ≡ added new.file new.sections new.addition → ForProgram file form (OfAdded kind (λ b. b ≡ bytes))
      with_added room fits bytes e = record {
        built = index.built;
        accepted = index.accepted;
        holds = (room_here room, (staged kind c, of_index fits, sym (e ∙ ap (λ (x : Adder). added x.file x.sections x.addition) new_is)));
      }
