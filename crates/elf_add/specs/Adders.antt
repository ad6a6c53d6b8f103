-- What an adder holds, and what each of its calls does (System V gABI, chapter 4, "Sections").
use Rattle.std.specs.Prelude.{◌≡◌, ◌+◌, ℕ, Bool, not, ◌&&◌, ◌||◌, nat_lt, if◌then◌else◌, List, [], ◌∷◌, ◌++◌, bytes_eq, is_some, Some, None, Result, Ok, Err, IsOk}
use Rattle.std.specs.List.{list_any}
use Rattle.ix_base.specs.declared.fault.Fault.{Fault}
use Rattle.ix_base.specs.declared.or_memory.OrMemory.{OrMemory}
use Rattle.ix_base.specs.declared.or_memory.OrMemory.TheVariants.{Cause, Memory}
use Rattle.index_model.specs.Meaning.{◌>>=◌}
use Rattle.index_model.specs.Sections.{Section, index_named, sections_of}
use Rattle.reach_model.specs.Added.{Addition, debug_str, new_count}
use Rattle.reach_model.specs.AddedIndex.{most_sections}
use Rattle.elf_add.specs.declared.adder.NoRoom.{NoRoom}
use Rattle.elf_add.specs.declared.adder.NoRoom.TheVariants.{Present, TooMany}

-- a program file, its sections, and what is to be added
pub record Adder : Type 0 where
  pub file : List ℕ
  pub sections : List Section
  pub addition : Addition

-- nothing is to be added to a file, which has no fault in its sections
unfoldable pub adder_of : List ℕ → Result Adder Fault
adder_of file = sections_of file >>= λ sections. Ok (record { file = file; sections = sections; addition = record { sections = []; strings = None } })

-- whether the file or the adder has a section of this name
unfoldable pub has_section : Adder → List ℕ → Bool
has_section a name = is_some (index_named a.sections name) || list_any (λ s. bytes_eq s.name name) a.addition.sections

-- whether there is no room for one more section
unfoldable pub is_full : Adder → Bool
is_full a = nat_lt most_sections (new_count a.file a.sections a.addition + 1)

-- one more section, with a new name
unfoldable pub with_section : Adder → List ℕ → List ℕ → Result Adder NoRoom
with_section a name bytes =
    if has_section a name then Err Present else
    if is_full a then Err TooMany else
    Ok (record a { addition = record a.addition { sections = a.addition.sections ++ record { name = name; content = bytes } ∷ [] } })

-- strings behind those of `.debug_str`, once; where the file has none, that is a section more
unfoldable pub with_strings : Adder → List ℕ → Result Adder NoRoom
with_strings a bytes =
    if is_some a.addition.strings then Err Present else
    if not (is_some (index_named a.sections debug_str)) && is_full a then Err TooMany else
    Ok (record a { addition = record a.addition { strings = Some bytes } })

-- An adder did what the meaning says, or is unchanged for the meaning's reason. Want of memory is an answer only where the meaning is
-- a change.
abbrev pub AddsAs : Result (Unit {0}) (OrMemory NoRoom) → Adder → Adder → Result Adder NoRoom → Type 0
AddsAs (Ok x) old new meaning = meaning ≡ Ok new
AddsAs (Err Memory) old new meaning = (new ≡ old) × IsOk meaning
AddsAs (Err (Cause why)) old new meaning = (new ≡ old) × (meaning ≡ Err why)
