-- What the sections of a program say to those that are to be added for an index.
use Rattle.std.proofs.Common.{◌≡◌, ◌+◌, ℕ, Bool, true, false, ◌||◌, ltb, List, [], ◌++◌, length, append-nil, Result, Ok, Err, Some, None, refl, sym, ap, ◌∙◌, arith}
use Rattle.std.specs.Prelude.{if◌then◌else◌}
use Rattle.index_model.specs.Sections.{section_count}
use Rattle.reach_model.specs.Added.{new_sections, strings_index}
use Rattle.reach_model.specs.AddedIndex.{most_sections}
use Rattle.elf_add.specs.Adders.{Adder, has_section, is_full, with_section, with_strings, AddsAs}
use Rattle.ix_base.specs.declared.or_memory.OrMemory.{OrMemory}
use Rattle.ix_base.specs.declared.or_memory.OrMemory.TheVariants as either
use Rattle.elf_add.specs.declared.adder.NoRoom.{NoRoom}
use Rattle.elf_add.specs.declared.adder.NoRoom.TheVariants as adds
use Rattle.store_commands.specs.Programs.{is_full_with, is_there, lacks_strings, nothing, one_section, reason, HasRoomForOne, SectionStops, StringsStop}

-- ---- a test of the names, and then one of the number

abbrev outcome : Bool → Bool → Adder → Result Adder NoRoom
outcome taken full new = if taken then Err adds.Present else if full then Err adds.TooMany else Ok new

ok_gives : (taken full : Bool) (made new : Adder) → outcome taken full made ≡ Ok new → (taken ≡ false) × (full ≡ false) × (new ≡ made)
ok_gives true full made new h = absurd cc
ok_gives false true made new h = absurd cc
ok_gives false false made new h = (refl, refl, cc)

present_gives : (taken full : Bool) (made : Adder) → outcome taken full made ≡ Err adds.Present → taken ≡ true
present_gives true full made h = refl
present_gives false true made h = absurd cc
present_gives false false made h = absurd cc

many_gives : (taken full : Bool) (made : Adder) → outcome taken full made ≡ Err adds.TooMany → (taken ≡ false) × (full ≡ true)
many_gives true full made h = absurd cc
many_gives false true made h = (refl, refl)
many_gives false false made h = absurd cc

-- ---- the first section

or_none : (b : Bool) → (b || false) ≡ b
or_none true = refl
or_none false = refl

full_at_first : (a : Adder) → a.addition ≡ nothing → is_full a ≡ is_full_with 1 a.file
unfolding is_full new_sections strings_index
full_at_first a fresh =
    let same : section_count a.file + 0 + 1 ≡ section_count a.file + 1 = omega arith in
    rw fresh (ap (λ (n : ℕ). ltb most_sections n) same)

first_is : (a : Adder) (name bytes : List ℕ) → a.addition ≡ nothing → with_section a name bytes ≡ outcome (is_there a.sections name) (is_full_with 1 a.file) (record a { addition = one_section name bytes })
unfolding with_section has_section
first_is a name bytes fresh = rw (full_at_first a fresh, fresh, or_none (is_there a.sections name)) refl

module _ (a : Adder) (name bytes : List ℕ) (fresh : a.addition ≡ nothing) where
  abbrev made : Adder
  made = record a { addition = one_section name bytes }

  pub first_ok : (new : Adder) → with_section a name bytes ≡ Ok new → new ≡ made
  first_ok new h = (ok_gives (is_there a.sections name) (is_full_with 1 a.file) made new (sym (first_is a name bytes fresh) ∙ h)).2

  pub first_room : (new : Adder) → with_section a name bytes ≡ Ok new → HasRoomForOne a.file a.sections name
  first_room new h =
      let g = ok_gives (is_there a.sections name) (is_full_with 1 a.file) made new (sym (first_is a name bytes fresh) ∙ h) in
      (g.0, g.1)

  pub first_present : with_section a name bytes ≡ Err adds.Present → SectionStops a.file a.sections name (reason (either.Cause adds.Present))
  first_present h = present_gives (is_there a.sections name) (is_full_with 1 a.file) made (sym (first_is a name bytes fresh) ∙ h)

  pub first_many : with_section a name bytes ≡ Err adds.TooMany → SectionStops a.file a.sections name (reason (either.Cause adds.TooMany))
  first_many h = many_gives (is_there a.sections name) (is_full_with 1 a.file) made (sym (first_is a name bytes fresh) ∙ h)

  pub section_stops : (new : Adder) (stop : OrMemory NoRoom) → AddsAs (Err stop) a new (with_section a name bytes) → SectionStops a.file a.sections name (reason stop)
  section_stops new (either.Cause adds.Present) h = first_present h.1
  section_stops new (either.Cause adds.TooMany) h = first_many h.1
  section_stops new either.Memory h = tt

-- ---- and the strings

module _ (a : Adder) (strings : List ℕ) (one : length a.addition.sections ≡ 1) (first : a.addition.strings ≡ None) where
  abbrev filled : Adder
  filled = record a { addition = record a.addition { strings = Some strings } }

  full_at_last : is_full a ≡ is_full_with 2 a.file
  unfolding is_full new_sections strings_index
  full_at_last =
      let all : length (a.addition.sections ++ []) ≡ 1 = rw (append-nil a.addition.sections) one in
      let same : section_count a.file + length (a.addition.sections ++ []) + 1 ≡ section_count a.file + 2 = omega (arith, all) in
      rw first (ap (λ (n : ℕ). ltb most_sections n) same)

  last_is : with_strings a strings ≡ outcome false (lacks_strings a.file a.sections) filled
  unfolding with_strings
  last_is = rw (full_at_last, first) refl

  pub last_ok : (new : Adder) → with_strings a strings ≡ Ok new → new ≡ filled
  last_ok new h = (ok_gives false (lacks_strings a.file a.sections) filled new (sym last_is ∙ h)).2

  pub last_room : (new : Adder) → with_strings a strings ≡ Ok new → lacks_strings a.file a.sections ≡ false
  last_room new h = (ok_gives false (lacks_strings a.file a.sections) filled new (sym last_is ∙ h)).1

  pub last_present : with_strings a strings ≡ Err adds.Present → ⊥
  last_present h =
      let g : false ≡ true = present_gives false (lacks_strings a.file a.sections) filled (sym last_is ∙ h) in
      absurd (cc g)

  pub last_many : with_strings a strings ≡ Err adds.TooMany → lacks_strings a.file a.sections ≡ true
  last_many h = (many_gives false (lacks_strings a.file a.sections) filled (sym last_is ∙ h)).1

  pub strings_stop : (new : Adder) (stop : OrMemory NoRoom) → (stop ≡ either.Memory → ⊥) → AddsAs (Err stop) a new (with_strings a strings) → StringsStop a.file a.sections (reason stop)
  strings_stop new (either.Cause adds.Present) taken h = last_present h.1
  strings_stop new (either.Cause adds.TooMany) taken h = last_many h.1
  strings_stop new either.Memory taken h = taken refl
