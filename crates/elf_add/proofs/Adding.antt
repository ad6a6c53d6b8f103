-- What each call of an adder does, by the tests that it makes.
use Rattle.std.proofs.Common.{◌≡◌, ℕ, ◌+◌, ◌≤◌, Bool, true, false, cond, ltb, List, [], ◌∷◌, ◌++◌, length, map, Option, Some, None, Ok, Err, IsOk, refl, sym, ap, ◌∙◌, arith}
use Rattle.std.specs.Prelude.{bytes_eq, is_some, not, ◌&&◌, ◌||◌}
use Rattle.std.specs.List.{list_any}
use Rattle.std.proofs.lemmas.Bool.{ltb-false}
use Rattle.std.proofs.lemmas.List.{append-nil, length-append, length-map, map-append}
use Rattle.index_model.specs.Sections.{Section, index_named, section_count}
use Rattle.reach_model.specs.Added.{debug_str, new_sections, strings_alone, strings_index}
use Rattle.elf_add.specs.declared.pieces.NewSection.{NewSection}
use Rattle.elf_add.specs.declared.adder.NoRoom.TheVariants.{Present, TooMany}
use Rattle.elf_add.specs.Adders.{Adder, has_section, is_full, with_section, with_strings}
use Rattle.elf_add.specs.Held.{adder_with, is_alone}
use Rattle.elf_add.specs.Pieces.{section_of}

-- ---- tests

pub left_holds : (r a b : Bool) → r ≡ a → r ≡ true → r ≡ (a || b)
left_holds true true b e h = refl
left_holds true false b e h = absurd cc
left_holds false a b e h = absurd cc

pub right_decides : (q r a b : Bool) → q ≡ a → q ≡ false → r ≡ b → r ≡ (a || b)
right_decides q r true b e h same = absurd cc
right_decides q r false b e h same = same

pub any_of_views : (name : List ℕ) (ss : List NewSection) → list_any (λ s. bytes_eq s.name name) (map section_of ss) ≡ list_any (λ s. bytes_eq s.name.now name) ss
any_of_views name [] = refl
any_of_views name (s ∷ ss) = ap (λ b. bytes_eq s.name.now name || b) (any_of_views name ss)

pub not_not : (b : Bool) → not (not b) ≡ b
not_not true = refl
not_not false = refl

pub one_fails : (a b : Bool) → a ≡ false → (a && b) ≡ false
one_fails a b e = rw e refl

pub other_fails : (a b : Bool) → b ≡ false → (a && b) ≡ false
other_fails true b e = e
other_fails false b e = refl

-- ---- how many sections there are

module _ (file : List ℕ) (sections : List Section) (added : List NewSection) where
  alone_count : (strings : Option (List ℕ))
      → length (new_sections file sections (adder_with file sections added strings).addition) ≡ length added + cond (is_alone (adder_with file sections added strings)) 1 0
  unfolding new_sections strings_index
  alone_count None = ap length (append-nil (map section_of added)) ∙ length-map added section_of ∙ omega arith
  alone_count (Some s) = by (index_named sections debug_str)
    where
      by : (o : Option ℕ) → length (map section_of added ++ strings_alone o (Some s)) ≡ length added + cond (not (is_some o)) 1 0
      by None = length-append (map section_of added) _ ∙ ap (λ n. n + 1) (length-map added section_of)
      by (Some i) = ap length (append-nil (map section_of added)) ∙ length-map added section_of ∙ omega arith

  pub full_is : (strings : Option (List ℕ)) (count len alone : ℕ) → count ≡ section_count file → len ≡ length added → alone ≡ cond (is_alone (adder_with file sections added strings)) 1 0
      → ltb 65279 (count + len + alone + 1) ≡ is_full (adder_with file sections added strings)
  unfolding is_full
  full_is strings count len alone c l a =
      let e : count + len + alone + 1 ≡ section_count file + length (new_sections file sections (adder_with file sections added strings).addition) + 1 = omega (arith, c, l, a, alone_count strings) in
      ap (ltb 65279) e

  -- there is room for one more
  pub few_then : (strings : Option (List ℕ)) → is_full (adder_with file sections added strings) ≡ false → length added + 1 ≤ 65279
  unfolding is_full
  few_then strings room = omega (arith, ltb-false _ _ room, alone_count strings)

-- ---- one more section

pub is_there : (a : Adder) (name bytes : List ℕ) → has_section a name ≡ true → with_section a name bytes ≡ Err Present
unfolding with_section
is_there a name bytes e = rw e refl

pub has_no_room : (a : Adder) (name bytes : List ℕ) → has_section a name ≡ false → is_full a ≡ true → with_section a name bytes ≡ Err TooMany
unfolding with_section
has_no_room a name bytes e f = rw (e, f) refl

pub one_more : (file : List ℕ) (sections : List Section) (added : List NewSection) (strings : Option (List ℕ)) (s : NewSection)
    → has_section (adder_with file sections added strings) s.name.now ≡ false → is_full (adder_with file sections added strings) ≡ false
    → with_section (adder_with file sections added strings) s.name.now s.content.now ≡ Ok (adder_with file sections (added ++ s ∷ []) strings)
unfolding with_section
one_more file sections added strings s e f =
    rw (e, f) (ap (λ ss. Ok (record { file = file; sections = sections; addition = record { sections = ss; strings = strings } })) (sym (map-append section_of added (s ∷ []))))

-- the section was pushed
pub pushed : (file : List ℕ) (sections : List Section) (added items : List NewSection) (strings : Option (List ℕ)) (s : NewSection) (a : Adder) → adder_with file sections added strings ≡ a
    → has_section a s.name.now ≡ false → is_full a ≡ false → items ≡ added ++ s ∷ []
    → with_section a s.name.now s.content.now ≡ Ok (adder_with file sections items strings)
pushed file sections added items strings s a view e f is =
    ap (λ a. with_section a s.name.now s.content.now) (sym view)
    ∙ one_more file sections added strings s (ap (λ a. has_section a s.name.now) view ∙ e) (ap is_full view ∙ f)
    ∙ ap (λ ss. Ok (adder_with file sections ss strings)) (sym is)

-- there was no memory for it
pub not_pushed : (file : List ℕ) (sections : List Section) (added items : List NewSection) (strings : Option (List ℕ)) (name bytes : List ℕ) (a : Adder) → adder_with file sections added strings ≡ a
    → has_section a name ≡ false → is_full a ≡ false → items ≡ added
    → (adder_with file sections items strings ≡ a) × IsOk (with_section a name bytes)
unfolding with_section
not_pushed file sections added items strings name bytes a view e f is =
    (ap (λ ss. adder_with file sections ss strings) is ∙ view, rw (e, f) refl)

-- ---- strings

pub were_added : (a : Adder) (bytes : List ℕ) → is_some a.addition.strings ≡ true → with_strings a bytes ≡ Err Present
unfolding with_strings
were_added a bytes e = rw e refl

pub have_no_room : (a : Adder) (bytes : List ℕ) → is_some a.addition.strings ≡ false → not (is_some (index_named a.sections debug_str)) ≡ true → is_full a ≡ true → with_strings a bytes ≡ Err TooMany
unfolding with_strings
have_no_room a bytes e f g = rw (e, f, g) refl

pub are_added : (a : Adder) (bytes : List ℕ) → is_some a.addition.strings ≡ false → (not (is_some (index_named a.sections debug_str)) && is_full a) ≡ false
    → with_strings a bytes ≡ Ok (record a { addition = record a.addition { strings = Some bytes } })
unfolding with_strings
are_added a bytes e f = rw (e, f) refl
