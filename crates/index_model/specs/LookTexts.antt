-- What look-ups in an index write (GDB manual, index section format; DWARF 5, 6.1.1).
use Rattle.std.specs.Prelude.{ℕ, ◌/◌, ◌%◌, ◌^◌, ◌==◌, if◌then◌else◌, List, [], ◌∷◌, ◌++◌, length, flat_map, decimal, codes}
use Rattle.ix_base.specs.declared.fault.Fault.{Fault}
use Rattle.index_model.specs.GdbIndexRead.{unit_in}
use Rattle.index_model.specs.NameIndexRead.{NameHit, Sort, Compile, Local, Foreign}
use Rattle.index_model.specs.Texts.{hex, line, scope_word, text_of_fault}

-- the text of a refused index: code and place
abbrev pub text_of_index_fault : Fault → List ℕ
text_of_index_fault f = codes "index " ++ text_of_fault f

-- bits 28 to 30: the kinds 1 to 4 have words
abbrev pub kind_in : ℕ → List ℕ
kind_in k =
    if k == 1 then codes "type" else if k == 2 then codes "variable" else
    if k == 3 then codes "function" else if k == 4 then codes "other" else codes "kind" ++ decimal k

-- the kind of an element
abbrev pub kind_of_element : ℕ → ℕ
kind_of_element e = e / 2 ^ 28 % 8

-- the scope of an element, by bit 31
abbrev pub scope_of_element : ℕ → List ℕ
scope_of_element e = scope_word (e / 2 ^ 31 % 2 == 1)

-- the index number of its unit, kind, scope and name
unfoldable pub text_of_element : List ℕ → ℕ → List ℕ
text_of_element name e = line (decimal (unit_in e) ∷ kind_in (kind_of_element e) ∷ scope_of_element e ∷ name ∷ [])

-- how many elements were found, and each of them
unfoldable pub text_of_elements : List ℕ → List ℕ → List ℕ
text_of_elements name es = line (codes "found" ∷ decimal (length es) ∷ []) ++ flat_map (text_of_element name) es

-- ---- a `.debug_names`

-- the list of a unit: the compile units, the type units of this file, or those of other files
abbrev pub sort_word : Sort → List ℕ
sort_word Compile = codes "compile"
sort_word Local = codes "type"
sort_word Foreign = codes "foreign"

-- the list of its unit and the place there, its offset in the unit, its tag and its name
unfoldable pub text_of_hit : List ℕ → NameHit → List ℕ
text_of_hit name h = line (sort_word h.sort ∷ decimal h.unit ∷ hex h.offset ∷ hex h.tag ∷ name ∷ [])

-- how many entries were found, and each of them
unfoldable pub text_of_hits : List ℕ → List NameHit → List ℕ
text_of_hits name hs = line (codes "found" ∷ decimal (length hs) ∷ []) ++ flat_map (text_of_hit name) hs
