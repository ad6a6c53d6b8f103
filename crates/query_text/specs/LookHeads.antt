-- What stands before the name in a line of a look-up in an index.
use Rattle.std.specs.Prelude.{ℕ, List, ◌++◌, decimal, codes}
use Rattle.index_model.specs.GdbIndexRead.{unit_in}
use Rattle.index_model.specs.LookTexts.{kind_in, kind_of_element, scope_of_element, sort_word}
use Rattle.index_model.specs.NameIndexRead.{NameHit}
use Rattle.index_model.specs.Texts.{hex}

-- unit, kind and scope of an element
abbrev pub element_head : ℕ → List ℕ
element_head e = decimal (unit_in e) ++ codes " " ++ kind_in (kind_of_element e) ++ codes " " ++ scope_of_element e ++ codes " "

-- list, place, offset and tag of an entry
abbrev pub hit_head : NameHit → List ℕ
hit_head h = sort_word h.sort ++ codes " " ++ decimal h.unit ++ codes " " ++ hex h.offset ++ codes " " ++ hex h.tag ++ codes " "
