-- Which entries are visited and indexed, their kind, and whether they are static (GDB manual, "Index Section Format", for kind and static; else this project's own rule).
use Rattle.std.specs.Prelude.{ℕ, zero, suc, Bool, true, false, not, ◌&&◌, ◌||◌, ◌==◌, if◌then◌else◌, List, [], ◌∷◌, find, Option, Some, None, option_map, is_some}
use Rattle.index_model.specs.declared.entry.Kind.{Kind}
use Rattle.index_model.specs.declared.entry.Kind.TheVariants.{TypeName, Variable, Function}
use Rattle.index_model.specs.Attributes.{has_location, has_const_value}
use Rattle.index_model.specs.Walk.{Item, parent_of}
use Rattle.index_model.specs.declared.rules.Class.{Class}
use Rattle.index_model.specs.declared.rules.Class.TheVariants.{Cxx, Ada}
use Rattle.index_model.specs.declared.rules.Parent.{Parent}
use Rattle.index_model.specs.declared.rules.Parent.TheVariants.{Root, Other, Seen}
use Rattle.index_model.specs.declared.rules.Facts.{Facts}
use Rattle.index_model.specs.Tags.{namespace, is_record_tag, enumeration, subprogram, variable}

-- ---- visited

-- whether the children of a visited entry are visited; in an Ada unit those of a subprogram are
abbrev pub opens : Bool → ℕ → Bool
opens ada tag = tag == namespace || is_record_tag tag || tag == enumeration || (ada && tag == subprogram)

-- whether an entry with such a parent is visited
abbrev pub is_visited_under : Parent → Bool → Bool
is_visited_under Root ada = true
is_visited_under Other ada = false
is_visited_under (Seen tag) ada = opens ada tag

-- what a parent is; another than the root counts only if it is visited
abbrev pub parent_as : Option Item → (Item → Bool) → Parent
parent_as None visited = Other
parent_as (Some e) visited = if e.depth == 0 then Root else if visited e then Seen e.tag else Other

-- whether an item of this depth is visited, by recursion on its parent; a root isn't
unfoldable pub is_visited_at : ℕ → Bool → List Item → Item → Bool
is_visited_at zero ada ds d = false
is_visited_at (suc n) ada ds d = is_visited_under (parent_as (parent_of ds d) (λ e. is_visited_at n ada ds e)) ada

-- An item of the walk is visited if its parent is the root, or is visited and opens its children.
abbrev pub is_visited : Bool → List Item → Item → Bool
is_visited ada ds d = is_visited_at d.depth ada ds d

-- ---- the table of tags

-- what an entry needs itself to be indexed
pub data Needs : Type 0 where
  Nothing AnAddress AValue : Needs

-- when an entry is static
pub data Static : Type 0 where
  Never Always UnlessCxx UnlessExternal UnlessExternalOrAda : Static

-- a tag, what its entries need, their kind, and when they are static
pub record Row : Type 0 where
  pub tag : ℕ
  pub needs : Needs
  pub kind : Kind
  pub static : Static

-- a row with these
abbrev row : ℕ → Needs → Kind → Static → Row
row tag needs kind static = record { tag = tag; needs = needs; kind = kind; static = static }

-- the tags whose entries may be indexed
abbrev pub table : List Row
table =
    row namespace Nothing TypeName Never ∷
    row 0x02 Nothing TypeName UnlessCxx ∷ row 0x13 Nothing TypeName UnlessCxx ∷ row 0x17 Nothing TypeName UnlessCxx ∷ row 0x38 Nothing TypeName UnlessCxx ∷ row enumeration Nothing TypeName UnlessCxx ∷
    row 0x16 Nothing TypeName Always ∷ row 0x24 Nothing TypeName Always ∷ row 0x21 Nothing TypeName Always ∷
    row 0x28 Nothing Variable UnlessCxx ∷
    row subprogram AnAddress Function UnlessExternalOrAda ∷
    row variable AValue Variable UnlessExternal ∷
    row 0x27 AValue Variable UnlessExternal ∷
    []

-- the row of a tag
abbrev pub row_of : ℕ → Option Row
row_of tag = find (λ r. r.tag == tag) table

-- whether the tag stands in the table
abbrev pub is_in_table : ℕ → Bool
is_in_table tag = is_some (row_of tag)

-- the kind of a tag's entries
abbrev pub kind_of : ℕ → Option Kind
kind_of tag = option_map (λ r. r.kind) (row_of tag)

-- ---- indexed and static

-- the entry itself has const_value or, as a variable, location
abbrev pub has_value : Item → Bool
has_value d = has_const_value d || (d.tag == variable && has_location d)

-- the entry itself has what is needed
abbrev pub meets : Facts → Needs → Bool
meets e Nothing = true
meets e AnAddress = e.address
meets e AValue = e.value

-- the tag's row allows it
abbrev pub row_allows : Facts → Option Row → Bool
row_allows e (Some r) = meets e r.needs
row_allows e None = false

-- a visited entry that isn't a declaration itself and has a name is indexed if its tag's row allows it
abbrev pub is_indexed : Facts → Bool
is_indexed e = e.visited && not e.declaration && e.named && row_allows e (row_of e.tag)

-- the class is C++
abbrev pub is_cxx : Class → Bool
is_cxx Cxx = true
is_cxx other = false

-- the class is Ada
abbrev pub is_ada : Class → Bool
is_ada Ada = true
is_ada other = false

-- whether the entry is static by its row
abbrev pub is_static_as : Facts → Static → Bool
is_static_as e Never = false
is_static_as e Always = true
is_static_as e UnlessCxx = not (is_cxx e.class)
is_static_as e UnlessExternal = not e.external
is_static_as e UnlessExternalOrAda = not e.external && not (is_ada e.class)

-- whether the entry is static, where its tag has a row
abbrev pub row_is_static : Facts → Option Row → Bool
row_is_static e (Some r) = is_static_as e r.static
row_is_static e None = false

-- whether an entry is static, as its tag's row says
abbrev pub is_static : Facts → Bool
is_static e = row_is_static e (row_of e.tag)
