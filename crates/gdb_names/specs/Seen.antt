-- What contracts see of borrowed names.
use Rattle.std.specs.Prelude.{◌≡◌, ℕ, List, [], ◌∷◌, ◌++◌, map, Option, Some, None, option_map, option_to_list}
use Rattle.std.specs.Borrow.{Bor}
use Rattle.std.specs.List.{join_by}
use Rattle.gdb_entries.specs.declared.language.LanguageClass.{LanguageClass}
use Rattle.gdb_entries.specs.Components.{behind_scope}
use Rattle.gdb_entries.specs.ItemNames as defined
use Rattle.gdb_names.specs.declared.ada.Pieces.{Pieces}
use Rattle.gdb_names.specs.declared.items.SecondName.{SecondName}
use Rattle.gdb_names.specs.declared.items.SecondName.TheVariants.{OnlyName, Linkage}
use Rattle.gdb_names.specs.declared.items.ItemNames.{ItemNames}

-- the bytes of a name, if there is one
abbrev pub bytes_of : Option (Bor (List ℕ)) → Option (List ℕ)
bytes_of name = option_map (λ bytes. bytes.now) name

-- the bytes of each component
abbrev pub contents : List (Bor (List ℕ)) → List (List ℕ)
contents components = map (λ component. component.now) components

-- components and a name, joined by a separator
abbrev pub joined_by : List ℕ → List (List ℕ) → List ℕ → List ℕ
joined_by separator components name = join_by (λ piece. piece) separator (components ++ name ∷ [])

-- In this class a separator joins these components and any name, or none stands before a name.
abbrev pub Joins : LanguageClass → List (List ℕ) → Option (Bor (List ℕ)) → Type 0
Joins class components None = (name : List ℕ) → behind_scope class components name ≡ name
Joins class components (Some separator) = (name : List ℕ) → behind_scope class components name ≡ joined_by separator.now components name

-- a second name
abbrev pub second_seen : SecondName → defined.SecondName
second_seen (OnlyName name) = defined.OnlyName name.now
second_seen (Linkage name) = defined.Linkage name.now

-- the pieces of a scope of Ada, from the outermost inwards
abbrev pub pieces_seen : Pieces → List (List ℕ)
pieces_seen pieces = map (λ whole. whole.items) (option_to_list pieces.whole) ++ contents pieces.inner.now

-- the names of an item
abbrev pub names_seen : ItemNames → defined.ItemNames
names_seen names = record { name = bytes_of names.name; second = option_map second_seen names.second }
