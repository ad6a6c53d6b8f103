-- The pieces behind a program, by what they are made of.
use Rattle.std.specs.Prelude.{List, ℕ, ◌++◌, flat_map}
use Rattle.index_model.specs.Layout.{ended}
use Rattle.reach_model.specs.Added.{NewSection as Section}
use Rattle.elf_add.specs.declared.pieces.NewSection.{NewSection}
use Rattle.elf_add.specs.declared.pieces.Grown.{Grown}

-- an added section
abbrev pub section_of : NewSection → Section
section_of s = record { name = s.name.now; content = s.content.now }

abbrev pub content_of : NewSection → List ℕ
content_of s = s.content.now

-- the names of sections, each with the zero that ends it
abbrev pub names_of : List NewSection → List ℕ
names_of sections = flat_map (λ s. ended s.name.now) sections

-- the bytes of a section that grows, with names behind
abbrev pub grown_bytes : Grown → List NewSection → List ℕ
grown_bytes section named = section.bytes.now ++ (section.more.now ++ names_of named)
