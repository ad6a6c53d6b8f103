-- The sections that were found.
use Rattle.std.specs.Prelude.{◌≤◌, List, [], ◌∷◌, length}
use Rattle.index_model.specs.Sections.{Section}
use Rattle.file_image.specs.declared.found.NamedSection.{NamedSection}

-- the section
abbrev pub section : NamedSection → Section
section f = record { name = f.name.now; flags = f.flags; content = f.content.now }

-- no section has more bytes than a file may have
abbrev pub AreSmall : List NamedSection → Type 0
AreSmall [] = Unit {0}
AreSmall (f ∷ fs) = (length f.content.now ≤ 1073741824) × AreSmall fs
