-- The headers of the file's sections, by what changes in them.
use Rattle.std.specs.Prelude.{ℕ, ◌==◌, if◌then◌else◌, List, Option, Some, None, option_map}
use Rattle.reach_model.specs.Added.{first_header, is_at, moved}
use Rattle.elf_add.specs.declared.pieces.Moved.{Moved}
use Rattle.elf_add.specs.declared.old_headers.Changes.{Changes}

-- where the bytes of the section at an index are, if they are among these
abbrev pub moved_at : ℕ → Option Moved → Option Moved → Option Moved
moved_at i strings names =
    if is_at i (option_map (λ m. m.index) strings) then strings else
    if is_at i (option_map (λ m. m.index) names) then names else None

-- a header, with a place if there is one
abbrev pub with_place : Option Moved → List ℕ → List ℕ
with_place None header = header
with_place (Some m) header = moved m.at m.size header

-- the header of the section at an index
abbrev pub header_then : List ℕ → Changes → ℕ → List ℕ
header_then header c i =
    if i == 0 then first_header c.count c.names_index header else
    with_place (moved_at i c.strings c.names) header
