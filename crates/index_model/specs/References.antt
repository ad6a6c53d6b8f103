-- What a reference names (DWARF 5, 7.5.5 on the class reference).
use Rattle.std.specs.Prelude.{List, ℕ, ◌+◌, nat_lt, if◌then◌else◌, length, codes, Option, Some, None, option_and_then, Result}
use Rattle.ix_base.specs.declared.code.TheConstants.{BAD_REFERENCE}
use Rattle.index_model.specs.Meaning.{some_or}
use Rattle.index_model.specs.Sections.{Section, section_bytes}
use Rattle.index_model.specs.Attributes.{Reference}
use Rattle.index_model.specs.Program.{Walked, Program, Located, item_with_offset}

-- the joint offset that a reference names, in the unit or in `.debug_info` as its form says; none outside of it
unfoldable pub target_of : List Section → Walked → Reference → Option ℕ
target_of ss w r =
    let inside_unit = if nat_lt r.target w.unit.length then Some (w.unit.start + r.target) else None in
    let inside_info = if nat_lt r.target (length (section_bytes ss (codes ".debug_info"))) then Some r.target else None in
    if r.near then inside_unit else inside_info

-- the entry that a reference names
unfoldable pub entry_named : Program → Walked → Reference → Result Located ℕ
entry_named p w r = some_or (option_and_then (item_with_offset p) (target_of p.sections w r)) BAD_REFERENCE
