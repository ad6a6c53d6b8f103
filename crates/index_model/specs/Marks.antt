-- Facts that are true or false, a bit of a byte each.
use Rattle.std.specs.Prelude.{ℕ, Bool, not, ◌==◌}
use Rattle.std.specs.Int.RustNames.{bit_and}
use Rattle.index_model.specs.declared.marks.NodeFlags.{NodeFlags}
use Rattle.index_model.specs.declared.given.Given.{Given}

-- whether a bit of a byte is set
abbrev pub is_set : ℕ → ℕ → Bool
is_set byte bit = not (bit_and byte bit == 0)

-- ---- what an entry says of itself

abbrev pub is_declaration : NodeFlags → Bool
is_declaration m = is_set m.bits 1

abbrev pub is_external : NodeFlags → Bool
is_external m = is_set m.bits 2

abbrev pub is_enum_class : NodeFlags → Bool
is_enum_class m = is_set m.bits 4

abbrev pub is_main : NodeFlags → Bool
is_main m = is_set m.bits 8

abbrev pub has_address : NodeFlags → Bool
has_address m = is_set m.bits 16

abbrev pub has_value : NodeFlags → Bool
has_value m = is_set m.bits 32

-- ---- which numbers of a leaf say something

abbrev pub has_parent : Given → Bool
has_parent g = is_set g.bits 1

abbrev pub has_name : Given → Bool
has_name g = is_set g.bits 2

abbrev pub has_linkage : Given → Bool
has_linkage g = is_set g.bits 4

abbrev pub has_next : Given → Bool
has_next g = is_set g.bits 8

-- the next one is counted from the unit's first byte
abbrev pub is_near : Given → Bool
is_near g = is_set g.bits 16

-- the node is kept whole, aside
abbrev pub is_aside : Given → Bool
is_aside g = is_set g.bits 32

-- its texts are strings of `.debug_str`
abbrev pub has_strings : Given → Bool
has_strings g = is_set g.bits 64
