-- What a unit's root says of the whole unit (DWARF 5, 3.1.1).
use Rattle.std.specs.Prelude.{false, ◌&&◌, ◌||◌, ◌==◌, if◌then◌else◌, None, unwrap_or, is_none}
use Rattle.index_model.specs.Attributes.{read_as, as_offset, language_value}
use Rattle.index_model.specs.Languages.{class_of}
use Rattle.index_model.specs.Rules.{is_ada}
use Rattle.index_model.specs.Tags.{partial_unit}
use Rattle.index_model.specs.Walk.{Item}
use Rattle.shard_build.specs.declared.frame.UnitFacts.{UnitFacts}

-- of a unit without entries nothing is known
abbrev pub blank : UnitFacts
blank = record { root = record { language = None; addr_base = None; rnglists_base = None; partial = false }; str_offsets_base = None; ada = false }

-- what a root says; a partial one without a language counts as one of Ada
unfoldable pub frame_of : Item → UnitFacts
frame_of d = record {
  root = record { language = language_value d; addr_base = read_as as_offset 0x73 d; rnglists_base = read_as as_offset 0x74 d; partial = d.tag == partial_unit };
  str_offsets_base = read_as as_offset 0x72 d;
  ada = is_ada (class_of (unwrap_or (language_value d) 0)) || (d.tag == partial_unit && is_none (language_value d));
}

-- what is known at an entry: its own attributes count, where it is the root
abbrev pub frame_at : UnitFacts → Item → UnitFacts
frame_at before d = if d.depth == 0 then frame_of d else before
