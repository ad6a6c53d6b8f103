-- The parts of a unit's header.
use Rattle.index_model.specs.Units.{Fields, Ending, Head}
use Rattle.file_image.specs.declared.unit_header.Fields.{Fields as FieldsFound}
use Rattle.file_image.specs.declared.unit_header.Ending.{Ending as EndingFound}
use Rattle.file_image.specs.declared.unit_header.UnitHeaderRest.{UnitHeaderRest as HeadFound}

-- the sort and the abbreviation offset
abbrev pub fields_of : FieldsFound → Fields
fields_of f = record { sort = f.sort; abbrev_offset = f.«abbrev» }

-- signature and type offset
abbrev pub ending_of : EndingFound → Ending
ending_of e = record { signature = e.signature; type_offset = e.type_offset }

-- what stands behind the initial length
abbrev pub head_of : HeadFound → Head
head_of h = record { version = h.version; fields = fields_of h.fields; ending = ending_of h.ending }
