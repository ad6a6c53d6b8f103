use Rattle.std.proofs.Common.{◌<◌, ◌∙◌, arith}
use Rattle.index_model.specs.Sections.{section_count, names_index}
use Rattle.file_image.proofs.Tables.{header_in_table, has_names}
use Rattle.file_image.proofs.section_table.SectionTable.names.Goals as goal

pub header-requires : goal.header-requires
header-requires c =
    let file = c.self.inside.file.now in
    let named : names_index file < section_count file = has_names file c.self.invariant.table.fits in
    omega (arith, named, c.self.invariant.table.count)

pub index_of_names-requires-clause-long : goal.index_of_names-requires-clause-long
index_of_names-requires-clause-long c = c.self.invariant.long

pub index_of_names-requires-clause-first : goal.index_of_names-requires-clause-first
index_of_names-requires-clause-first c = c.header.ensures.own ∙ header_in_table c.self.inside.file.now c.self.inside.table.headers.now 0 c.self.invariant.table.headers

pub returns-clause-inside : goal.returns-clause-inside
returns-clause-inside c = rw (c.index_of_names.ensures, ← c.self.view_is) (has_names c.self.inside.file.now c.self.invariant.table.fits)
