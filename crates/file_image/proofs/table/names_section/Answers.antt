use Rattle.std.proofs.Common.{◌∙◌}
use Rattle.file_image.specs.Headers.{header_of}
use Rattle.file_image.proofs.Tables.{header_in_table, names_elsewhere}
use Rattle.file_image.proofs.table.names_section.Goals as goal

pub returns : goal.returns
returns c = names_elsewhere c.args.file.now c.args.index (header_of c.header_in.result) c.content.result c.requires.index c.if-index-eq0.false (c.header_in.ensures.own ∙ header_in_table c.args.file.now c.args.headers.now c.args.index c.requires.headers) c.content.ensures
