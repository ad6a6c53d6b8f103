-- What contracts see of a reader.
use Rattle.stage_core.specs.Outputs.{parts_seen}
use Rattle.index_board.specs.declared.reader.Reader.TheInside.{Inside}
use Rattle.index_board.specs.Readers.{Reader}

-- its board, its pass and its kept parts
abbrev pub reader_seen : Inside → Reader
reader_seen r = record { board = r.board.now; pass = r.pass; kept = parts_seen r.kept }
