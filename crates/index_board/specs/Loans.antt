-- What a call leaves of a reader from which its answer borrows.
use Rattle.std.specs.Prelude.{[]}
use Rattle.std.specs.Borrow.{Fml, RattleType, MutBor}
use Rattle.std.specs.Io.BufRead.{Rests}
use mir.Syntax.{named}
use Rattle.index_board.specs.Readers.{Reader}
use Rattle.index_board.specs.contracts.reader.Reader.{the_row}

-- a reader of a board, as the logic holds it: both lifetimes are named
abbrev pub reader_row : RattleType
reader_row = the_row (record { mir = named 1; lft = [] }) (record { mir = named 2; lft = [] })

-- this holds of the reader once the answer is let go
abbrev pub Leaves : MutBor Reader → (Reader → Type 0) → Fml
Leaves reader Holds = Rests reader_row reader Holds
