use Rattle.index_board.proofs.reply.simply_named.Given as goal

abbrev pub ghosts-counted_by_simple : goal.ghosts-counted_by_simple
ghosts-counted_by_simple a = record { name = a.blank.name; parts = a.blank.parts }
