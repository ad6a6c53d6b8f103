use Rattle.index_board.proofs.reply.named.Given as goal

abbrev pub ghosts-counted_by_name : goal.ghosts-counted_by_name
ghosts-counted_by_name a = record { name = a.blank.name; parts = a.blank.parts }
