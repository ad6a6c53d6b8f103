use Rattle.building_tests.proofs.tables.many_entries_of_three_names.Given as goal

abbrev pub ghosts-found : goal.ghosts-found
ghosts-found g a = record { name = a.blank.name; parts = a.blank.parts }
