use Rattle.gdb_items.proofs.file.FileItems.+linkage_within.Given as goal

abbrev pub decreases-linkage_within : goal.decreases-linkage_within
decreases-linkage_within l = l.hops
