use Rattle.index_model.specs.Program.{Walked}
use Rattle.gdb_entries.specs.Entries.{as_listed, entries_of, entries_with}
use Rattle.gdb_entries.specs.Owners.{owner_of}
use Rattle.gdb_index.proofs.ListLaws.{map_flat_map}
use Rattle.gdb_index.proofs.laws.programs_list_their_units.Goals as goal

pub returns : goal.returns
unfolding entries_of
returns c p = map_flat_map as_listed (λ (w : Walked). entries_with p (owner_of p w) w) p.walks
