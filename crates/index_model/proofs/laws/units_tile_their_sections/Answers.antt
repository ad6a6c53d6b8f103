use Rattle.index_model.proofs.UnitTilingLaws.{units_tile, unit_bytes_tile}
use Rattle.index_model.proofs.laws.units_tile_their_sections.Goals as goal

pub returns-clause-tiling : goal.returns-clause-tiling
returns-clause-tiling c = units_tile

pub returns-clause-bytes : goal.returns-clause-bytes
returns-clause-bytes c = unit_bytes_tile
