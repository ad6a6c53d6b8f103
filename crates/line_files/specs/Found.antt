-- What contracts see of files that borrow their paths.
use Rattle.std.specs.Prelude.{List, map}
use Rattle.line_files.specs.declared.found.FileName.{FileName}
use Rattle.line_files.specs.declared.found.FileHit.{FileHit}
use Rattle.reach_model.specs.LineTables as meant

-- the file
abbrev pub file_seen : FileName → meant.FileName
file_seen f = record { index = f.index; dir = f.dir; name = f.name.now }

-- the files
abbrev pub files_seen : List FileName → List meant.FileName
files_seen = map file_seen

-- the file and the number of its unit
abbrev pub hit_seen : FileHit → meant.FileHit
hit_seen h = record { unit = h.unit; file = file_seen h.file }

-- the files and the numbers of their units
abbrev pub hits_seen : List FileHit → List meant.FileHit
hits_seen = map hit_seen
