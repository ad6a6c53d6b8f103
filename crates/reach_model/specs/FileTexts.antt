-- What `files` writes.
use Rattle.std.specs.Prelude.{ℕ, List, [], ◌∷◌, ◌++◌, length, flat_map, decimal, codes, Result, Ok, Err}
use Rattle.ix_base.specs.declared.fault.Fault.{Fault}
use Rattle.index_model.specs.Faults.{Built, built_of}
use Rattle.index_model.specs.Texts.{line, text_of_fault}
use Rattle.reach_model.specs.LineTables.{FileHit, hits_of}

-- the number of its unit, its index, the number of its directory, and its path
unfoldable pub text_of_hit : FileHit → List ℕ
text_of_hit h = line (decimal h.unit ∷ decimal h.file.index ∷ decimal h.file.dir ∷ h.file.name ∷ [])

-- how many files were found, and each of them
unfoldable pub text_of_hits : List FileHit → List ℕ
text_of_hits hs = line (codes "found" ∷ decimal (length hs) ∷ []) ++ flat_map text_of_hit hs

-- the text of a refused table: code and place
unfoldable pub text_of_files_fault : Fault → List ℕ
text_of_files_fault f = codes "files " ++ text_of_fault f

-- the status and the text for what was found, or the fault of a table
abbrev pub found_or_refused : Result (List FileHit) Fault → ℕ × List ℕ
found_or_refused (Ok hs) = (0, text_of_hits hs)
found_or_refused (Err f) = (15, text_of_files_fault f)

-- the same for a file that was built or refused
abbrev pub listed : Result Built Fault → List ℕ → ℕ × List ℕ
listed (Ok b) name = found_or_refused (hits_of b.program.sections b.program.walks name)
listed (Err f) name = (1, text_of_fault f)

-- the status of `files` over the bytes of a file, and what it writes
unfoldable pub text_of_files : List ℕ → List ℕ → ℕ × List ℕ
text_of_files f name = listed (built_of f) name
