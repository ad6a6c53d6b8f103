-- What a row says, in the words of the definitions.
use Rattle.std.specs.Prelude.{◌≡◌, ℕ, List, Option, Some, None, option_map, Result, Ok, Err}
use Rattle.ix_base.specs.declared.fault.Fault.{Fault}
use Rattle.ix_base.specs.Reading.{◌>>=◌ as ◌>>=?◌}
use Rattle.index_model.specs.declared.answer.CacheSize.TheVariants.{TooLarge}
use Rattle.index_model.specs.declared.job.CacheKind.{CacheKind}
use Rattle.index_model.specs.declared.job.CacheKind.TheVariants.{Gdb8, Gdb9, Names}
use Rattle.index_model.specs.Meaning.{◌>>=◌, fault, value_of}
use Rattle.index_model.specs.Sections.{sections_of}
use Rattle.index_model.specs.Faults.{built_of}
use Rattle.index_model.specs.Cache.{Cache, GdbBytes, NameBytes, cache_in, size_in}
use Rattle.index_model.specs.GdbIndexRead.{GdbIndex}
use Rattle.index_model.specs.Queries.{query_of}
use Rattle.index_model.specs.Texts.{text_of_line}
use Rattle.index_model.specs.Transcripts.{lines_of, transcript_of}
use Rattle.reach_model.specs.Added.{added}
use Rattle.reach_model.specs.AddedIndex.{addition_of}
use Rattle.reach_model.specs.BuildIds.{build_id_of, cache_name}
use Rattle.reach_model.specs.FileTexts.{text_of_files}
use Rattle.reach_model.specs.KeptIndexes.{kept_bytes, kept_index}
use Rattle.index_vectors.specs.Comparisons.{written_of_built}
use Rattle.index_vectors.specs.LookTexts.{gdb_written, written_of_gdb, written_of_names}

-- ---- questions about a file

-- Asked this line about the file, the program ends with the status and writes the text. The length of an index isn't asked, so it is left out.
abbrev pub Prints : List ℕ → List ℕ → ℕ → List ℕ → Type 0
Prints file line status text = text_of_line file TooLarge line ≡ Some (status, text)

-- the same, where the length of the index is asked, which has version 8
abbrev pub PrintsLength : List ℕ → List ℕ → ℕ → List ℕ → Type 0
PrintsLength file line status text = text_of_line file (size_in Gdb8 (built_of file)) line ≡ Some (status, text)

-- the line asks nothing
abbrev pub IsBadQuery : List ℕ → List ℕ → Type 0
IsBadQuery file line = text_of_line file TooLarge line ≡ None

-- A session on this input, whose look-ups are at these stages, writes the text. The index has version 8.
abbrev pub Serves : List ℕ → List ℕ → List ℕ → List ℕ → Type 0
Serves file input stages text = transcript_of (built_of file) (size_in Gdb8 (built_of file)) (lines_of input) stages ≡ text

-- ---- the index of a file

-- the index of this kind, or the file's first fault
abbrev pub index_of : CacheKind → List ℕ → Result Cache Fault
index_of kind file = built_of file >>= λ b. Ok (cache_in kind b)

-- the bytes of the `.gdb_index` of version 8
abbrev pub WritesGdb8 : List ℕ → List ℕ → Type 0
WritesGdb8 file bytes = index_of Gdb8 file ≡ Ok (GdbBytes bytes)

-- the bytes of the `.gdb_index` of version 9
abbrev pub WritesGdb9 : List ℕ → List ℕ → Type 0
WritesGdb9 file bytes = index_of Gdb9 file ≡ Ok (GdbBytes bytes)

-- the bytes of the `.debug_names`, and the strings that it adds to `.debug_str`
abbrev pub WritesNames : List ℕ → List ℕ → List ℕ → Type 0
WritesNames file bytes strings = index_of Names file ≡ Ok (NameBytes bytes strings)

-- ---- a program with its index

-- the program with its index of this kind, which its format can hold; or the file's first fault
abbrev pub with_index_of : CacheKind → List ℕ → Result (Option (List ℕ)) Fault
with_index_of kind file = built_of file >>= λ b. Ok (option_map (added file b.program.sections) (addition_of (cache_in kind b)))

-- the bytes of the program with its `.gdb_index` of version 8
abbrev pub AddsGdb8 : List ℕ → List ℕ → Type 0
AddsGdb8 file bytes = with_index_of Gdb8 file ≡ Ok (Some bytes)

-- the bytes of the program with its `.gdb_index` of version 9
abbrev pub AddsGdb9 : List ℕ → List ℕ → Type 0
AddsGdb9 file bytes = with_index_of Gdb9 file ≡ Ok (Some bytes)

-- the bytes of the program with its `.debug_names`, and its strings in `.debug_str`
abbrev pub AddsNames : List ℕ → List ℕ → Type 0
AddsNames file bytes = with_index_of Names file ≡ Ok (Some bytes)

-- ---- an address table

-- the comparison of the file's address table with the units' own ranges ends with the status and writes the text
abbrev pub Compares : List ℕ → ℕ → List ℕ → Type 0
Compares file status text = written_of_built (built_of file) ≡ (status, text)

-- ---- the index that is kept for a program

-- the name and the bytes of an index that is kept in a store by a build-id, if there is one and the index fits
abbrev pub kept_by : List ℕ → Option (List ℕ) → Cache → Option (List ℕ × List ℕ)
kept_by store (Some id) (GdbBytes index) = Some (cache_name store id, kept_bytes id index)
kept_by store id other = None

-- those of a program, or the file's first fault
abbrev pub kept_of : List ℕ → List ℕ → Result (Option (List ℕ × List ℕ)) Fault
kept_of file store = built_of file >>= λ b. Ok (kept_by store (build_id_of b.program.sections) (cache_in Gdb9 b))

-- in this store it has this name and these bytes
abbrev pub Keeps : List ℕ → List ℕ → List ℕ → List ℕ → Type 0
Keeps file store name bytes = kept_of file store ≡ Ok (Some (name, bytes))

-- nothing is kept
abbrev pub KeepsNothing : List ℕ → List ℕ → Type 0
KeepsNothing file store = kept_of file store ≡ Ok None

-- what was kept, opened with the build-id of a program, if the program has one
abbrev pub opened : List ℕ → List ℕ → Option (Result GdbIndex Fault)
opened file kept = value_of (sections_of file) >>=? build_id_of >>=? λ id. Some (kept_index kept id)

-- what was kept has no fault, and looked up in it with this line writes the text
abbrev pub KeptPrints : List ℕ → List ℕ → List ℕ → List ℕ → Type 0
KeptPrints file kept line text = (opened file kept >>=? λ index. query_of line >>=? gdb_written index) ≡ Some (0, text)

-- what was kept has this fault
abbrev pub IsStale : List ℕ → List ℕ → ℕ → ℕ → Type 0
IsStale file kept code place = opened file kept ≡ Some (Err (fault code place))

-- ---- the files of line tables

-- asked for the files with this name, the program ends with the status and writes the text
abbrev pub ListsFiles : List ℕ → List ℕ → ℕ → List ℕ → Type 0
ListsFiles file name status text = text_of_files file name ≡ (status, text)

-- ---- questions about an index

-- looked up with this line in a `.gdb_index`, it ends with the status and writes the text
abbrev pub GdbPrints : List ℕ → List ℕ → ℕ → List ℕ → Type 0
GdbPrints index line status text = written_of_gdb index line ≡ Some (status, text)

-- a `.gdb_index` doesn't offer this
abbrev pub GdbOffersNot : List ℕ → List ℕ → Type 0
GdbOffersNot index line = written_of_gdb index line ≡ None

-- looked up in a `.debug_names`, where of `.debug_str` these bytes from base on are known
abbrev pub NamesPrint : List ℕ → List ℕ → ℕ → List ℕ → ℕ → List ℕ → Type 0
NamesPrint index strings base line status text = written_of_names index strings base line ≡ Some (status, text)
