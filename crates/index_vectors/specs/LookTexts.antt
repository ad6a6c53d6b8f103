-- What look-ups in an index write (GDB manual, index section format; DWARF 5, 6.1.1).
use Rattle.std.specs.Prelude.{ℕ, List, Option, Some, None, option_map, Result, Ok, Err}
use Rattle.ix_base.specs.declared.fault.Fault.{Fault}
use Rattle.ix_base.specs.Reading.{◌>>=◌}
use Rattle.index_model.specs.Queries.{Query, AskName, AskSimple, AskAddress, AskMain, AskCache, query_of}
use Rattle.index_model.specs.Answers.{InUnit, MainIs}
use Rattle.index_model.specs.Texts.{text_of_answer}
use Rattle.index_model.specs.GdbIndexRead.{GdbIndex, gdb_index, gdb_index_hits, number_at, main_name}
use Rattle.index_model.specs.NameIndexRead.{NameIndex, name_index, name_index_hits}
use Rattle.index_model.specs.LookTexts.{text_of_elements, text_of_hits, text_of_index_fault}

-- the status of a look-up and what it writes; none where the query isn't offered
abbrev pub Written : Type 0
Written = Option (ℕ × List ℕ)

-- ---- `.gdb_index`

-- names, addresses and main are offered
unfoldable pub gdb_text : GdbIndex → Query → Option (List ℕ)
gdb_text i (AskName n) = Some (text_of_elements n (gdb_index_hits i n))
gdb_text i (AskSimple n) = None
gdb_text i (AskAddress a) = Some (text_of_answer (InUnit (number_at i a)))
gdb_text i AskMain = Some (text_of_answer (MainIs (main_name i)))
gdb_text i AskCache = None

-- an index that was read or refused
unfoldable pub gdb_written : Result GdbIndex Fault → Query → Written
gdb_written (Ok i) q = option_map (λ text. (0, text)) (gdb_text i q)
gdb_written (Err f) q = Some (8, text_of_index_fault f)

-- a look-up with this line in these bytes
unfoldable pub written_of_gdb : List ℕ → List ℕ → Written
written_of_gdb bytes asked = query_of asked >>= gdb_written (gdb_index bytes)

-- ---- `.debug_names`

-- names alone are offered
unfoldable pub names_text : NameIndex → Query → Option (List ℕ)
names_text i (AskName n) = Some (text_of_hits n (name_index_hits i n))
names_text i (AskSimple n) = None
names_text i (AskAddress a) = None
names_text i AskMain = None
names_text i AskCache = None

-- an index that was read or refused
unfoldable pub names_written : Result NameIndex Fault → Query → Written
names_written (Ok i) q = option_map (λ text. (0, text)) (names_text i q)
names_written (Err f) q = Some (8, text_of_index_fault f)

-- a look-up with this line in these bytes, where of the section of strings these are known from base on
unfoldable pub written_of_names : List ℕ → List ℕ → ℕ → List ℕ → Written
written_of_names bytes strings base asked = query_of asked >>= names_written (name_index bytes strings base)
