-- An index that is kept by the program's build-id. GDB's own cache names such files in the same way (GDB manual, "Index Files", the
-- automatic symbol index cache); what they begin with is own rule.
use Rattle.std.specs.Prelude.{ℕ, List, ◌++◌, length, bytes_eq, codes, Result}
use Rattle.ix_base.specs.declared.fault.Fault.{Fault}
use Rattle.ix_base.specs.Reading.{Input, bytes, input, number}
use Rattle.index_model.specs.GdbIndexRead.{GdbIndex, gdb_index}
use Rattle.index_model.specs.Layout.{ended, u32_bytes}
use Rattle.index_model.specs.Meaning.{◌>>=◌, ◌>>◌, fault, holds_or, some_or}
use Rattle.reach_model.specs.declared.code.TheConstants.{KEPT_HEADER, KEPT_BUILD_ID}

-- what a kept index begins with
abbrev pub kept_magic : List ℕ
kept_magic = ended (codes "GDBIXC1")

-- a kept index: what it begins with, the length of the build-id, the build-id, and a `.gdb_index`
unfoldable pub kept_bytes : List ℕ → List ℕ → List ℕ
kept_bytes id index = kept_magic ++ u32_bytes (length id) ++ id ++ index

-- the build-id that a kept index says, and what stands behind it
unfoldable pub kept_id : Input → Result (List ℕ × Input) Fault
kept_id kept = do
  magic ← some_or (bytes 8 kept) (fault KEPT_HEADER 0)
  holds_or (bytes_eq magic.0 kept_magic) (fault KEPT_HEADER 0)
  size ← some_or (number 4 magic.1) (fault KEPT_HEADER 0)
  some_or (bytes size.0 size.1) (fault KEPT_HEADER 0)

-- The index that is kept for the program with this build-id, or the first fault. The places of an index's faults are those in the
-- index, which is what stands behind the build-id.
unfoldable pub kept_index : List ℕ → List ℕ → Result GdbIndex Fault
kept_index kept id = do
  own ← kept_id (input kept 0)
  holds_or (bytes_eq own.0 id) (fault KEPT_BUILD_ID 0)
  gdb_index own.1.rest
