-- What a shelf in memory holds, and what its next calls do.
use Rattle.std.specs.Prelude.{ℕ, ◌-◌, ◌==◌, List, length, take, min, Option, None, Some, Bool, if◌then◌else◌, find, ◌⊎◌}
use Rattle.std.specs.List.{list_any}
use Rattle.std.specs.Option.{option_map}
use Rattle.std.specs.BTreeMap.{get_by_text}
use Rattle.outside.specs.Counts.{one_more}
use Rattle.outside.specs.Files.{Files, SameFiles, Stored}
use Rattle.outside.specs.declared.mem_shelf.MemShelf.{MemShelf}
use Rattle.outside.specs.declared.mem_shelf.FailingStore.{FailingStore}
use Rattle.outside.specs.declared.mem_shelf.Leaves.{Leaves}
use Rattle.outside.specs.declared.mem_shelf.Leaves.TheVariants.{Old, Prefix}

-- what each name holds
abbrev pub shelf_files : MemShelf → Files
shelf_files shelf name = option_map (λ bytes. bytes.items) (get_by_text shelf.files name)

-- the calls that are to fail, by their numbers from 1 on, and the counts of calls and of faults
pub record Calls : Type 0 where
  pub failing_reads : List ℕ
  pub failing_stores : List FailingStore
  pub failing_kept_reads : List ℕ
  pub reads : ℕ
  pub stores : ℕ
  pub kept_reads : ℕ
  pub read_faults : ℕ
  pub store_faults : ℕ
  pub kept_faults : ℕ

-- the calls of a shelf, past and planned
abbrev pub shelf_calls : MemShelf → Calls
shelf_calls shelf =
    record {
      failing_reads = shelf.failing_reads.items;
      failing_stores = shelf.failing_stores.items;
      failing_kept_reads = shelf.failing_kept_reads.items;
      reads = shelf.reads;
      stores = shelf.stores;
      kept_reads = shelf.kept_reads;
      read_faults = shelf.read_faults;
      store_faults = shelf.store_faults;
      kept_faults = shelf.kept_faults;
    }

-- the calls after a read, which went well or not
abbrev pub after_read : Calls → Bool → Calls
after_read calls well =
    record calls {
      reads = one_more calls.reads;
      read_faults = if well then calls.read_faults else one_more calls.read_faults;
    }

-- the calls after a read of a kept file, which went well or not
abbrev pub after_kept_read : Calls → Bool → Calls
after_kept_read calls well =
    record calls {
      kept_reads = one_more calls.kept_reads;
      kept_faults = if well then calls.kept_faults else one_more calls.kept_faults;
    }

-- the calls after a store, which went well or not
abbrev pub after_store : Calls → Bool → Calls
after_store calls well =
    record calls {
      stores = one_more calls.stores;
      store_faults = if well then calls.store_faults else one_more calls.store_faults;
    }

-- How many bytes of what a name holds a call gives, and None where it fails. Some calls are to fail, by their numbers.
abbrev pub piece_count : List ℕ → ℕ → Option (List ℕ) → ℕ → ℕ → Option ℕ
piece_count failing number None at room = None
piece_count failing number (Some bytes) at room =
    if list_any (λ call. call == number) failing then None else Some (min room (length bytes - at))

-- how many bytes the next read of what a name holds gives, and None where that read fails
abbrev pub read_count : Calls → Option (List ℕ) → ℕ → ℕ → Option ℕ
read_count calls = piece_count calls.failing_reads (one_more calls.reads)

-- the same of the next read of a kept file
abbrev pub kept_count : Calls → Option (List ℕ) → ℕ → ℕ → Option ℕ
kept_count calls = piece_count calls.failing_kept_reads (one_more calls.kept_reads)

-- what the call with this number leaves, if it is one that is to fail
abbrev pub leaves_at : List FailingStore → ℕ → Option Leaves
leaves_at stores call = option_map (λ store. store.leaves) (find (λ store. store.call == call) stores)

-- what the next store leaves, if it is to fail
abbrev pub next_leaves : Calls → Option Leaves
next_leaves calls = leaves_at calls.failing_stores (one_more calls.stores)

-- a store that was to fail left the old content, or so many of the new bytes, for which memory may
-- have been refused
abbrev pub IsLeft : Leaves → Files → Files → List ℕ → List ℕ → Type 0
IsLeft Old old new name bytes = SameFiles (Some old) (Some new)
IsLeft (Prefix k) old new name bytes =
    Stored (Some old) (Some new) name (take k bytes) ⊎ SameFiles (Some old) (Some new)
