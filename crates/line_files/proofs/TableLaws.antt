-- The items of a table are passed one after the other.
use Rattle.std.proofs.Common.{◌≡◌, ℕ, Bool, suc, List, [], Option, Some, None, Result, Ok, Err, refl}
use Rattle.ix_base.specs.Reading.{Input}
use Rattle.index_model.specs.Sections.{Section}
use Rattle.reach_model.specs.declared.code.TheConstants.{LINES_FIELDS}
use Rattle.reach_model.specs.LineTables.{Layout, TableReader, before, entries_at, layout_at, new_entry, so_many, up_to_end}
use Rattle.line_files.specs.Entries.{place_behind}

place_before : {A : Type 0} (x : A) (r : Result (List A × Input) ℕ) → place_behind (before x r) ≡ place_behind r
place_before x (Ok others) = refl
place_before x (Err code) = refl

module _ {A : Type 0} (n : ℕ) (read : TableReader A) (i : Input) where
  pub one_passed : (x : A) (next : Input) → read i ≡ Ok (x, next) → place_behind (so_many (suc n) read i) ≡ place_behind (so_many n read next)
  unfolding so_many
  one_passed x next e = rw e (place_before x (so_many n read next))

  pub none_passed : (code : ℕ) → read i ≡ Err code → place_behind (so_many (suc n) read i) ≡ Err code
  unfolding so_many
  none_passed code e = rw e refl

module _ {A : Type 0} (n : ℕ) (read : TableReader (Option A)) (i : Input) where
  pub item_passed : (x : A) (next : Input) → read i ≡ Ok (Some x, next) → place_behind (up_to_end (suc n) read i) ≡ place_behind (up_to_end n read next)
  unfolding up_to_end
  item_passed x next e = rw e (place_before x (up_to_end n read next))

  pub end_passed : (next : Input) → read i ≡ Ok (None, next) → place_behind (up_to_end (suc n) read i) ≡ Ok next
  unfolding up_to_end
  end_passed next e = rw e refl

  pub no_item_passed : (code : ℕ) → read i ≡ Err code → place_behind (up_to_end (suc n) read i) ≡ Err code
  unfolding up_to_end
  no_item_passed code e = rw e refl

-- behind the last item
pub all_passed : {A : Type 0} (read : TableReader A) (i : Input) → place_behind (so_many 0 read i) ≡ Ok i
unfolding so_many
all_passed read i = refl

-- a list of items without an end
pub no_end : {A : Type 0} (read : TableReader (Option A)) (i : Input) → place_behind (up_to_end 0 read i) ≡ Err LINES_FIELDS
unfolding up_to_end
no_end read i = refl

module _ (ss : List Section) (wide : Bool) (i : Input) where
  pub no_layout : (code : ℕ) → layout_at i ≡ Err code → place_behind (entries_at ss wide i) ≡ Err code
  unfolding entries_at
  no_layout code e = rw e refl

  pub entries_behind_layout : (l : Layout) (next : Input) → layout_at i ≡ Ok (l, next) →
      place_behind (entries_at ss wide i) ≡ place_behind (so_many l.count (new_entry ss wide l.formats (record { name = []; dir = 0 })) next)
  unfolding entries_at
  entries_behind_layout l next e = rw e refl
