-- The innermost open item around any item, come to or not, where its unit is read by some class (gdb/dwarf2/read.c, recurse; parent-map.h).
use Rattle.std.specs.Prelude.{ℕ, zero, suc, if◌then◌else◌, Option, Some, None}
use Rattle.index_model.specs.Program.{Program, Located, scope_around}
use Rattle.gdb_entries.specs.declared.language.LanguageClass.{LanguageClass}
use Rattle.gdb_entries.specs.Scopes.{is_open_by}

module _ (p : Program) (class : Option LanguageClass) where
  -- the item, if it is open, or else the one further out
  abbrev pub innermost_open : Option Located → (Located → Option Located) → Option Located
  innermost_open None outer = None
  innermost_open (Some e) outer = if is_open_by p class e then Some e else outer e

  -- the innermost open item around an item of this depth
  unfoldable pub open_by_at : ℕ → Located → Option Located
  open_by_at zero d = None
  open_by_at (suc n) d = innermost_open (scope_around d) (λ e. open_by_at n e)

  -- the innermost open item around an item
  abbrev pub open_by : Located → Option Located
  open_by d = open_by_at d.item.depth d
