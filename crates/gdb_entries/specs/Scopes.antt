-- The scope path of an item (gdb/dwarf2/read.c, scan_attributes, recurse; parent-map.h).
use Rattle.std.specs.Prelude.{ℕ, zero, suc, Bool, false, ◌==◌, if◌then◌else◌, List, [], ◌∷◌, filter_map, unwrap_or, Option, Some, None, option_map, option_and_then}
use Rattle.std.specs.Option.{option_or}
use Rattle.ix_base.specs.declared.limits.TheConstants.{MAX_PATH_STEPS}
use Rattle.index_model.specs.Program.{Program, Located, scope_around}
use Rattle.index_model.specs.Chains.{first}
use Rattle.gdb_entries.specs.declared.language.LanguageClass.{LanguageClass}
use Rattle.gdb_entries.specs.Classes.{is_c}
use Rattle.gdb_entries.specs.Rules.{entry_point}
use Rattle.gdb_entries.specs.Owners.{class_read}
use Rattle.gdb_entries.specs.Chains.{targets_of}
use Rattle.gdb_entries.specs.Reached.{Reach, reach_of, is_open}

-- the open item around one that is come to
abbrev pub around_in : Option Reach → Option Located
around_in (Some r) = r.around
around_in None = None

module _ (p : Program) where
  -- whether an item of any unit is open by the class by which its unit is read
  abbrev pub is_open_by : Option LanguageClass → Located → Bool
  is_open_by (Some class) d = is_open p class d
  is_open_by None d = false

  -- the item, or else the one further out
  abbrev pub open_or : Option Located → (Located → Option Located) → Option Located
  open_or None outer = None
  open_or (Some e) outer = if is_open_by (class_read p e.home) e then Some e else outer e

  -- the innermost open item around any item of this depth
  unfoldable pub open_around_at : ℕ → Located → Option Located
  open_around_at zero d = None
  open_around_at (suc n) d = open_or (scope_around d) (λ e. open_around_at n e)

  -- the innermost open item around any item
  abbrev pub open_around : Located → Option Located
  open_around d = open_around_at d.item.depth d

  -- the open item around an item, if it is read by this class
  abbrev pub around_by : Option LanguageClass → Located → Option Located
  around_by (Some class) d = around_in (reach_of p class d)
  around_by None d = None

  -- the open item around the first target of the item's chain that has one; in C names have no scopes, and it isn't sought
  abbrev pub around_target : Option LanguageClass → Located → Option Located
  around_target (Some class) d = if is_c class then None else first (filter_map open_around (targets_of p d))
  around_target None d = None

  -- the scope of an item that is looked at: the open item around it, or else around a target of its chain
  unfoldable pub scope_in_place : Located → Option Located
  scope_in_place d =
      let class = class_read p d.home in
      option_or (around_by class d) (around_target class d)

  -- the scope of an item that is looked at; an entry point has that of its subprogram
  unfoldable pub scope_of : Located → Option Located
  scope_of d =
      let own = scope_in_place d in
      if d.item.tag == entry_point then option_and_then scope_in_place own else own

  -- the path goes on around its last member, or has its end here
  abbrev pub path_behind : Option Located → (Located → Option (List Located)) → Option (List Located)
  path_behind None onwards = Some []
  path_behind (Some e) onwards = option_map (λ more. e ∷ more) (onwards e)

  -- the path around an item, where it has n members at most
  unfoldable pub path_from : ℕ → Located → Option (List Located)
  path_from zero d = path_behind (scope_of d) (λ e. None)
  path_from (suc n) d = path_behind (scope_of d) (λ e. path_from n e)

  -- the scope path of an item, the innermost member first; one that is too long counts as none
  unfoldable pub scope_path : Located → List Located
  scope_path d = unwrap_or (path_from MAX_PATH_STEPS d) []
