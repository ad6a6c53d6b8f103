-- Which items gdb comes to, and which of them it looks at and opens (gdb/dwarf2/read.c, index_dies).
use Rattle.std.specs.Prelude.{ℕ, zero, suc, Bool, false, not, ◌&&◌, ◌||◌, ◌==◌, if◌then◌else◌, is_some, Option, Some, None, option_map}
use Rattle.index_model.specs.Tags.{subprogram}
use Rattle.index_model.specs.Program.{Program, Located, scope_around}
use Rattle.gdb_entries.specs.declared.language.LanguageClass.{LanguageClass}
use Rattle.gdb_entries.specs.Rules.{counts, is_allowed_in, opens}
use Rattle.gdb_entries.specs.Chains.{facts_of, name_of}

-- how gdb comes to an item: the innermost open item around it, and whether it stands somewhere in a subprogram that is open
pub record Reach : Type 0 where
  pub around : Option Located
  pub inside : Bool

-- whether it stands somewhere in an open subprogram, if it is come to at all
abbrev pub is_inside : Option Reach → Bool
is_inside (Some r) = r.inside
is_inside None = false

-- the tag of an open item
abbrev pub tag_of : Option Located → Option ℕ
tag_of around = option_map (λ e. e.item.tag) around

-- whether an item that is come to so is looked at
abbrev pub is_seen_from : Option Reach → Located → Bool
is_seen_from (Some r) d = is_allowed_in (tag_of r.around) d.item.tag && counts (facts_of d.item)
is_seen_from None d = false

module _ (p : Program) (class : LanguageClass) where
  -- whether an item that is come to so is open
  unfoldable pub is_open_from : Option Reach → Located → Bool
  is_open_from r d = is_seen_from r d && opens class d.item.tag d.item.children (is_some (name_of p class d))

  -- How gdb comes to the children of an item to which it comes so: it is open, or it isn't looked at somewhere in a subprogram, and is gone through.
  unfoldable pub below : Option Reach → Located → Option Reach
  below r e =
      if is_open_from r e then Some (record { around = Some e; inside = is_inside r || e.item.tag == subprogram }) else
      if is_inside r && not (is_seen_from r e) then r else None

  -- below a root each item is come to
  abbrev pub reach_under : Option Located → (Located → Option Reach) → Option Reach
  reach_under None above = None
  reach_under (Some e) above = if e.item.depth == 0 then Some (record { around = None; inside = false }) else below (above e) e

  -- how gdb comes to an item of this depth; to a root it doesn't
  unfoldable pub reach_at : ℕ → Located → Option Reach
  reach_at zero d = None
  reach_at (suc n) d = reach_under (scope_around d) (λ e. reach_at n e)

  -- how gdb comes to an item of a unit that is read by this class, if it does
  abbrev pub reach_of : Located → Option Reach
  reach_of d = reach_at d.item.depth d

  -- whether the item is looked at
  unfoldable pub is_seen : Located → Bool
  is_seen d = is_seen_from (reach_of d) d

  -- whether the item is looked at and open
  unfoldable pub is_open : Located → Bool
  is_open d = is_open_from (reach_of d) d
