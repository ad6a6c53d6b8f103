-- How gdb comes to an item, as it is kept: of an open item its token and its tag.
use Rattle.std.specs.Prelude.{ℕ, Bool, false, not, ◌&&◌, ◌||◌, ◌==◌, if◌then◌else◌, Option, Some, None, option_map}
use Rattle.index_model.specs.Tags.{subprogram}
use Rattle.index_model.specs.Program.{Located}
use Rattle.gdb_entries.specs.declared.item.ItemFacts.{ItemFacts}
use Rattle.gdb_entries.specs.Rules.{counts, is_allowed_in}
use Rattle.gdb_entries.specs.Reached.{Reach}
use Rattle.gdb_reach.specs.declared.way.OpenItem.{OpenItem}
use Rattle.gdb_reach.specs.declared.way.Way.{Way}

-- an open item as it is kept, where each item has this token
abbrev pub open_item : (Located → ℕ) → Located → OpenItem
open_item token e = record { token = token e; tag = e.item.tag }

-- a reach as it is kept
abbrev pub way_of : (Located → ℕ) → Option Reach → Option Way
way_of token = option_map (λ r. record { around = option_map (open_item token) r.around; inside = r.inside })

-- ---- one way

-- whether what is come to so stands somewhere in an open subprogram
abbrev pub leads_inside : Option Way → Bool
leads_inside (Some way) = way.inside
leads_inside None = false

-- whether an item that is come to so is looked at
abbrev pub is_looked_at : Option Way → ItemFacts → Bool
is_looked_at (Some way) item = is_allowed_in (option_map (λ o. o.tag) way.around) item.tag && counts item
is_looked_at None item = false

-- the token of the innermost open item around what is come to so
abbrev pub token_around : Option Way → Option ℕ
token_around (Some way) = option_map (λ o. o.token) way.around
token_around None = None

-- the way to the children of an item that is come to so
abbrev pub way_on : Option Way → ItemFacts → Bool → ℕ → Option Way
way_on way item is_open token =
    if is_open then Some (record { around = Some (record { token = token; tag = item.tag }); inside = leads_inside way || item.tag == subprogram }) else
    if leads_inside way && not (is_looked_at way item) then way else None

-- the way to the children of an item of this depth; those of a root are come to
abbrev pub way_below : ℕ → Option Way → ItemFacts → Bool → ℕ → Option Way
way_below depth way item is_open token = if depth == 0 then Some (record { around = None; inside = false }) else way_on way item is_open token
