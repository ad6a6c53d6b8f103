-- What is open around an item of a unit is open by the class by which the unit is read.
use Rattle.std.proofs.Common.{◌≡◌, ℕ, zero, suc, cond, Option, Some, None, option_map, refl, ap, ◌∙◌}
use Rattle.index_model.specs.Walk.{Item, parent_of}
use Rattle.index_model.specs.Program.{Program, Walked, Located, items_of}
use Rattle.gdb_entries.specs.declared.language.LanguageClass.{LanguageClass}
use Rattle.gdb_entries.specs.Owners.{class_read}
use Rattle.gdb_entries.specs.Scopes.{is_open_by, open_or, open_around_at}
use Rattle.gdb_reach.specs.Around.{innermost_open, open_by_at, open_by}
use Rattle.gdb_reach.specs.Standing.{in_unit}
use Rattle.gdb_reach.specs.Laws.{OpenIsAsRead, NothingIsOpenUnread}

module _ (p : Program) (w : Walked) where
  abbrev outwards : Option Item → Option Located
  outwards o = option_map (λ e. in_unit w e) o

  at_depth : (n : ℕ) (d : Item) → open_around_at p n (in_unit w d) ≡ open_by_at p (class_read p w) n (in_unit w d)
  unfolding open_around_at open_by_at
  at_depth zero d = refl
  at_depth (suc n) d = elim (parent_of (items_of w) d) as (λ o.
      open_or p (outwards o) (λ e. open_around_at p n e) ≡ innermost_open p (class_read p w) (outwards o) (λ e. open_by_at p (class_read p w) n e)) [
        | None ↦ refl
        | Some e ↦ ap (λ (o : Option Located). cond (is_open_by p (class_read p w) (in_unit w e)) (Some (in_unit w e)) o) (at_depth n e)
      ]

  none_at_depth : (n : ℕ) (d : Item) → open_by_at p None n (in_unit w d) ≡ None
  unfolding open_by_at
  none_at_depth zero d = refl
  none_at_depth (suc n) d = elim (parent_of (items_of w) d) as (λ o. innermost_open p None (outwards o) (λ e. open_by_at p None n e) ≡ None) [
    | None ↦ refl
    | Some e ↦ none_at_depth n e
  ]

pub open_as_read : OpenIsAsRead
open_as_read p w d = at_depth p w d.depth d

pub nothing_unread : NothingIsOpenUnread
nothing_unread p w d unread = open_as_read p w d ∙ ap (λ (class : Option LanguageClass). open_by p class (in_unit w d)) unread ∙ none_at_depth p w d.depth d
