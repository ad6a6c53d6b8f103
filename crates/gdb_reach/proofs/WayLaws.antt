-- What is kept of a reach answers as the reach does.
use Rattle.std.proofs.Common.{◌≡◌, ℕ, Bool, true, false, cond, eqb, not, ◌&&◌, ◌||◌, Option, Some, None, option_map, is_some, refl, ap, ◌∙◌}
use Rattle.index_model.specs.Tags.{subprogram}
use Rattle.index_model.specs.Program.{Program, Located}
use Rattle.gdb_entries.specs.declared.language.LanguageClass.{LanguageClass}
use Rattle.gdb_entries.specs.Rules.{counts, is_allowed_in, opens}
use Rattle.gdb_entries.specs.Chains.{facts_of, name_of}
use Rattle.gdb_entries.specs.Reached.{Reach, is_inside, is_seen_from, is_open_from, below, reach_under}
use Rattle.gdb_entries.specs.Scopes.{around_in}
use Rattle.gdb_reach.specs.declared.way.OpenItem.{OpenItem}
use Rattle.gdb_reach.specs.declared.way.Way.{Way}
use Rattle.gdb_reach.specs.Ways.{open_item, way_of, leads_inside, is_looked_at, token_around, way_on, way_below}

-- whether an item is open counts where it is seen and has children
known : (class : LanguageClass) (tag : ℕ) (seen children has_name other : Bool) → (seen ≡ true → children ≡ true → has_name ≡ other) → (seen && opens class tag children has_name) ≡ (seen && opens class tag children other)
known class tag false children has_name other h = refl
known class tag true false has_name other h = refl
known class tag true true has_name other h = ap (opens class tag true) (h refl refl)

module _ (token : Located → ℕ) where
  tags : (around : Option Located) → option_map (λ (o : OpenItem). o.tag) (option_map (open_item token) around) ≡ option_map (λ (e : Located). e.item.tag) around
  tags None = refl
  tags (Some e) = refl

  tokens : (around : Option Located) → option_map (λ (o : OpenItem). o.token) (option_map (open_item token) around) ≡ option_map token around
  tokens None = refl
  tokens (Some e) = refl

  pub looked_at : (r : Option Reach) (d : Located) → is_looked_at (way_of token r) (facts_of d.item) ≡ is_seen_from r d
  unfolding facts_of
  looked_at None d = refl
  looked_at (Some r) d = ap (λ (tag : Option ℕ). is_allowed_in tag d.item.tag && counts (facts_of d.item)) (tags r.around)

  pub token_kept : (r : Option Reach) → token_around (way_of token r) ≡ option_map token (around_in r)
  token_kept None = refl
  token_kept (Some r) = tokens r.around

  inside : (r : Option Reach) → leads_inside (way_of token r) ≡ is_inside r
  inside None = refl
  inside (Some r) = refl

  -- ---- behind an item

  module _ (r : Option Reach) (e : Located) where
    -- a way on, where it is known whether the item is open, stands in a subprogram and is looked at
    abbrev on : Bool → Bool → Bool → Option Way
    on o i l = cond o (Some (record { around = Some (open_item token e); inside = i || eqb e.item.tag subprogram })) (cond (i && not l) (way_of token r) None)

    abbrev reach_on : Bool → Bool → Bool → Option Reach
    reach_on o i l = cond o (Some (record { around = Some e; inside = i || eqb e.item.tag subprogram })) (cond (i && not l) r None)

    on_kept : (o i l : Bool) → on o i l ≡ way_of token (reach_on o i l)
    on_kept true i l = refl
    on_kept false true true = refl
    on_kept false true false = refl
    on_kept false false l = refl

    module _ (p : Program) (class : LanguageClass) where
      pub kept_on : (is_open : Bool) → is_open ≡ is_open_from p class r e → way_on (way_of token r) (facts_of e.item) is_open (token e) ≡ way_of token (below p class r e)
      unfolding below facts_of
      kept_on is_open is =
          ap (λ (b : Bool). on b (leads_inside (way_of token r)) (is_looked_at (way_of token r) (facts_of e.item))) is ∙
          ap (λ (b : Bool). on (is_open_from p class r e) b (is_looked_at (way_of token r) (facts_of e.item))) (inside r) ∙
          ap (λ (b : Bool). on (is_open_from p class r e) (is_inside r) b) (looked_at r e) ∙
          on_kept (is_open_from p class r e) (is_inside r) (is_seen_from r e)

      -- a name that is told where it counts says whether the item is open
      pub opened : (has_name : Bool) → (is_seen_from r e ≡ true → e.item.children ≡ true → has_name ≡ is_some (name_of p class e)) →
          (is_looked_at (way_of token r) (facts_of e.item) && opens class e.item.tag e.item.children has_name) ≡ is_open_from p class r e
      unfolding is_open_from
      opened has_name h =
          ap (λ (b : Bool). b && opens class e.item.tag e.item.children has_name) (looked_at r e) ∙
          known class e.item.tag (is_seen_from r e) e.item.children has_name (is_some (name_of p class e)) h

  -- also below a root
  pub kept_below : (p : Program) (class : LanguageClass) (above : Located → Option Reach) (e : Located) (is_open : Bool) → is_open ≡ is_open_from p class (above e) e →
      way_below e.item.depth (way_of token (above e)) (facts_of e.item) is_open (token e) ≡ way_of token (reach_under p class (Some e) above)
  kept_below p class above e is_open is = elim (eqb e.item.depth 0) as (λ b.
      cond b (Some (record { around = None; inside = false })) (way_on (way_of token (above e)) (facts_of e.item) is_open (token e)) ≡
      way_of token (cond b (Some (record { around = None; inside = false })) (below p class (above e) e))) [
        | true ↦ refl
        | false ↦ kept_on (above e) e p class is_open is
      ]
