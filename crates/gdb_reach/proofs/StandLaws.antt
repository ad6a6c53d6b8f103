-- A state that stands for the passed items answers for the next one as the definitions do, and stands for it too behind it.
use Rattle.std.proofs.Common.{◌≡◌, ℕ, zero, suc, ◌+◌, Bool, true, false, cond, eqb, ◌&&◌, List, [], ◌∷◌, ◌++◌, Option, Some, None, option_map, refl, sym, ap, ◌∙◌, arith, ⊎_elim}
use Rattle.std.proofs.lemmas.Bool.{eq-eqb, ne_eqb, cases_eq}
use Rattle.common_laws.proofs.Booleans.{first_off, first_on, second_off}
use Rattle.index_model.specs.Walk.{Item}
use Rattle.index_model.specs.Program.{Located, items_of, scope_around}
use Rattle.index_model.specs.LawsOrder.{HasParent}
use Rattle.index_model.proofs.SpanOrder.{last_push}
use Rattle.gdb_entries.specs.declared.language.LanguageClass.{LanguageClass}
use Rattle.gdb_entries.specs.declared.item.ItemFacts.{ItemFacts}
use Rattle.gdb_entries.specs.Rules.{opens}
use Rattle.gdb_entries.specs.Owners.{class_read}
use Rattle.gdb_entries.specs.Scopes.{open_around}
use Rattle.gdb_entries.specs.Chains.{facts_of}
use Rattle.gdb_entries.specs.Reached.{Reach, reach_under, reach_at, reach_of, is_seen, is_open}
use Rattle.gdb_reach.specs.declared.state.Reached.{Reached}
use Rattle.gdb_reach.specs.declared.state.Look.{Look}
use Rattle.gdb_reach.specs.declared.way.Way.{Way}
use Rattle.gdb_reach.specs.declared.parents.ParentItem.{ParentItem}
use Rattle.gdb_reach.specs.Ways.{way_of, way_below, is_looked_at, token_around}
use Rattle.gdb_reach.specs.Around.{innermost_open, open_by_at, open_by}
use Rattle.gdb_reach.specs.Parents.{way_in, innermost_in, token_in, parent_in, parent_at, parent_to}
use Rattle.gdb_reach.specs.Standing.{UnitRead, StandsFor, ComesBehind, IsTold, IsNameTold, in_unit, last_parent, reach_in, open_in, parent_as, look_of}
use Rattle.gdb_reach.proofs.WayLaws.{looked_at, token_kept, opened, kept_below}
use Rattle.gdb_reach.proofs.AroundLaws.{open_as_read}
use Rattle.gdb_reach.proofs.NextLaws.{some, parent, no_parent, last_passed, around}

module _ (r : UnitRead) (passed : List Item) (d : Item) where
  abbrev here : Located
  here = in_unit r.unit d

  abbrev reach : Located → Option Reach
  reach e = reach_of r.program r.class e

  abbrev made : Bool → Option ℕ → Look
  made seen around = record { is_seen = seen; around = around }

  abbrev kept : ℕ → Option Way → Option ℕ → ParentItem
  kept token way innermost = record { token = token; way = way; innermost = innermost }

  -- an item of the unit, if there is one
  abbrev located_in : Option Item → Option Located
  located_in o = option_map (in_unit r.unit) o

  way_kept : (o : Option Item) → way_in (option_map (parent_as r) o) ≡ way_of r.token (reach_in r (located_in o))
  way_kept None = refl
  way_kept (Some e) = refl

  innermost_kept : (o : Option Item) → innermost_in (option_map (parent_as r) o) ≡ option_map r.token (open_in r (located_in o))
  innermost_kept None = refl
  innermost_kept (Some e) = refl

  tokens_kept : (o : Option Item) → token_in (option_map (parent_as r) o) ≡ option_map r.token (located_in o)
  tokens_kept None = refl
  tokens_kept (Some e) = refl

  -- the token of the item, if it is open, or else that further out
  chosen : (b : Bool) (outer : Option Located) → cond b (Some (r.token here)) (option_map r.token outer) ≡ option_map r.token (cond b (Some here) outer)
  chosen true outer = refl
  chosen false outer = refl

  module _ (old : Reached) (stands : StandsFor r passed old) (behind : ComesBehind r.unit passed d) where
    module _ (n : ℕ) (one : n + 1 ≡ d.depth) where
      deep : d.depth ≡ suc n
      deep = omega (arith, one)

      abbrev above : HasParent (items_of r.unit) d
      above = parent r.unit passed d behind (some r.unit passed d behind n deep)

      up : above.parent.depth ≡ n
      up = omega (arith, one, above.one_up)

      -- the reach of what stands a level deeper than n
      by_parent : reach_in r (located_in (last_parent passed n)) ≡ reach_at r.program r.class (suc n) here
      unfolding reach_at
      by_parent =
          let e : Item = above.parent in
          ap (λ (o : Option Item). reach_in r (located_in o)) (last_passed r.unit passed d behind n deep) ∙
          ap (λ (k : ℕ). reach_under r.program r.class (Some (in_unit r.unit e)) (λ x. reach_at r.program r.class k (in_unit r.unit e))) up ∙
          ap (λ (o : Option Located). reach_under r.program r.class o (λ x. reach_at r.program r.class n x)) (sym (around r.unit passed d behind n deep))

      -- the innermost open item around it
      open_by_parent : open_in r (located_in (last_parent passed n)) ≡ open_by_at r.program (Some r.class) (suc n) here
      unfolding open_by_at
      open_by_parent =
          let e : Item = above.parent in
          ap (λ (o : Option Item). open_in r (located_in o)) (last_passed r.unit passed d behind n deep) ∙
          ap (λ (k : ℕ). innermost_open r.program (Some r.class) (Some (in_unit r.unit e)) (λ x. open_by_at r.program (Some r.class) k (in_unit r.unit e))) up ∙
          ap (λ (o : Option Located). innermost_open r.program (Some r.class) o (λ x. open_by_at r.program (Some r.class) n x)) (sym (around r.unit passed d behind n deep))

      -- its parent
      parent_passed : located_in (last_parent passed n) ≡ scope_around here
      parent_passed = ap located_in (last_passed r.unit passed d behind n deep) ∙ sym (around r.unit passed d behind n deep)

    way_at_depth : (k : ℕ) → k ≡ d.depth → way_in (parent_to old.parents.items k) ≡ way_of r.token (reach_at r.program r.class k here)
    unfolding reach_at
    way_at_depth zero is = refl
    way_at_depth (suc n) is = ap way_in (stands.parents n) ∙ way_kept (last_parent passed n) ∙ ap (way_of r.token) (by_parent n (omega (arith, is)))

    open_at_depth : (k : ℕ) → k ≡ d.depth → innermost_in (parent_to old.parents.items k) ≡ option_map r.token (open_by_at r.program (Some r.class) k here)
    unfolding open_by_at
    open_at_depth zero is = refl
    open_at_depth (suc n) is = ap innermost_in (stands.parents n) ∙ innermost_kept (last_parent passed n) ∙ ap (option_map r.token) (open_by_parent n (omega (arith, is)))

    pub parent_at_depth : (k : ℕ) → k ≡ d.depth → token_in (parent_to old.parents.items k) ≡ option_map r.token (scope_around here)
    parent_at_depth zero is = ap (option_map r.token) (sym (no_parent r.unit passed d behind (sym is)))
    parent_at_depth (suc n) is =
        ap token_in (stands.parents n) ∙ tokens_kept (last_parent passed n) ∙
        ap (option_map r.token) (parent_passed n (omega (arith, is)))

    -- the innermost open item around the item
    pub open_here : (depth : ℕ) → depth ≡ d.depth → innermost_in (parent_to old.parents.items depth) ≡ option_map r.token (open_by r.program (Some r.class) here)
    open_here depth is = open_at_depth depth is ∙ ap (λ (k : ℕ). option_map r.token (open_by_at r.program (Some r.class) k here)) is

    module _ (depth : ℕ) (facts : ItemFacts) (told : IsTold d depth facts) where
      abbrev way : Option Way
      way = way_in (parent_to old.parents.items depth)

      -- the way to the item
      pub way_here : way ≡ way_of r.token (reach here)
      way_here = way_at_depth depth told.depth ∙ ap (λ (k : ℕ). way_of r.token (reach_at r.program r.class k here)) told.depth

      pub seen_here : is_looked_at way facts ≡ is_seen r.program r.class here
      unfolding is_seen
      seen_here = ap (λ (w : Option Way). is_looked_at w facts) way_here ∙ ap (is_looked_at (way_of r.token (reach here))) told.facts ∙ looked_at r.token (reach here) here

      pub around_here : token_around way ≡ (look_of r d).around
      around_here = ap token_around way_here ∙ token_kept r.token (reach here)

      pub look_is : (look : Look) → look.is_seen ≡ is_looked_at way facts → look.around ≡ token_around way → look ≡ look_of r d
      look_is look seen around = ap (λ (b : Bool). made b look.around) (seen ∙ seen_here) ∙ ap (λ (o : Option ℕ). made (is_seen r.program r.class here) o) (around ∙ around_here)

      -- whether the item is open
      pub open_is : (has_name : Bool) → IsNameTold r d has_name → (is_looked_at way facts && opens old.class facts.tag facts.children has_name) ≡ is_open r.program r.class here
      unfolding is_open is_seen facts_of
      open_is has_name named =
          ap (λ (class : LanguageClass). is_looked_at way facts && opens class facts.tag facts.children has_name) stands.class ∙
          ap (λ (w : Option Way). is_looked_at w facts && opens r.class facts.tag facts.children has_name) way_here ∙
          ap (λ (f : ItemFacts). is_looked_at (way_of r.token (reach here)) f && opens r.class f.tag f.children has_name) told.facts ∙
          opened r.token (reach here) here r.program r.class has_name named

      module _ (answer : Bool) (is : answer ≡ is_open r.program r.class here) (token : ℕ) (same : token ≡ r.token here) where
        -- the way to its children
        below_is : way_below depth way facts answer token ≡ way_of r.token (reach_in r (Some here))
        unfolding is_open
        below_is =
            ap (λ (k : ℕ). way_below k way facts answer token) told.depth ∙
            ap (λ (w : Option Way). way_below d.depth w facts answer token) way_here ∙
            ap (λ (f : ItemFacts). way_below d.depth (way_of r.token (reach here)) f answer token) told.facts ∙
            ap (λ (t : ℕ). way_below d.depth (way_of r.token (reach here)) (facts_of d) answer t) same ∙
            kept_below r.token r.program r.class reach here answer is

        -- the innermost open item around its children
        innermost_is : cond answer (Some token) (innermost_in (parent_to old.parents.items depth)) ≡ option_map r.token (open_in r (Some here))
        innermost_is =
            ap (λ (b : Bool). cond b (Some token) (innermost_in (parent_to old.parents.items depth))) is ∙
            ap (λ (t : ℕ). cond (is_open r.program r.class here) (Some t) (innermost_in (parent_to old.parents.items depth))) same ∙
            ap (λ (o : Option ℕ). cond (is_open r.program r.class here) (Some (r.token here)) o) (open_here depth told.depth) ∙
            chosen (is_open r.program r.class here) (open_by r.program (Some r.class) here)

        pub kept_is : parent_in (parent_to old.parents.items depth) depth facts answer token ≡ parent_as r d
        kept_is =
            ap (λ (t : ℕ). kept t (way_below depth way facts answer token) (cond answer (Some token) (innermost_in (parent_to old.parents.items depth)))) same ∙
            ap (λ (w : Option Way). kept (r.token here) w (cond answer (Some token) (innermost_in (parent_to old.parents.items depth)))) below_is ∙
            ap (λ (o : Option ℕ). kept (r.token here) (way_of r.token (reach_in r (Some here))) o) innermost_is

  -- ---- behind the item

  module _ (old : Reached) (stands : StandsFor r passed old) where
    one_more : (j : ℕ) (b : Bool) → (d.children && eqb d.depth j) ≡ b → last_parent (passed ++ d ∷ []) j ≡ cond b (Some d) (last_parent passed j)
    one_more j b is = last_push (λ (e : Item). e.children && eqb e.depth j) passed d None ∙ ap (λ (x : Bool). cond x (Some d) (last_parent passed j)) is

    -- it is the last of its depth, if it has children
    pub entered : (new : Reached) → new.class ≡ old.class → d.children ≡ true → (parent : ParentItem) → parent ≡ parent_as r d →
        ((other : ℕ) → parent_at new.parents.items other ≡ cond (eqb other d.depth) (Some parent) (parent_at old.parents.items other)) → StandsFor r (passed ++ d ∷ []) new
    entered new class on parent is put = record {
      class = class ∙ stands.class;
      parents = λ j. ⊎_elim
          (λ (same : j ≡ d.depth).
          put j ∙ ap (λ (b : Bool). cond b (Some parent) (parent_at old.parents.items j)) (eq-eqb j d.depth same) ∙ ap (λ (p : ParentItem). Some p) is ∙
          ap (option_map (parent_as r)) (sym (one_more j true (first_on d.children (eqb d.depth j) on ∙ eq-eqb d.depth j (sym same)))))
          (λ (other : j ≡ d.depth → ⊥).
          put j ∙ ap (λ (b : Bool). cond b (Some parent) (parent_at old.parents.items j)) (ne_eqb j d.depth other) ∙ stands.parents j ∙
          ap (option_map (parent_as r)) (sym (one_more j false (second_off d.children (eqb d.depth j) (ne_eqb d.depth j (λ same. other (sym same)))))))
          (cases_eq j d.depth);
    }

    pub passed_by : d.children ≡ false → StandsFor r (passed ++ d ∷ []) old
    passed_by off = record {
      class = stands.class;
      parents = λ j. stands.parents j ∙ ap (option_map (parent_as r)) (sym (one_more j false (first_off d.children (eqb d.depth j) off)));
    }

  -- ---- the calls

  module _ (old : Reached) (stands : StandsFor r passed old) (behind : ComesBehind r.unit passed d) (depth : ℕ) where
    module _ (told : depth ≡ d.depth) (above : Option ParentItem) (found : above ≡ parent_to old.parents.items depth) where
      pub parents : token_in above ≡ option_map r.token (scope_around here)
      parents = ap token_in found ∙ parent_at_depth old stands behind depth told

      module _ (answer : Option ℕ) (is : answer ≡ innermost_in above) where
        pub opens_around : answer ≡ option_map r.token (open_by r.program (Some r.class) here)
        opens_around = is ∙ ap innermost_in found ∙ open_here old stands behind depth told

        pub opens_as_read : class_read r.program r.unit ≡ Some r.class → answer ≡ option_map r.token (open_around r.program here)
        opens_as_read read =
            opens_around ∙ ap (λ (class : Option LanguageClass). option_map r.token (open_by r.program class here)) (sym read) ∙
            ap (option_map r.token) (sym (open_as_read r.program r.unit d))

    module _ (facts : ItemFacts) (told : IsTold d depth facts) where
      module _ (above : Option ParentItem) (found : above ≡ parent_to old.parents.items depth) where
        module _ (way : Option Way) (from : way ≡ way_in above) where
          way_is : way ≡ way_in (parent_to old.parents.items depth)
          way_is = from ∙ ap way_in found

          pub looks : (look : Look) → look.is_seen ≡ is_looked_at way facts → look.around ≡ token_around way → look ≡ look_of r d
          looks look seen around = look_is old stands behind depth facts told look (seen ∙ ap (λ (x : Option Way). is_looked_at x facts) way_is) (around ∙ ap token_around way_is)

          pub answers : (has_name : Bool) → IsNameTold r d has_name → (answer : Bool) → answer ≡ (is_looked_at way facts && opens old.class facts.tag facts.children has_name) → answer ≡ is_open r.program r.class here
          answers has_name named answer is =
              is ∙ ap (λ (x : Option Way). is_looked_at x facts && opens old.class facts.tag facts.children has_name) way_is ∙
              open_is old stands behind depth facts told has_name named

        pub enters : (answer : Bool) → answer ≡ is_open r.program r.class here → (token : ℕ) → token ≡ r.token here → facts.children ≡ true →
            (parent : ParentItem) → parent ≡ parent_in above depth facts answer token → (new : Reached) → new.class ≡ old.class →
            ((other : ℕ) → parent_at new.parents.items other ≡ cond (eqb other depth) (Some parent) (parent_at old.parents.items other)) → StandsFor r (passed ++ d ∷ []) new
        unfolding facts_of
        enters answer open_ token same children parent is new class put =
            entered old stands new class (ap (λ (f : ItemFacts). f.children) (sym told.facts) ∙ children) parent
            (is ∙ ap (λ (x : Option ParentItem). parent_in x depth facts answer token) found ∙ kept_is old stands behind depth facts told answer open_ token same)
            (λ other. put other ∙ ap (λ (k : ℕ). cond (eqb other k) (Some parent) (parent_at old.parents.items other)) told.depth)

      pub passes : facts.children ≡ false → StandsFor r (passed ++ d ∷ []) old
      unfolding facts_of
      passes children = passed_by old stands (ap (λ (f : ItemFacts). f.children) (sym told.facts) ∙ children)

-- before the first item
pub none_passed : (r : UnitRead) (state : Reached) → state.class ≡ r.class → state.parents.items ≡ [] → StandsFor r [] state
none_passed r state class is = record {
  class = class;
  parents = λ j. ap (λ (kept : List (Option ParentItem)). parent_at kept j) is;
}
