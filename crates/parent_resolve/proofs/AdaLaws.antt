-- What may be visited, and what is visited in Ada.
use Rattle.std.proofs.Common.{◌≡◌, ℕ, Bool, true, false, cond, eqb, ◌&&◌, ◌||◌, Option, Some, None, refl, sym, ap, subst, ◌∙◌}
use Rattle.std.specs.Prelude.{unwrap_or, is_none}
use Rattle.std.specs.Option.{option_or}
use Rattle.std.proofs.lemmas.Bool.{true≢false}
use Rattle.index_model.specs.Languages.{class_of_unit, class_of, language_of, language_by_import, own_language, importing_language}
use Rattle.index_model.specs.Program.{Walked, Program, items_of, root_of}
use Rattle.index_model.specs.Rules.{is_ada, is_visited}
use Rattle.index_model.specs.ShardParts.{may_be_ada, is_partial, root_facts}
use Rattle.index_model.specs.Tags.{partial_unit}
use Rattle.index_model.specs.Walk.{Item}
use Rattle.index_model.proofs.Followed.{ada_may, visited_more}
use Rattle.parent_resolve.specs.Visits.{takes_importers_class}

or_false : (a : Bool) → (a || false) ≡ a
or_false true = refl
or_false false = refl

-- where the class isn't that of an importing unit it is Ada where it may be
ada_known : (p : Program) (own : Option ℕ) (root : Option Item) → (is_partial root && is_none own) ≡ false → (is_ada (class_of (unwrap_or own 0)) || (is_partial root && is_none own)) ≡ is_ada (class_of (unwrap_or (option_or own (language_by_import p root)) 0))
unfolding language_by_import
ada_known p (Some n) root h = ap (λ (b : Bool). is_ada (class_of n) || b) h ∙ or_false (is_ada (class_of n))
ada_known p None None h = or_false (is_ada (class_of 0))
ada_known p None (Some r) h =
    elim (eqb r.tag partial_unit) as (λ b. (b && true) ≡ false → (is_ada (class_of 0) || (b && true)) ≡ is_ada (class_of (unwrap_or (cond b (importing_language p r.at) None) 0))) [
      | true ↦ λ never. absurd (true≢false never)
      | false ↦ λ _. or_false (is_ada (class_of 0))
    ] h

pub known_class : (p : Program) (w : Walked) → takes_importers_class (Some (root_facts w)) ≡ false → may_be_ada w ≡ is_ada (class_of_unit p w)
unfolding may_be_ada language_of root_facts
known_class p w h = ada_known p (own_language w) (root_of w) h

-- what is visited may be visited
pub may_be_visited : (p : Program) (w : Walked) (d : Item) → is_visited (is_ada (class_of_unit p w)) (items_of w) d ≡ true → is_visited (may_be_ada w) (items_of w) d ≡ true
may_be_visited p w d = by (is_ada (class_of_unit p w)) (may_be_ada w) (ada_may p w)
  where
    by : (a m : Bool) → (a ≡ true → m ≡ true) → is_visited a (items_of w) d ≡ true → is_visited m (items_of w) d ≡ true
    by true m up h = subst (λ (b : Bool). is_visited b (items_of w) d ≡ true) (sym (up refl)) h
    by false true up h = visited_more (items_of w) d.depth false d h
    by false false up h = h
