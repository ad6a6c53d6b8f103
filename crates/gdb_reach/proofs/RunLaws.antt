-- Behind each of the items that were told, the answers so far are those of the kept items so far.
use Rattle.std.proofs.Common.{◌≡◌, ℕ, ◌+◌, ◌<◌, ◌≤◌, Bool, true, false, cond, List, [], ◌∷◌, ◌++◌, length, drop, map, filter, get_or, Option, Some, option_map, refl, sym, ap, subst, ◌∙◌, append_assoc, append-nil, drop-cons, add-one}
use Rattle.std.proofs.Math.ListN.{drop_of_length-le}
use Rattle.std.proofs.lemmas.List.{map-append}
use Rattle.std.proofs.lemmas.List.Elements.{filter-append}
use Rattle.common_laws.proofs.Filters.{filter_within}
use Rattle.index_model.specs.Walk.{Item}
use Rattle.index_model.specs.Program.{items_of}
use Rattle.gdb_entries.specs.Reached.{is_open}
use Rattle.gdb_reach.specs.declared.state.Look.{Look}
use Rattle.gdb_reach.specs.declared.state.Reached.{Reached}
use Rattle.gdb_reach.specs.declared.run.ToldItem.{ToldItem}
use Rattle.gdb_reach.specs.declared.run.Answer.{Answer}
use Rattle.gdb_reach.specs.Around.{open_by}
use Rattle.gdb_reach.specs.Standing.{UnitRead, StandsFor, ComesBehind, IsOfAFile, in_unit, look_of}
use Rattle.gdb_reach.specs.Runs.{IsToldOf, AreTold, KeepsParents, answer_of}

abbrev made : Look → Bool → Option ℕ → Answer
made look opened around = record { look = look; is_open = opened; open_around = around }

pub answered : (r : UnitRead) (d : Item) (look : Look) (opened : Bool) (around : Option ℕ) → look ≡ look_of r d → opened ≡ is_open r.program r.class (in_unit r.unit d) →
    around ≡ option_map r.token (open_by r.program (Some r.class) (in_unit r.unit d)) → made look opened around ≡ answer_of r d
answered r d look opened around seen is same =
    ap (λ (l : Look). made l opened around) seen ∙ ap (λ (o : Bool). made (look_of r d) o around) is ∙ ap (λ (a : Option ℕ). made (look_of r d) (is_open r.program r.class (in_unit r.unit d)) a) same

-- the first of the kept items, and what stands before and behind it
pub record FirstKept (r : UnitRead) (keep : Item → Bool) (ds : List Item) (t : ToldItem) (ts : List ToldItem) : Type 0 where
  pub skipped : List Item
  pub item : Item
  pub later : List Item
  pub whole : skipped ++ item ∷ later ≡ ds
  pub none : filter keep skipped ≡ []
  pub kept : keep item ≡ true
  pub told : IsToldOf r item t
  pub others : AreTold r (filter keep later) ts

pub first_kept : (r : UnitRead) (keep : Item → Bool) (ds : List Item) (t : ToldItem) (ts : List ToldItem) → AreTold r (filter keep ds) (t ∷ ts) → FirstKept r keep ds t ts
first_kept r keep [] t ts h = absurd h
first_kept r keep (x ∷ xs) t ts h =
    elim (keep x) as (λ b. keep x ≡ b → AreTold r (cond b (x ∷ filter keep xs) (filter keep xs)) (t ∷ ts) → FirstKept r keep (x ∷ xs) t ts) [
      | true ↦ λ on told. record { skipped = []; item = x; later = xs; whole = refl; none = refl; kept = on; told = told.0; others = told.1 }
      | false ↦ λ off told.
          let f = first_kept r keep xs t ts told in
          record {
            skipped = x ∷ f.skipped;
            item = f.item;
            later = f.later;
            whole = ap (λ (ys : List Item). x ∷ ys) f.whole;
            none = ap (λ (b : Bool). cond b (x ∷ filter keep f.skipped) (filter keep f.skipped)) off ∙ f.none;
            kept = f.kept;
            told = f.told;
            others = f.others;
          }
    ] refl h

-- where nothing is left to be told no item is kept
none_left : (r : UnitRead) (ds : List Item) → AreTold r ds [] → ds ≡ []
none_left r [] h = refl
none_left r (d ∷ ds) h = absurd h

-- some items of the unit are behind, and of the rest the kept ones are still to be told
pub record Goes (r : UnitRead) (keep : Item → Bool) (state : Reached) (found : List Answer) (left : List ToldItem) : Type 0 where
  pub before : List Item
  pub rest : List Item
  pub whole : before ++ rest ≡ items_of r.unit
  pub stands : StandsFor r (filter keep before) state
  pub told : AreTold r (filter keep rest) left
  pub answers : found ≡ map (answer_of r) (filter keep before)

module _ (r : UnitRead) (keep : Item → Bool) where
  pub begins : (state : Reached) (found : List Answer) (told : List ToldItem) → StandsFor r [] state → found ≡ [] → AreTold r (filter keep (items_of r.unit)) told → Goes r keep state found told
  begins state found told stands none h = record { before = []; rest = items_of r.unit; whole = refl; stands = stands; told = h; answers = none }

  all_told : (state : Reached) (found : List Answer) → Goes r keep state found [] → found ≡ map (answer_of r) (filter keep (items_of r.unit))
  all_told state found g =
      let none = none_left r (filter keep g.rest) g.told in
      let all : filter keep g.before ≡ filter keep (items_of r.unit) =
      sym (append-nil (filter keep g.before)) ∙ ap (λ (ys : List Item). filter keep g.before ++ ys) (sym none) ∙
      sym (filter-append keep g.before g.rest) ∙ ap (filter keep) g.whole in
      g.answers ∙ ap (map (answer_of r)) all

  -- behind the last of them
  pub ends : (state : Reached) (found : List Answer) (told : List ToldItem) (i : ℕ) → length told ≤ i → Goes r keep state found (drop i told) → found ≡ map (answer_of r) (filter keep (items_of r.unit))
  ends state found told i le g = all_told state found (subst (Goes r keep state found) (drop_of_length-le told le) g)

  module _ (old : Reached) (found : List Answer) (t : ToldItem) (ts : List ToldItem) (g : Goes r keep old found (t ∷ ts)) where
    pub first : FirstKept r keep g.rest t ts
    first = first_kept r keep g.rest t ts g.told

    abbrev behind : List Item
    behind = g.before ++ first.skipped

    kept_behind : filter keep behind ≡ filter keep g.before
    kept_behind = filter-append keep g.before first.skipped ∙ ap (λ (ys : List Item). filter keep g.before ++ ys) first.none ∙ append-nil (filter keep g.before)

    whole : behind ++ first.item ∷ first.later ≡ items_of r.unit
    whole = append_assoc g.before first.skipped (first.item ∷ first.later) ∙ ap (λ (ys : List Item). g.before ++ ys) first.whole ∙ g.whole

    -- the next item that is told comes behind the kept ones
    pub comes : IsOfAFile r.unit → KeepsParents keep → ComesBehind r.unit (filter keep g.before) first.item
    comes file keeps = record {
      file = file;
      before = behind;
      rest = first.later;
      whole = whole;
      parents = ap (filter (λ e. e.children)) (sym kept_behind) ∙ filter_within keep (λ e. e.children) behind (λ e c on. keeps e on);
    }

    kept_with : filter keep (behind ++ first.item ∷ []) ≡ filter keep g.before ++ first.item ∷ []
    kept_with =
        filter-append keep behind (first.item ∷ []) ∙ ap (λ (ys : List Item). ys ++ filter keep (first.item ∷ [])) kept_behind ∙
        ap (λ (b : Bool). filter keep g.before ++ cond b (first.item ∷ []) []) first.kept

    -- behind it
    pub goes_on : (new : Reached) (answer : Answer) → StandsFor r (filter keep g.before ++ first.item ∷ []) new → answer ≡ answer_of r first.item → Goes r keep new (found ++ answer ∷ []) ts
    goes_on new answer stands is = record {
      before = behind ++ first.item ∷ [];
      rest = first.later;
      whole = append_assoc behind (first.item ∷ []) first.later ∙ whole;
      stands = subst (λ (xs : List Item). StandsFor r xs new) (sym kept_with) stands;
      told = first.others;
      answers = ap (λ (ys : List Answer). ys ++ answer ∷ []) g.answers ∙ ap (λ (a : Answer). map (answer_of r) (filter keep g.before) ++ a ∷ []) is ∙
          sym (map-append (answer_of r) (filter keep g.before) (first.item ∷ [])) ∙ ap (map (answer_of r)) (sym kept_with);
    }

  -- one of them more
  pub one_told : IsOfAFile r.unit → KeepsParents keep → (old : Reached) (found : List Answer) (told : List ToldItem) (i : ℕ) (t : ToldItem) → i < length told → Goes r keep old found (drop i told) →
      (new : Reached) (answer : Answer) (more : List Answer) →
      ((passed : List Item) (d : Item) → StandsFor r passed old → ComesBehind r.unit passed d → IsToldOf r d (get_or told i t) → answer ≡ answer_of r d) →
      ((passed : List Item) (d : Item) → StandsFor r passed old → ComesBehind r.unit passed d → IsToldOf r d (get_or told i t) → StandsFor r (passed ++ d ∷ []) new) →
      more ≡ found ++ answer ∷ [] → Goes r keep new more (drop (i + 1) told)
  one_told file keeps old found told i t lt goes new answer more is stands push =
      let x : ToldItem = get_or told i t in
      let ts : List ToldItem = drop (i + 1) told in
      let next : drop i told ≡ x ∷ ts = rw add-one (drop-cons told i t lt) in
      let g : Goes r keep old found (x ∷ ts) = subst (Goes r keep old found) next goes in
      let d : Item = (first old found x ts g).item in
      let passed : List Item = filter keep g.before in
      let c : ComesBehind r.unit passed d = comes old found x ts g file keeps in
      let toldx : IsToldOf r d x = (first old found x ts g).told in
      subst (λ (ys : List Answer). Goes r keep new ys ts) (sym push) (goes_on old found x ts g new answer (stands passed d g.stands c toldx) (is passed d g.stands c toldx))
