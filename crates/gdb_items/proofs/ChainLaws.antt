-- Chains, target by target.
use Rattle.std.proofs.Common.{◌≡◌, ℕ, zero, suc, ◌+◌, ◌-◌, ◌<◌, Bool, true, false, cond, ◌||◌, List, [], ◌∷◌, ◌++◌, length, Option, Some, None, refl, sym, ap, subst, ◌∙◌, arith, append_assoc, append-nil, length-append}
use Rattle.std.specs.Prelude.{filter_map, is_some, option_and_then, option_map, IfOk, Result, Ok, Err}
use Rattle.std.specs.Borrow.{Bor}
use Rattle.std.specs.Option.{option_or}
use Rattle.std.specs.List.{list_any, cons_option}
use Rattle.std.proofs.lemmas.List.Elements.{filter_map-append}
use Rattle.std.proofs.lemmas.List.Folds.{list_any-append}
use Rattle.ix_base.specs.declared.limits.TheConstants.{MAX_CHAIN_HOPS}
use Rattle.index_model.specs.Attributes.{Reference, has_external}
use Rattle.index_model.specs.Chains.{first}
use Rattle.index_model.specs.Program.{Program, Located, item_with_offset}
use Rattle.index_model.specs.References.{target_of}
use Rattle.index_model.specs.Sections.{Section}
use Rattle.index_model.specs.Strings.{own_linkage_name}
use Rattle.gdb_entries.specs.Chains.{facts_of, origin_of, next_of, with_others, targets_from, targets_of, linkage_of, is_external, is_scoped}
use Rattle.gdb_entries.specs.declared.item.ItemFacts.{ItemFacts}
use Rattle.gdb_entries.specs.Rules.{gives_scope_alone}
use Rattle.gdb_items.specs.declared.chain.Chain.{Chain}
use Rattle.gdb_items.specs.declared.item.UnitItem.{UnitItem}
use Rattle.gdb_items.specs.Chains.{IsChainOf, IsToldOf}
use Rattle.gdb_items.specs.Files.{IsItemIn}
use Rattle.gdb_items.specs.Items.{IsItemOf}

-- ---- the next target

-- what the item's origin names is the next item
pub next_is : (p : Program) (i : UnitItem) (d : Located) → IsItemOf p.sections i d → next_of p d ≡ option_and_then (item_with_offset p) i.origin
unfolding next_of
next_is p i d h = named (origin_of d.item) ∙ ap (option_and_then (item_with_offset p)) (sym h.origin)
  where
    named : (o : Option Reference) → option_and_then (λ (r : Reference). option_and_then (item_with_offset p) (target_of p.sections d.home r)) o ≡ option_and_then (item_with_offset p) (option_and_then (target_of p.sections d.home) o)
    named None = refl
    named (Some r) = refl

-- ---- a list with one more

first_later : {A : Type 0} (xs : List A) (o : Option A) → first (xs ++ cons_option o []) ≡ option_or (first xs) o
first_later [] None = refl
first_later [] (Some y) = refl
first_later (x ∷ xs) o = refl

pub first_more : {A B : Type 0} (f : A → Option B) (xs : List A) (y : A) → first (filter_map f (xs ++ y ∷ [])) ≡ option_or (first (filter_map f xs)) (f y)
first_more f xs y = ap first (filter_map-append f xs (y ∷ [])) ∙ first_later (filter_map f xs) (f y)

or_nothing : (a b : Bool) → (a || (b || false)) ≡ (a || b)
or_nothing true b = refl
or_nothing false true = refl
or_nothing false false = refl

pub any_more : {A : Type 0} (f : A → Bool) (xs : List A) (y : A) → list_any f (xs ++ y ∷ []) ≡ (list_any f xs || f y)
any_more f xs y = list_any-append f xs (y ∷ []) ∙ or_nothing (list_any f xs) (f y)

-- ---- the loop

-- these targets were passed, and those behind the last item are still to come
pub record IsFollowedTo (p : Program) (d : Located) (c : Chain) (last : UnitItem) : Type 0 where
  pub passed : List Located
  pub item : Located
  pub told : IsToldOf p.sections d passed c
  pub is : IsItemOf p.sections last item
  pub few : length passed < 9
  pub whole : targets_from MAX_CHAIN_HOPS p d ≡ passed ++ targets_from (8 - length passed) p item

pub follow_none : (p : Program) (d : Located) (c : Chain) (i : UnitItem) → IsItemOf p.sections i d → IsToldOf p.sections d [] c → IsFollowedTo p d c i
follow_none p d c i is told = record { passed = []; item = d; told = told; is = is; few = omega arith; whole = refl }

-- without a target nothing more comes
nothing_behind : (p : Program) (n : ℕ) (e : Located) → next_of p e ≡ None → targets_from n p e ≡ []
unfolding targets_from
nothing_behind p zero e none = refl
nothing_behind p (suc n) e none = ap (λ (o : Option Located). with_others o (λ (x : Located). targets_from n p x)) none

-- with one it comes first
one_behind : (p : Program) (n : ℕ) (e x : Located) → next_of p e ≡ Some x → targets_from (suc n) p e ≡ x ∷ targets_from n p x
unfolding targets_from
one_behind p n e x some = ap (λ (o : Option Located). with_others o (λ (y : Located). targets_from n p y)) some

no_hops : (p : Program) (e : Located) → targets_from 0 p e ≡ []
unfolding targets_from
no_hops p e = refl

module _ (p : Program) (d : Located) (c : Chain) (last : UnitItem) (h : IsFollowedTo p d c last) where
  all_told : targets_from (8 - length h.passed) p h.item ≡ [] → IsToldOf p.sections d (targets_from MAX_CHAIN_HOPS p d) c
  all_told none = subst (λ (es : List Located). IsToldOf p.sections d es c) (sym (h.whole ∙ ap (λ (es : List Located). h.passed ++ es) none ∙ append-nil h.passed)) h.told

  -- the chain ends where nothing is named
  pub follow_end : next_of p h.item ≡ None → IsToldOf p.sections d (targets_from MAX_CHAIN_HOPS p d) c
  follow_end none = all_told (nothing_behind p (8 - length h.passed) h.item none)

  -- and behind 8 targets
  pub follow_full : length h.passed ≡ 8 → IsToldOf p.sections d (targets_from MAX_CHAIN_HOPS p d) c
  follow_full full = all_told (ap (λ (n : ℕ). targets_from n p h.item) (let none : 8 - length h.passed ≡ 0 = omega (arith, full) in none) ∙ no_hops p h.item)

  -- one target more
  pub follow_one : (x : Located) → next_of p h.item ≡ Some x → length h.passed < 8 → (target : UnitItem) → IsItemOf p.sections target x → (more : Chain) → IsToldOf p.sections d (h.passed ++ x ∷ []) more → IsFollowedTo p d more target
  follow_one x some few target is more told =
      let long : length (h.passed ++ x ∷ []) ≡ length h.passed + 1 = length-append h.passed (x ∷ []) in
      let left : 8 - length h.passed ≡ suc (8 - length (h.passed ++ x ∷ [])) = omega (arith, few, long) in
      let rest = targets_from (8 - length (h.passed ++ x ∷ [])) p x in
      let step : targets_from (8 - length h.passed) p h.item ≡ x ∷ rest = ap (λ (n : ℕ). targets_from n p h.item) left ∙ one_behind p (8 - length (h.passed ++ x ∷ [])) h.item x some in
      record {
        passed = h.passed ++ x ∷ [];
        item = x;
        told = told;
        is = is;
        few = omega (arith, few, long);
        whole = h.whole ∙ ap (λ (es : List Located). h.passed ++ es) step ∙ sym (append_assoc h.passed (x ∷ []) rest);
      }

-- ---- the chain of an item

-- where each target is followed what is told of these is what the chain gives
pub chain_told : (p : Program) (d : Located) (c : Chain) → gives_scope_alone (facts_of d.item) ≡ false → IsToldOf p.sections d (targets_from MAX_CHAIN_HOPS p d) c → IsChainOf p d c
unfolding targets_of is_external is_scoped
chain_told p d c off told = by (sym (ap (λ (b : Bool). cond b [] (targets_from MAX_CHAIN_HOPS p d)) off))
  where
    by : targets_from MAX_CHAIN_HOPS p d ≡ targets_of p d → IsChainOf p d c
    by same = let here = subst (λ (es : List Located). IsToldOf p.sections d es c) same told in record { name = here.name; place = here.place; external = here.external; scoped = here.scoped; targets = here.targets }

-- of one that gives scope alone the chain is the item
pub scope_told : (p : Program) (d : Located) (c : Chain) → gives_scope_alone (facts_of d.item) ≡ true → IsToldOf p.sections d [] c → IsChainOf p d c
unfolding targets_of is_external is_scoped
scope_told p d c on told = by (sym (ap (λ (b : Bool). cond b [] (targets_from MAX_CHAIN_HOPS p d)) on))
  where
    by : [] ≡ targets_of p d → IsChainOf p d c
    by same = let here = subst (λ (es : List Located). IsToldOf p.sections d es c) same told in record { name = here.name; place = here.place; external = here.external; scoped = here.scoped; targets = here.targets }

-- ---- an item that was sought

pub none_there : (ss : List Section) (o : Option Located) → IsItemIn ss None o → o ≡ None
none_there ss None h = refl
none_there ss (Some d) h = absurd h

pub one_there : (ss : List Section) (i : UnitItem) (o : Option Located) → IsItemIn ss (Some i) o → (d : Located) × (o ≡ Some d) × IsItemOf ss i d
one_there ss i None h = absurd h
one_there ss i (Some d) h = (d, refl, h)

-- ---- what one item adds

pub both : {A B C : Type 0} (f : A → B → C) {x y : A} {u v : B} → x ≡ y → u ≡ v → f x u ≡ f y v
both f {x = x} {v = v} e g = ap (f x) g ∙ ap (λ a. f a v) e

pub external_is : (ss : List Section) (i : UnitItem) (d : Located) → IsItemOf ss i d → i.facts.external ≡ has_external d.item
unfolding facts_of
external_is ss i d h = ap (λ (f : ItemFacts). f.external) h.facts

pub first_one : {A : Type 0} (o : Option A) → first (cons_option o []) ≡ o
first_one None = refl
first_one (Some x) = refl

pub or_false : (b : Bool) → b ≡ (b || false)
or_false true = refl
or_false false = refl

-- so where memory suffices
pub told_in : {E : Type 0} (p : Program) (d : Located) → gives_scope_alone (facts_of d.item) ≡ false → (r : Result Chain E) → IfOk r (IsToldOf p.sections d (targets_from MAX_CHAIN_HOPS p d)) → IfOk r (IsChainOf p d)
told_in p d off (Ok c) told = chain_told p d c off told
told_in p d off (Err e) told = tt

-- ---- linkage names

pub none_of : {X Y : Type 0} (f : X → Y) (o : Option X) → is_some o ≡ false → None ≡ option_map f o
none_of f None e = refl
none_of f (Some x) e = absurd cc

first_of : {B : Type 0} (o : Option B) (ys : List B) → first (cons_option o ys) ≡ option_or o (first ys)
first_of None ys = refl
first_of (Some y) ys = refl

module _ (p : Program) (d : Located) where
  -- the first linkage name of an item and n targets of its chain at most
  abbrev pub linkage_to : ℕ → Option (List ℕ)
  linkage_to n = first (filter_map (own_linkage_name p.sections) (d ∷ targets_from n p d))

  -- its own is first
  pub linkage_own : {X : Type 0} (f : X → List ℕ) (n : ℕ) (own : Option X) → option_map f own ≡ own_linkage_name p.sections d → is_some own ≡ true → option_map f own ≡ linkage_to n
  linkage_own f n None is h = absurd cc
  linkage_own f n (Some x) is h = ap (λ (o : Option (List ℕ)). option_or o (first (filter_map (own_linkage_name p.sections) (targets_from n p d)))) is ∙ sym (first_of (own_linkage_name p.sections d) (filter_map (own_linkage_name p.sections) (targets_from n p d)))

  -- without targets there is no other
  pub linkage_last : (n : ℕ) (own : Option (List ℕ)) → own ≡ own_linkage_name p.sections d → n ≡ 0 → own ≡ linkage_to n
  linkage_last n own is none = is ∙ sym (first_one (own_linkage_name p.sections d)) ∙ ap (λ (es : List Located). first (filter_map (own_linkage_name p.sections) (d ∷ es))) (sym (ap (λ (k : ℕ). targets_from k p d) none ∙ no_hops p d))

  -- it is that of the targets where it has none itself
  pub linkage_behind : (n m : ℕ) (e : Located) → None ≡ own_linkage_name p.sections d → next_of p d ≡ Some e → n ≡ suc m → linkage_to n ≡ first (filter_map (own_linkage_name p.sections) (e ∷ targets_from m p e))
  linkage_behind n m e none some more =
      first_of (own_linkage_name p.sections d) (filter_map (own_linkage_name p.sections) (targets_from n p d))
      ∙ ap (λ (o : Option (List ℕ)). option_or o (first (filter_map (own_linkage_name p.sections) (targets_from n p d)))) (sym none)
      ∙ ap (λ (es : List Located). first (filter_map (own_linkage_name p.sections) es)) (ap (λ (k : ℕ). targets_from k p d) more ∙ one_behind p m d e some)

  pub no_linkage_behind : (n : ℕ) → None ≡ own_linkage_name p.sections d → next_of p d ≡ None → None ≡ linkage_to n
  no_linkage_behind n none end =
      none ∙ sym (first_one (own_linkage_name p.sections d))
      ∙ ap (λ (es : List Located). first (filter_map (own_linkage_name p.sections) (d ∷ es))) (sym (nothing_behind p n d end))

  -- of one that gives scope alone it is its own
  pub linkage_alone : gives_scope_alone (facts_of d.item) ≡ true → own_linkage_name p.sections d ≡ linkage_of p d
  unfolding linkage_of targets_of
  linkage_alone on = sym (ap (λ (b : Bool). first (filter_map (own_linkage_name p.sections) (d ∷ cond b [] (targets_from MAX_CHAIN_HOPS p d)))) on ∙ first_one (own_linkage_name p.sections d))

  -- elsewhere each target is followed
  linkage_whole : gives_scope_alone (facts_of d.item) ≡ false → linkage_to MAX_CHAIN_HOPS ≡ linkage_of p d
  unfolding linkage_of targets_of
  linkage_whole off = sym (ap (λ (b : Bool). first (filter_map (own_linkage_name p.sections) (d ∷ cond b [] (targets_from MAX_CHAIN_HOPS p d)))) off)

  pub linkage_in : {E : Type 0} → gives_scope_alone (facts_of d.item) ≡ false → (r : Result (Option (Bor (List ℕ))) E) → IfOk r (λ l. option_map (λ b. b.now) l ≡ linkage_to MAX_CHAIN_HOPS) → IfOk r (λ l. option_map (λ b. b.now) l ≡ linkage_of p d)
  linkage_in off (Ok l) is = is ∙ linkage_whole off
  linkage_in off (Err e) is = tt
