-- Chains, hop by hop.
use Rattle.std.proofs.Common.{◌≡◌, ℕ, zero, suc, ◌+◌, ◌-◌, ◌<◌, Bool, true, false, ◌||◌, List, [], ◌∷◌, ◌++◌, Option, Some, None, option_map, Result, Ok, Err, refl, sym, ap, subst, ◌∙◌, arith, append_assoc, append-nil}
use denote.Ref.{Bor}
use Rattle.std.specs.Prelude.{Contains, filter_map, option_and_then, IsOkAnd}
use Rattle.std.specs.Option.{option_or}
use Rattle.std.specs.List.{cons_option}
use Rattle.std.proofs.lemmas.List.Folds.{list_any-append}
use Rattle.ix_base.specs.declared.fault.Fault.{Fault}
use Rattle.ix_base.specs.declared.code.TheConstants.{BAD_REFERENCE, REFERENCE_CHAIN}
use Rattle.ix_base.specs.declared.limits.TheConstants.{MAX_CHAIN_HOPS}
use Rattle.index_model.specs.Gives.{Stop}
use Rattle.ix_base.specs.declared.or_memory.OrMemory.TheVariants as stops
use Rattle.index_model.specs.declared.shard.Node.{Node}
use Rattle.index_model.specs.declared.shard.Next.{Next}
use Rattle.index_model.specs.Attributes.{Reference, next_reference, has_external, signature_of}
use Rattle.index_model.specs.Chains.{first, next_of, hops_from, chain_of, chain_end, is_external, linkage_name_of}
use Rattle.index_model.specs.Gives.{GivesFor, StopsAs}
use Rattle.index_model.specs.Meaning.{◌>>=◌, fault, at_place, if_some, some_or}
use Rattle.index_model.specs.Parents.{parent_offset}
use Rattle.index_model.specs.Program.{Walked, Program, Located, item_with_offset}
use Rattle.index_model.specs.References.{entry_named, target_of}
use Rattle.index_model.specs.Sections.{Section}
use Rattle.index_model.specs.ShardParts.{IsNodeOf, node_facts, as_next}
use Rattle.index_model.specs.Strings.{own_name, own_linkage_name}
use Rattle.shard_build.specs.Entries.{IsNodeIn, entry_meant}
use Rattle.parent_resolve.specs.declared.chain.Chain.{Chain}
use Rattle.parent_resolve.specs.Chained.{IsChain, IsNext, name_on}
use Rattle.parent_resolve.specs.Followed.{all_entries}
use Rattle.parent_resolve.proofs.Entries.{found_entry}
use Rattle.parent_resolve.proofs.NodeLaws.{node_parts}

-- ---- a node's references

pub record SaysOf (n : Node) (d : Located) : Type 0 where
  pub unit : n.unit ≡ d.home.number
  pub external : n.external ≡ has_external d.item
  pub next : n.next ≡ option_map as_next (next_reference d.item)
  pub signature : n.signature ≡ signature_of d.item

pub says : (ss : List Section) (n : Node) (d : Located) → IsNodeOf ss n d → SaysOf n d
unfolding node_facts
says ss n d h = record {
  unit = ap (λ (x : Node). x.unit) h.facts;
  external = ap (λ (x : Node). x.external) h.facts;
  next = ap (λ (x : Node). x.next) h.facts;
  signature = ap (λ (x : Node). x.signature) h.facts;
}

-- ---- the next entry

pub no_reference : (o : Option Reference) → None ≡ option_map as_next o → o ≡ None
no_reference None h = refl
no_reference (Some r) h = absurd cc

a_reference : (o : Option Reference) (q : Next) → Some q ≡ option_map as_next o → (r : Reference) × (o ≡ Some r) × (q ≡ as_next r)
a_reference None q h = absurd cc
a_reference (Some r) q h = (r, refl, cc)

-- an entry that is meant is one of the program
pub meant_entry : (p : Program) (w : Walked) (r : Reference) (e : Located) → entry_meant p w r ≡ Some e → Contains (all_entries p) e
meant_entry p w r e is = by (target_of p.sections w r) is
  where
    by : (t : Option ℕ) → option_and_then (item_with_offset p) t ≡ Some e → Contains (all_entries p) e
    by None h = absurd cc
    by (Some o) h = (found_entry p o e h).0

-- the node of what is meant
pub meant : (ss : List Section) (n : Node) (o : Option Located) → IsNodeIn ss (Some n) o → (e : Located) × (o ≡ Some e) × IsNodeOf ss n e
meant ss n None h = absurd h
meant ss n (Some e) h = (e, refl, h)

pub nothing_meant : (ss : List Section) (o : Option Located) → IsNodeIn ss None o → o ≡ None
nothing_meant ss None h = refl
nothing_meant ss (Some e) h = absurd h

module _ (p : Program) (next : Option Next) (d : Located) (h : next ≡ option_map as_next (next_reference d.item)) where
  abbrev onwards : Option Reference → Result (Option Located) ℕ
  onwards o = if_some o (λ r. entry_named p d.home r >>= λ target. Ok (Some target))

  -- without a reference nothing comes next
  pub next_none : next ≡ None → next_of p d ≡ Ok None
  unfolding next_of
  next_none is = ap onwards (no_reference (next_reference d.item) (sym is ∙ h))

  module _ (q : Next) (is : next ≡ Some q) where
    pub reference : (r : Reference) × (next_reference d.item ≡ Some r) × (q ≡ as_next r)
    reference = a_reference (next_reference d.item) q (sym is ∙ h)

    abbrev pub r : Reference
    r = reference.0

    pub is_reference : q ≡ as_next r
    is_reference = reference.2

    abbrev as_meant : Option Located → Result (Option Located) ℕ
    as_meant o = some_or o BAD_REFERENCE >>= λ target. Ok (Some target)

    next_meant : next_of p d ≡ as_meant (entry_meant p d.home r)
    unfolding next_of entry_named
    next_meant = ap onwards reference.1

    pub next_some : (e : Located) → entry_meant p d.home r ≡ Some e → next_of p d ≡ Ok (Some e)
    next_some e m = next_meant ∙ ap as_meant m

    pub next_fault : entry_meant p d.home r ≡ None → next_of p d ≡ Err BAD_REFERENCE
    next_fault m = next_meant ∙ ap as_meant m

-- ---- what is kept

end_push : (d : Located) (chain : List Located) (e : Located) → chain_end d (chain ++ e ∷ []) ≡ e
end_push d [] e = refl
end_push d (x ∷ xs) e = end_push x xs e

first_push : (f : Located → Option (List ℕ)) (chain : List Located) (e : Located) → first (filter_map f (chain ++ e ∷ [])) ≡ option_or (first (filter_map f chain)) (f e)
first_push f [] e = by (f e)
  where
    by : (o : Option (List ℕ)) → first (cons_option o []) ≡ o
    by None = refl
    by (Some x) = refl
first_push f (x ∷ xs) e = by (f x) (first_push f xs e)
  where
    by : (o : Option (List ℕ)) → first (filter_map f (xs ++ e ∷ [])) ≡ option_or (first (filter_map f xs)) (f e) → first (cons_option o (filter_map f (xs ++ e ∷ []))) ≡ option_or (first (cons_option o (filter_map f xs))) (f e)
    by None h = h
    by (Some y) h = refl

or_false : (b : Bool) → (b || false) ≡ b
or_false true = refl
or_false false = refl

-- what is kept of one more entry
module _ (p : Program) (d : Located) where
  abbrev seen : Option (Bor (List ℕ)) → Option (List ℕ)
  seen o = option_map (λ t. t.now) o

  seen_or : (x y : Option (Bor (List ℕ))) → seen (option_or x y) ≡ option_or (seen x) (seen y)
  seen_or None y = refl
  seen_or (Some t) y = refl

  pub alone : (n : Node) → IsNodeOf p.sections n d → Contains (all_entries p) d → IsChain p d (record { unit = n.unit; next = n.next; around = n.parent; external = n.external; name = n.name; linkage = n.linkage }) (d ∷ [])
  unfolding is_external linkage_name_of
  alone n h there = record {
    unit = (says p.sections n d h).unit;
    next = (says p.sections n d h).next;
    around = (node_parts p.sections n d h).1;
    there = there;
    external = (says p.sections n d h).external ∙ sym (or_false (has_external d.item));
    name = h.name ∙ sym (first_push (own_name p.sections) [] d);
    linkage = h.linkage ∙ sym (first_push (own_linkage_name p.sections) [] d);
  }

  pub one_more : (c : Chain) (chain : List Located) (n : Node) (e : Located) → IsChain p d c chain → IsNodeOf p.sections n e → Contains (all_entries p) e →
      IsChain p d (record { unit = n.unit; next = n.next; around = n.parent; external = c.external || n.external; name = option_or c.name n.name; linkage = option_or c.linkage n.linkage }) (chain ++ e ∷ [])
  unfolding is_external linkage_name_of
  one_more c chain n e h is there =
      let last = sym (end_push d chain e) in
      record {
        unit = (says p.sections n e is).unit ∙ ap (λ (x : Located). x.home.number) last;
        next = (says p.sections n e is).next ∙ ap (λ (x : Located). option_map as_next (next_reference x.item)) last;
        around = (node_parts p.sections n e is).1 ∙ ap parent_offset last;
        there = subst (Contains (all_entries p)) last there;
        external = ap (λ (b : Bool). b || n.external) h.external ∙ ap (λ (b : Bool). is_external chain || b) ((says p.sections n e is).external ∙ sym (or_false (has_external e.item))) ∙ sym (list_any-append (λ x. has_external x.item) chain (e ∷ []));
        name = seen_or c.name n.name ∙ ap (λ (o : Option (List ℕ)). option_or o (seen n.name)) h.name ∙ ap (option_or (name_on p chain)) is.name ∙ sym (first_push (own_name p.sections) chain e);
        linkage = seen_or c.linkage n.linkage ∙ ap (λ (o : Option (List ℕ)). option_or o (seen n.linkage)) h.linkage ∙ ap (option_or (linkage_name_of p chain)) is.linkage ∙ sym (first_push (own_linkage_name p.sections) chain e);
      }

-- ---- hop by hop

-- so far: the entries behind the first one, and what is left of the hops
pub record SoFar (p : Program) (d : Located) (c : Chain) (hops : ℕ) : Type 0 where
  pub seen : List Located
  pub is : IsChain p d c (d ∷ seen)
  pub left : chain_of p d ≡ (hops_from (MAX_CHAIN_HOPS - hops) p (chain_end d seen) >>= λ others. Ok (d ∷ (seen ++ others)))

module _ (p : Program) (d : Located) where
  pub begins : (c : Chain) → IsChain p d c (d ∷ []) → SoFar p d c 0
  unfolding chain_of
  begins c h = record { seen = []; is = h; left = refl }

  module _ (c : Chain) (hops : ℕ) (h : SoFar p d c hops) where
    pub last : Located
    last = chain_end d h.seen

    abbrev with_seen : List Located → Result (List Located) ℕ
    with_seen others = Ok (d ∷ (h.seen ++ others))

    abbrev end_of : ℕ → Result (List Located) ℕ
    end_of n = hops_from n p (chain_end d h.seen) >>= with_seen

    ended : (n : ℕ) → next_of p (chain_end d h.seen) ≡ Ok None → hops_from n p (chain_end d h.seen) ≡ Ok []
    unfolding hops_from
    ended zero is = rw is refl
    ended (suc n) is = rw is refl

    -- the chain ends where nothing comes next
    pub ends : next_of p (chain_end d h.seen) ≡ Ok None → chain_of p d ≡ Ok (d ∷ h.seen)
    ends is = h.left ∙ ap (λ (r : Result (List Located) ℕ). r >>= with_seen) (ended (MAX_CHAIN_HOPS - hops) is) ∙ ap (λ (xs : List Located). let r : Result (List Located) ℕ = Ok (d ∷ xs) in r) (append-nil h.seen)

    broken : (n code : ℕ) → next_of p (chain_end d h.seen) ≡ Err code → hops_from n p (chain_end d h.seen) ≡ Err code
    unfolding hops_from
    broken zero code is = rw is refl
    broken (suc n) code is = rw is refl

    -- a reference that names no entry is the chain's fault
    pub breaks : (code : ℕ) → next_of p (chain_end d h.seen) ≡ Err code → chain_of p d ≡ Err code
    breaks code is = h.left ∙ ap (λ (r : Result (List Located) ℕ). r >>= with_seen) (broken (MAX_CHAIN_HOPS - hops) code is)

    module _ (e : Located) (is : next_of p (chain_end d h.seen) ≡ Ok (Some e)) where
      too_far : (n : ℕ) → n ≡ 0 → hops_from n p (chain_end d h.seen) ≡ Err REFERENCE_CHAIN
      unfolding hops_from
      too_far zero none = rw is refl
      too_far (suc n) none = absurd (omega arith)

      -- where no hop is left, one more is a fault
      pub too_long : hops ≡ MAX_CHAIN_HOPS → chain_of p d ≡ Err REFERENCE_CHAIN
      too_long all = h.left ∙ ap (λ (r : Result (List Located) ℕ). r >>= with_seen) (too_far (MAX_CHAIN_HOPS - hops) (omega (arith, all)))

      abbrev after : List Located
      after = h.seen ++ e ∷ []

      abbrev with_after : List Located → Result (List Located) ℕ
      with_after others = Ok (d ∷ (after ++ others))

      hopped : (n k : ℕ) → n ≡ suc k → end_of n ≡ (hops_from k p e >>= with_after)
      unfolding hops_from
      hopped zero k one = absurd (omega arith)
      hopped (suc n) k one = rw is (by (hops_from n p e) ∙ ap (λ (i : ℕ). hops_from i p e >>= with_after) same)
        where
          same : n ≡ k
          same = omega (arith, one)

          by : (r : Result (List Located) ℕ) → ((r >>= λ others. Ok (e ∷ others)) >>= with_seen) ≡ (r >>= with_after)
          by (Ok xs) = ap (λ (ys : List Located). let r : Result (List Located) ℕ = Ok (d ∷ ys) in r) (sym (append_assoc h.seen (e ∷ []) xs))
          by (Err code) = refl

      -- and with a hop left the chain goes on behind it
      pub hops_on : (k : Chain) → hops < MAX_CHAIN_HOPS → IsChain p d k ((d ∷ h.seen) ++ e ∷ []) → SoFar p d k (hops + 1)
      hops_on k few own = record {
        seen = after;
        is = own;
        left = h.left ∙ hopped (MAX_CHAIN_HOPS - hops) (MAX_CHAIN_HOPS - (hops + 1)) (omega (arith, few)) ∙ ap (λ (x : Located). hops_from (MAX_CHAIN_HOPS - (hops + 1)) p x >>= with_after) (sym (end_push d h.seen e));
      }

  -- nothing follows an entry without a reference
  pub alone_ends : next_of p d ≡ Ok None → chain_of p d ≡ Ok (d ∷ [])
  unfolding chain_of hops_from
  alone_ends is = rw is refl

-- ---- answers

pub gives_for : {X Y : Type 0} (R : X → Y → Type 0) (x : X) (y : Y) (m : Result Y Fault) → m ≡ Ok y → R x y → IsOkAnd m (R x)
gives_for {Y = Y} R x y m is h = subst (λ (r : Result Y Fault). IsOkAnd r (R x)) (sym is) h

-- and what an answer says
pub given_for : {X Y : Type 0} (R : X → Y → Type 0) (x : X) (at : ℕ) (m : Result Y ℕ) → IsOkAnd (at_place at m) (R x) → (y : Y) × (m ≡ Ok y) × R x y
given_for R x at (Ok y) h = (y, refl, h)
given_for R x at (Err code) h = absurd h

pub stopped_for : {Y : Type 0} (at : ℕ) (m : Result Y ℕ) (f : Fault) → at_place at m ≡ Err f → (code : ℕ) × (m ≡ Err code) × (f ≡ fault code at)
stopped_for at (Ok y) f h = absurd cc
stopped_for at (Err code) f h = (code, refl, cc)

-- a fault of a part is that of the whole
pub stops_like : {Y Z : Type 0} (at : ℕ) (m : Result Y ℕ) (k : Result Z ℕ) → ((code : ℕ) → m ≡ Err code → k ≡ Err code) → (s : Stop) → StopsAs s (at_place at m) → StopsAs s (at_place at k)
stops_like at m k same stops.Memory h = tt
stops_like {Z = Z} at m k same (stops.Cause f) h = let e = stopped_for at m f h in ap (at_place at) (same e.0 e.1) ∙ ap {B = Result Z Fault} (λ (x : Fault). Err x) (sym e.2)

pub stops_at : {Z : Type 0} (at code : ℕ) (k : Result Z ℕ) (s : Stop) → s ≡ stops.Cause (record { code = code; at = at }) → k ≡ Err code → StopsAs s (at_place at k)
stops_at at code k s is same = subst (λ (x : Stop). StopsAs x (at_place at k)) (sym is) (ap (at_place at) same)

-- what came next
module _ (p : Program) (at : ℕ) (m : Result (Option Located) ℕ) (o : Option Node) where
  pub was_next : (n : Node) → o ≡ Some n → IsOkAnd (at_place at m) (IsNext p o) → (e : Located) × (m ≡ Ok (Some e)) × IsNext p (Some n) (Some e)
  was_next n is h = let g = given_for (IsNext p) (Some n) at m (subst (λ (x : Option Node). IsOkAnd (at_place at m) (IsNext p x)) is h) in by g.0 g.1 g.2
    where
      by : (x : Option Located) → m ≡ Ok x → IsNext p (Some n) x → (e : Located) × (m ≡ Ok (Some e)) × IsNext p (Some n) (Some e)
      by None same no_ = absurd no_
      by (Some e) same h = (e, same, h)

  pub was_none : o ≡ None → IsOkAnd (at_place at m) (IsNext p o) → m ≡ Ok None
  was_none is h = let g = given_for (IsNext p) None at m (subst (λ (x : Option Node). IsOkAnd (at_place at m) (IsNext p x)) is h) in by g.0 g.1 g.2
    where
      by : (x : Option Located) → m ≡ Ok x → IsNext p None x → m ≡ Ok None
      by None same h = same
      by (Some e) same no_ = absurd no_

pub gives_stop : {X Y : Type 0} (R : X → Y → Type 0) (r : Result X Stop) (s : Stop) (m : Result Y Fault) → r ≡ Err s → StopsAs s m → GivesFor R r m
gives_stop {X = X} R r s m is h = subst (λ (x : Result X Stop). GivesFor R x m) (sym is) h
