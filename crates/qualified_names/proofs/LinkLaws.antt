-- What is known of the link of an indexed entry.
use Rattle.std.proofs.Common.{◌≡◌, ℕ, ◌≤◌, Bool, true, not, ◌&&◌, ◌||◌, List, [], ◌-◌, length, length-drop, unwrap_or, Option, Some, None, option_map, Result, Ok, Err, refl, sym, ap, subst, ◌∙◌, arith}
use Rattle.std.specs.Prelude.{IfOk, OnOk, is_some}
use Rattle.std.proofs.lemmas.Bool.{true≢false, and_parts, leb-true}
use Rattle.ix_base.specs.declared.code.TheConstants.{NAME_TOO_LONG}
use Rattle.ix_base.specs.declared.limits.TheConstants.{MAX_QUALIFIED_NAME}
use Rattle.ix_base.specs.declared.fault.Fault.{Fault}
use Rattle.ix_base.specs.declared.or_memory.OrMemory.TheVariants as stops
use Rattle.index_model.specs.declared.shard.LinkedEntry.{LinkedEntry}
use Rattle.index_model.specs.Attributes.{is_declaration}
use Rattle.index_model.specs.Chains.{chain_of, chain_end, spelled_name}
use Rattle.index_model.specs.Entries.{entry_of}
use Rattle.index_model.specs.Gives.{StopsAs}
use Rattle.index_model.specs.Languages.{class_of_unit}
use Rattle.index_model.specs.Links.{Link, facts_of, is_link_indexed, is_within_limit, link_of, name_in, qualified_of}
use Rattle.index_model.specs.Meaning.{◌>>=◌, ◌>>◌, at_place, holds_or}
use Rattle.index_model.specs.Names.{Member, qualified_name, scope_path, simple_name}
use Rattle.index_model.specs.Program.{Program, Located}
use Rattle.index_model.specs.Rules.{row_allows, row_of}
use Rattle.index_model.specs.Shards.{length_of}
use Rattle.index_model.proofs.Meanings.{bind_ok, holds_ok, same_ok}
use Rattle.index_model.proofs.SimpleNames.{simple_name_ends}
use Rattle.parent_resolve.proofs.ChainEnds.{end_there}
use Rattle.qualified_names.specs.Indexed.{IsAroundEnd, IsIndexed}

-- ---- the parts of a link

pub record LinkParts (p : Program) (d : Located) (k : Link) : Type 0 where
  pub entry : k.entry ≡ d
  pub class : k.class ≡ class_of_unit p d.home
  pub chain : chain_of p d ≡ Ok k.chain
  pub spelled : spelled_name p d k.chain ≡ Ok k.spelled
  pub path : scope_path p (chain_end d k.chain) ≡ Ok k.path
  pub within : (not (is_link_indexed k) || is_within_limit (qualified_of k)) ≡ true

module _ (p : Program) (d : Located) where
  abbrev made : List Located → Option (List ℕ) → List Member → Link
  made chain spelled path = record { entry = d; class = class_of_unit p d.home; chain = chain; spelled = spelled; path = path }

  abbrev fits : Link → Bool
  fits k = not (is_link_indexed k) || is_within_limit (qualified_of k)

  abbrev tested : List Located → Option (List ℕ) → List Member → Result Link ℕ
  tested chain spelled path = holds_or (fits (made chain spelled path)) NAME_TOO_LONG >> Ok (made chain spelled path)

  abbrev with_path : List Located → Option (List ℕ) → Result Link ℕ
  with_path chain spelled = scope_path p (chain_end d chain) >>= tested chain spelled

  pub link_parts : (k : Link) → link_of p d ≡ Ok k → LinkParts p d k
  unfolding link_of
  link_parts k is =
      let a = bind_ok (chain_of p d) (λ chain. spelled_name p d chain >>= with_path chain) k is in
      let b = bind_ok (spelled_name p d a.0) (with_path a.0) k a.2 in
      let c = bind_ok (scope_path p (chain_end d a.0)) (tested a.0 b.0) k b.2 in
      let h = holds_ok (fits (made a.0 b.0 c.0)) NAME_TOO_LONG (Ok (made a.0 b.0 c.0)) k c.2 in
      subst (LinkParts p d) (same_ok (made a.0 b.0 c.0) k h.1) (record { entry = refl; class = refl; chain = a.1; spelled = b.1; path = c.1; within = h.0 })

-- what isn't wrong doesn't stop as a fault
pub no_fault : {A : Type 0} (f : Fault) (at : ℕ) (r : Result A ℕ) (x : A) → r ≡ Ok x → StopsAs (stops.Cause f) (at_place at r) → ⊥
no_fault {A = A} f at r x is h = let never : Ok x ≡ Err f = ap (λ (s : Result A ℕ). at_place at s) (sym is) ∙ h in absurd cc

-- ---- the name

is_given : (k : Link) → is_link_indexed k ≡ true → is_some (name_in k) ≡ true
unfolding facts_of
is_given k on =
    let front = true && not (is_declaration k.entry.item) in
    let a = and_parts (front && is_some (name_in k)) (row_allows (facts_of k) (row_of k.entry.item.tag)) on in
    (and_parts front (is_some (name_in k)) a.0).1

-- an indexed entry has a name
pub has_name : (k : Link) → is_link_indexed k ≡ true → (name : List ℕ) × (name_in k ≡ Some name)
has_name k on = by (name_in k) refl (is_given k on)
  where
    by : (o : Option (List ℕ)) → name_in k ≡ o → is_some o ≡ true → (name : List ℕ) × (name_in k ≡ Some name)
    by (Some name) e h = (name, e)
    by None e h = absurd (true≢false (sym h))

-- the qualified name of an indexed entry
pub record IsNamed (k : Link) (name : List ℕ) : Type 0 where
  pub qualified : qualified_of k ≡ Some (qualified_name k.class k.path name)
  pub simple : length (simple_name k.class name) ≤ length (qualified_name k.class k.path name)
  pub short : length (qualified_name k.class k.path name) ≤ MAX_QUALIFIED_NAME
  pub tail : unwrap_or (option_map (simple_name k.class) (name_in k)) [] ≡ simple_name k.class name

pub named : (k : Link) (name : List ℕ) → name_in k ≡ Some name → is_link_indexed k ≡ true → (not (is_link_indexed k) || is_within_limit (qualified_of k)) ≡ true → IsNamed k name
unfolding entry_of
named k name is on within =
    let q = qualified_name k.class k.path name in
    let qualified : qualified_of k ≡ Some q = ap (option_map (qualified_name k.class k.path)) is in
    let ends = simple_name_ends k in
    let tail : unwrap_or (option_map (simple_name k.class) (name_in k)) [] ≡ simple_name k.class name = ap (λ (o : Option (List ℕ)). unwrap_or (option_map (simple_name k.class) o) []) is in
    let all : unwrap_or (qualified_of k) [] ≡ q = ap (λ (o : Option (List ℕ)). unwrap_or o []) qualified in
    let limit : is_within_limit (qualified_of k) ≡ true = sym (ap (λ (b : Bool). not b || is_within_limit (qualified_of k)) on) ∙ within in
    record {
      qualified = qualified;
      simple = omega (arith, ap length (sym tail), ap length ends, ap length all, length-drop (length (entry_of k).name - (entry_of k).tail) (entry_of k).name);
      short = leb-true (length q) MAX_QUALIFIED_NAME (ap is_within_limit (sym qualified) ∙ limit);
      tail = tail;
    }

module _ (p : Program) (x : LinkedEntry) (k : Link) (h : IsIndexed p x k) where
  pub parts : LinkParts p k.entry k
  parts = link_parts p k.entry k h.own

  pub is_named : IsNamed k x.name.now
  is_named = named k x.name.now h.links.name h.indexed parts.within

  -- the length that the links keep is that of the qualified name
  pub length_is : x.length ≡ length (qualified_name k.class k.path x.name.now)
  length_is = h.links.length ∙ ap length_of is_named.qualified

  -- the last entry of the chain, and what is around it
  pub is_around_end : IsAroundEnd p k x.around
  is_around_end = record { there = end_there p k.entry h.there k.chain parts.chain; is = h.links.around }

pub if_ok : {A E : Type 0} (P Q : A → Type 0) (r : Result A E) → ((x : A) → P x → Q x) → IfOk r P → IfOk r Q
if_ok P Q (Ok x) f h = f x h
if_ok P Q (Err e) f h = h

pub on_ok : {A E : Type 0} (P Q : Type 0) (r : Result A E) → (P → Q) → OnOk r P → OnOk r Q
on_ok P Q (Ok x) f h = f h
on_ok P Q (Err e) f h = h
