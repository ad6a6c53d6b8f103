-- A declaration that refers to no other entry isn't indexed, and nothing is wrong with its references.
use Rattle.std.proofs.Common.{◌≡◌, ℕ, ◌<◌, Bool, true, false, not, ◌&&◌, List, [], ◌∷◌, Option, Some, None, Result, Ok, Err, refl, sym, ap, ◌∙◌, length, arith}
use Rattle.std.specs.Prelude.{Contains, IfSome, IsOkAnd, filter_map, slice_get}
use Rattle.index_model.specs.declared.shard.LinkedEntry.{LinkedEntry}
use Rattle.index_model.specs.declared.shard.Node.{Node}
use Rattle.index_model.specs.Attributes.{is_declaration, next_reference, signature_of}
use Rattle.index_model.specs.Chains.{first, name_by_signature, next_of, spelled_name}
use Rattle.index_model.specs.Faults.{program_of}
use Rattle.index_model.specs.Links.{Link, facts_of, is_link_indexed, link_of}
use Rattle.index_model.specs.Meaning.{at_place}
use Rattle.index_model.specs.NodeSeen.{NodeSeen, IsDeclaredIn}
use Rattle.index_model.specs.Parents.{parent_offset}
use Rattle.index_model.specs.Program.{Program, Located}
use Rattle.index_model.specs.ShardParts.{IsSeenOf, node_facts}
use Rattle.index_model.specs.Strings.{own_name}
use Rattle.shard_build.specs.Entries.{EntriesOf}
use Rattle.parent_resolve.specs.EntryLinks.{IsEntryOf, link_with}
use Rattle.parent_resolve.specs.Followed.{Named, all_entries, followed_of}
use Rattle.parent_resolve.specs.Paths.{IsPassedOver}
use Rattle.parent_resolve.specs.Runs.{is_followed, links_at, AddsLinks, IsLinkedNode}
use Rattle.parent_resolve.specs.Scopes.{IsScope}
use Rattle.index_model.specs.Names.{Member, scope_path}
use Rattle.parent_resolve.proofs.ChainLaws.{alone_ends, no_reference}
use Rattle.parent_resolve.proofs.LinkParts.{link_is, not_indexed}
use Rattle.parent_resolve.proofs.NodeLaws.{seen_parts}
use Rattle.parent_resolve.proofs.NodeLinks.{follows, skips}
use Rattle.parent_resolve.proofs.PlaceLaws.{past}
use Rattle.parent_resolve.proofs.RunLinks.{adds_given, grown_none}

-- a declaration isn't indexed
off : (visited named rest declaration : Bool) → declaration ≡ true → (((visited && not declaration) && named) && rest) ≡ false
off true named rest d is = rw is refl
off false named rest d is = refl

in_ok : {A : Type 0} (P : A → Type 0) (r : Result A ℕ) → IsOkAnd r P → (x : A) × (r ≡ Ok x) × P x
in_ok P (Ok x) h = (x, refl, h)
in_ok P (Err e) h = absurd h

-- what holds of a node, if there is one, holds of the one that is there
pub there_in : (P : NodeSeen → Type 0) (xs : List NodeSeen) (k : ℕ) → k < length xs → IfSome (slice_get xs k) P → (x : NodeSeen) × (slice_get xs k ≡ Some x) × P x
there_in P xs k within h = by (slice_get xs k) refl h
  where
    by : (o : Option NodeSeen) → slice_get xs k ≡ o → IfSome o P → (x : NodeSeen) × (slice_get xs k ≡ Some x) × P x
    by (Some x) is own = (x, is, own)
    by None is own = absurd (let end = past xs k is in omega (arith, end, within))

module _ (p : Program) (d : Located) (n : NodeSeen) (seen : IsSeenOf p.sections n d) (parent : ℕ) (is : IsDeclaredIn parent n) where
  next : next_of p d ≡ Ok None
  unfolding node_facts next_of
  next =
      let none : next_reference d.item ≡ None = no_reference (next_reference d.item) (sym is.next ∙ ap (λ (x : Node). x.next) seen.facts) in
      rw none refl

  signature : signature_of d.item ≡ None
  unfolding node_facts
  signature = sym (ap (λ (x : Node). x.signature) seen.facts) ∙ is.signature

  declaration : is_declaration d.item ≡ true
  unfolding node_facts
  declaration = sym (ap (λ (x : Node). x.declaration) seen.facts) ∙ is.declaration

  pub around : parent_offset d ≡ Some parent
  around = sym (seen_parts p.sections n d seen).1 ∙ is.parent_

  spelled : (s : Option (List ℕ)) × (spelled_name p d (d ∷ []) ≡ Ok s)
  unfolding spelled_name name_by_signature
  spelled = by (first (filter_map (own_name p.sections) (d ∷ []))) refl
    where
      by : (o : Option (List ℕ)) → first (filter_map (own_name p.sections) (d ∷ [])) ≡ o → (s : Option (List ℕ)) × (spelled_name p d (d ∷ []) ≡ Ok s)
      by (Some t) own = (Some t, rw own refl)
      by None own = (None, rw (own, signature) refl)

  abbrev named : Named
  named = record { chain = d ∷ []; spelled = spelled.0 }

  followed : followed_of p d ≡ Ok named
  unfolding followed_of
  followed = rw (alone_ends p d next, spelled.1) refl

  -- with a path its link is that of an entry that isn't indexed
  link : (path : List Member) → scope_path p d ≡ Ok path → IsOkAnd (at_place d.item.at (link_of p d)) (IsEntryOf p None)
  unfolding facts_of
  link path own =
      let k : Link = link_with p d named path in
      let no : is_link_indexed k ≡ false = off true _ _ (is_declaration d.item) declaration in
      rw (link_is p d named followed path own) (not_indexed p d named path no)

  pub adds_nothing : (path : List Member) → scope_path p d ≡ Ok path → (es : List LinkedEntry) → IsOkAnd (links_at p (d ∷ [])) (AddsLinks p es es)
  adds_nothing path own es =
      let one : IsOkAnd (links_at p (d ∷ [])) (IsLinkedNode p None) = by (is_followed p d) refl in
      adds_given p None es es (links_at p (d ∷ [])) (grown_none es None es refl refl) one
    where
      by : (b : Bool) → is_followed p d ≡ b → IsOkAnd (links_at p (d ∷ [])) (IsLinkedNode p None)
      by true on = follows p d on (Ok None) (link path own)
      by false not_on = skips p d not_on

-- what is passed over adds nothing
pub passed_over : (e : EntriesOf) (p : Program) (d : Located) (n : NodeSeen) → program_of e.image.file ≡ Ok p → Contains (all_entries p) d → IsSeenOf p.sections n d → IsPassedOver e n → (es : List LinkedEntry) → IsOkAnd (links_at p (d ∷ [])) (AddsLinks p es es)
passed_over e p d n file there seen h es =
    let path = in_ok (IsScope h.0.scope) (scope_path p d) (h.2 p file d there (around p d n seen h.0.parent h.1)) in
    adds_nothing p d n seen h.0.parent h.1 path.0 path.1 es
