-- What counts of an entry, by its own node or by its last entry.
use Rattle.std.proofs.Common.{◌≡◌, ℕ, Bool, true, false, ◌&&◌, ◌||◌, List, [], ◌∷◌, Option, Some, None, refl, sym, ap, subst, ◌∙◌}
use denote.Ref.{Bor}
use Rattle.std.specs.Prelude.{Contains, IsOkAnd, is_none, is_some}
use Rattle.index_model.specs.declared.shard.Next.{Next}
use Rattle.index_model.specs.declared.shard.Node.{Node}
use Rattle.index_model.specs.Program.{Program, Located}
use Rattle.index_model.specs.ShardParts.{IsNodeOf}
use Rattle.parent_resolve.specs.declared.chain.Chain.{Chain}
use Rattle.parent_resolve.specs.declared.traced.Traced.{Traced}
use Rattle.parent_resolve.specs.Followed.{all_entries}
use Rattle.parent_resolve.specs.Traced.{IsTraced, IsTracedAlone}
use Rattle.parent_resolve.proofs.ChainLaws.{alone, alone_ends, next_none, says}
use Rattle.parent_resolve.proofs.FollowLaws.{IsSpelled, is_traced, of_chain, of_signature, text, whole}
use Rattle.parent_resolve.proofs.SignatureLaws.{name_unsigned}

no_next : (next : Option Next) (rest : Bool) → (is_some next || rest) ≡ false → next ≡ None
no_next None rest off = refl
no_next (Some n) rest off = absurd cc

module _ (p : Program) (d : Located) (n : Node) (own : IsNodeOf p.sections n d) (there : Contains (all_entries p) d) where
  abbrev chain : Chain
  chain = record { unit = n.unit; next = n.next; around = n.parent; external = n.external; name = n.name; linkage = n.linkage }

  -- the name, which is its own, or neither it has nor a signature
  spelled : (name : Option (Bor (List ℕ))) (signature : Option ℕ) → n.name ≡ name → n.signature ≡ signature → (is_some n.next || (is_none name && is_some signature)) ≡ false → IsSpelled p d (d ∷ []) n.name
  spelled (Some t) signature name is off = of_chain p d (d ∷ []) chain (alone p d n own there) t n.name name name
  spelled None None name is off = of_signature p d (d ∷ []) chain (alone p d n own there) n.name name None (name_unsigned p d (sym (says p.sections n d own).signature ∙ is)) (ap (λ (o : Option (Bor (List ℕ))). text o) name)
  spelled None (Some s) name is off = absurd (never (is_some n.next) off)
    where
      never : (b : Bool) → (b || true) ≡ false → ⊥
      never true e = absurd cc
      never false e = absurd cc

pub traced_alone : (n : Node) → (is_some n.next || (is_none n.name && is_some n.signature)) ≡ false → IsTracedAlone n (record { around = n.parent; external = n.external; spelled = n.name; linkage = n.linkage })
traced_alone n off p d there own =
    let k = chain p d n own there in
    let is = alone p d n own there in
    let next = next_none p n.next d (says p.sections n d own).next (no_next n.next (is_none n.name && is_some n.signature) off) in
    let s = spelled p d n own there n.name n.signature refl refl off in
    let t : Traced = record { around = n.parent; external = n.external; spelled = n.name; linkage = n.linkage } in
    subst (λ r. IsOkAnd r (IsTraced p d t)) (sym (whole p d (d ∷ []) k is (alone_ends p d next) n.name s)) (is_traced p d (d ∷ []) k is n.name s)
