-- A run with one more unit.
use Rattle.std.proofs.Common.{◌≡◌, ℕ, ◌+◌, ◌-◌, ◌≤◌, List, [], ◌∷◌, ◌++◌, length, take, drop, sym, ap, subst, ◌∙◌, arith, append-nil, length-take}
use Rattle.std.specs.Prelude.{filter, flat_map}
use Rattle.std.specs.List.{AllZip}
use Rattle.std.proofs.lemmas.Grind.{flat_map-append}
use Rattle.std.proofs.lemmas.List.{drop-drop, drop-take, map-append}
use Rattle.std.proofs.lemmas.List.Elements.{filter-append}
use Rattle.index_model.specs.declared.shard.Import.{Import}
use Rattle.index_model.specs.declared.shard.Root.{Root}
use Rattle.index_model.specs.declared.shard.Span.{Span}
use Rattle.index_model.specs.declared.unit.Unit.{Unit as UnitHeader}
use Rattle.index_model.specs.NodeSeen.{NodeSeen}
use Rattle.index_model.specs.Program.{Walked, Located, located, joint, body}
use Rattle.index_model.specs.Sections.{Section}
use Rattle.index_model.specs.ShardParts.{root_facts, is_kept, kept_in, spans_of, imports_in, IsSeenOf}
use Rattle.file_image.specs.Images.{unit_bytes}
use Rattle.shard_build.specs.declared.run.ShardSoFar.{ShardSoFar}
use Rattle.shard_build.specs.Kept.{Behind, kept_seen}
use Rattle.shard_build.specs.Runs.{HoldsOneMore}
use Rattle.shard_build.proofs.UnitEnd.{Adds}

zip_append : {A B : Type 0} (R : A → B → Type 0) (xs ys : List A) (vs ws : List B) → AllZip R xs vs → AllZip R ys ws → AllZip R (xs ++ ys) (vs ++ ws)
zip_append R [] ys [] ws h k = k
zip_append R [] ys (v ∷ vs) ws h k = absurd h
zip_append R (x ∷ xs) ys [] ws h k = absurd h
zip_append R (x ∷ xs) ys (v ∷ vs) ws h k = (h.0, zip_append R xs ys vs ws h.1 k)

flat_push : {A : Type 0} (f : Walked → List A) (ws : List Walked) (w : Walked) → flat_map f (ws ++ w ∷ []) ≡ flat_map f ws ++ f w
flat_push f ws w = flat_map-append f ws (w ∷ []) ∙ ap (λ (xs : List _). flat_map f ws ++ xs) (append-nil (f w))

kept_push : (ws : List Walked) (w : Walked) → kept_in (ws ++ w ∷ []) ≡ kept_in ws ++ filter (λ d. is_kept d.home d.item) (located w)
kept_push ws w = ap (filter (λ (d : Located). is_kept d.home d.item)) (flat_push located ws w) ∙ filter-append (λ (d : Located). is_kept d.home d.item) (flat_map located ws) (located w)

module _ (ss : List Section) (old new : ShardSoFar) (w : Walked) (b : Behind) (nodes : b.nodes ≡ old.kept.nodes.nodes) (same_strings : new.kept.nodes.strings ≡ old.kept.nodes.strings) (spans : b.spans ≡ old.kept.spans) (imports : b.imports ≡ old.kept.imports.items) where
  -- the run holds what the unit adds
  pub holds_more : Adds ss b (kept_seen new.kept) w → new.roots.items ≡ old.roots.items ++ new.kept.frame.root ∷ [] → HoldsOneMore ss old new w
  holds_more a roots ws h = record {
    roots = roots ∙ ap (λ (r : Root). old.roots.items ++ r ∷ []) a.root ∙ ap (λ (rs : List Root). rs ++ root_facts w ∷ []) h.roots ∙ sym (map-append root_facts ws (w ∷ []));
    nodes =
        let all : new.kept.nodes.nodes ≡ old.kept.nodes.nodes ++ a.more = a.nodes ∙ ap (λ (ns : List NodeSeen). ns ++ a.more) nodes in
        let zipped : AllZip (IsSeenOf ss) (old.kept.nodes.nodes ++ a.more) (kept_in ws ++ filter (λ d. is_kept d.home d.item) (located w)) =
        zip_append (IsSeenOf ss) old.kept.nodes.nodes a.more (kept_in ws) (filter (λ d. is_kept d.home d.item) (located w)) h.nodes a.are_nodes in
        subst (λ (ds : List Located). AllZip (IsSeenOf ss) new.kept.nodes.nodes ds) (sym (kept_push ws w)) (subst (λ (ns : List NodeSeen). AllZip (IsSeenOf ss) ns (kept_in ws ++ filter (λ d. is_kept d.home d.item) (located w))) (sym all) zipped);
    strings = same_strings ∙ h.strings;
    spans = a.spans ∙ ap (λ (xs : List Span). xs ++ spans_of w) (spans ∙ h.spans) ∙ sym (flat_push spans_of ws w);
    imports = a.imports ∙ ap (λ (xs : List Import). xs ++ imports_in ss w) (imports ∙ h.imports) ∙ sym (flat_push (imports_in ss) ws w);
  }

-- the body of a unit in its own bytes
pub body_is : (ss : List Section) (u : UnitHeader) (bytes : List ℕ) → bytes ≡ unit_bytes ss u → u.body ≤ length bytes → drop u.body bytes ≡ (body ss u).rest
body_is ss u bytes is le =
    let from : List ℕ = drop u.start (joint ss) in
    let within : u.body ≤ u.length = omega (arith, le, ap (λ (xs : List ℕ). length xs) is, length-take u.length from) in
    let parts : u.length ≡ u.body + (u.length - u.body) = omega (arith, within) in
    ap (drop u.body) is ∙ ap (λ (n : ℕ). drop u.body (take n from)) parts ∙ drop-take u.body (u.length - u.body) from ∙ ap (take (u.length - u.body)) (drop-drop u.body u.start (joint ss))
