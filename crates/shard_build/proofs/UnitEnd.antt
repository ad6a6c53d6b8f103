-- What is kept behind a whole unit, and the unit's first fault.
use Rattle.std.proofs.Common.{◌≡◌, ℕ, eqb, length, arith, List, [], ◌∷◌, ◌++◌, Option, Some, None, Result, Ok, Err, refl, sym, ap, subst, ◌∙◌}
use Rattle.std.specs.Prelude.{codes, filter, find}
use Rattle.std.specs.List.{AllZip}
use Rattle.ix_base.specs.declared.fault.Fault.{Fault}
use Rattle.index_model.specs.Gives.{Stop}
use Rattle.ix_base.specs.declared.or_memory.OrMemory.TheVariants as stops
use Rattle.index_model.specs.Gives.{StopsAs}
use Rattle.index_model.specs.declared.shard.Import.{Import}
use Rattle.index_model.specs.declared.shard.Span.{Span}
use Rattle.index_model.specs.declared.unit.Unit.{Unit as UnitHeader}
use Rattle.index_model.specs.Abbreviations.{Abbrev, table}
use Rattle.index_model.specs.Faults.{none_or, scanned}
use Rattle.index_model.specs.Meaning.{◌>>◌, each}
use Rattle.index_model.specs.Program.{Walked, walked, located, items_of}
use Rattle.index_model.specs.NodeSeen.{NodeSeen}
use Rattle.index_model.specs.Sections.{Section, section_bytes}
use Rattle.index_model.specs.ShardParts.{root_facts, may_be_ada, spans_of, imports_in, IsSeenOf}
use Rattle.index_model.specs.Strings.{Texts}
use Rattle.index_model.specs.Walk.{Item}
use Rattle.index_model.proofs.OrderLaws.{walks_in_order, walk_rises}
use Rattle.index_model.proofs.Scans.{read}
use Rattle.index_model.proofs.TokenReads.{Follow, start, walk_follows}
use Rattle.index_model.specs.Program.{body}
use Rattle.shard_build.specs.declared.frame.UnitFacts.{UnitFacts}
use Rattle.shard_build.specs.declared.open.Open.{Open}
use Rattle.shard_build.specs.Frames.{blank}
use Rattle.shard_build.specs.Kept.{Behind, behind_all}
use Rattle.shard_build.specs.Tokens.{unless, behind_walk}
use Rattle.shard_build.proofs.FrameLaws.{frame_by, unit_frame, root_says}
use Rattle.shard_build.proofs.ImportLaws.{all_imports}
use Rattle.shard_build.proofs.OpenLaws.{AreOpen}
use Rattle.shard_build.proofs.SpanEnds.{Ascend, filled, spans_behind, new_spans}
use Rattle.shard_build.proofs.SpanPlaces.{all_spans}
use Rattle.shard_build.proofs.UnitLaws.{FrameEnd, Good, Out, texts_at, kept, all_behind}

-- nothing of a unit is known yet
pub record Starts (b : Behind) : Type 0 where
  pub frame : b.frame ≡ blank
  pub opened : b.opened ≡ []

-- the root, the nodes, the spans and the imports of the unit come behind what was kept
pub record Adds (ss : List Section) (b c : Behind) (w : Walked) : Type 0 where
  pub root : c.frame.root ≡ root_facts w
  pub more : List NodeSeen
  pub nodes : c.nodes ≡ b.nodes ++ more
  pub are_nodes : AllZip (IsSeenOf ss) more (filter (kept ss w) (located w))
  pub spans : c.spans ≡ b.spans ++ spans_of w
  pub imports : c.imports ≡ b.imports ++ imports_in ss w

-- a unit whose walk ends so and whose texts are so
abbrev after : Option Fault → Result (List Texts) Fault → Walked → Result Walked Fault
after end texts w = none_or end >> (texts >> Ok w)

after_ok : (end : Option Fault) (texts : Result (List Texts) Fault) (w : Walked) (ts : List Texts) → end ≡ None → texts ≡ Ok ts → after end texts w ≡ Ok w
after_ok end texts w ts e t = rw (e, t) refl

after_end : (end : Option Fault) (texts : Result (List Texts) Fault) (w : Walked) (f : Fault) → end ≡ Some f → after end texts w ≡ Err f
after_end end texts w f e = rw e refl

after_texts : (end : Option Fault) (texts : Result (List Texts) Fault) (w : Walked) (f : Fault) → end ≡ None → texts ≡ Err f → after end texts w ≡ Err f
after_texts end texts w f e t = rw (e, t) refl

module _ (ss : List Section) (u : ℕ × UnitHeader) (a : List Abbrev) (found : table (section_bytes ss (codes ".debug_abbrev")) u.1.«abbrev» ≡ Some a) where
  abbrev pub w : Walked
  w = read ss u a

  pub is_walked : walked ss u ≡ Ok w
  unfolding walked
  is_walked = rw found refl

  follows : Follow start (body ss u.1) w.walk.tokens
  follows = walk_follows u.1 a (body ss u.1)

  module _ (b : Behind) (starts : Starts b) where
    abbrev result : Result Behind Fault
    result = behind_all ss u b w.walk.tokens

    out : Out ss w w.walk.tokens b result
    out =
        let rises = walk_rises ss u w is_walked in
        let open_are : AreOpen (may_be_ada w) (items_of w) [] b.opened 0 = subst (λ (os : List Open). AreOpen (may_be_ada w) (items_of w) [] os 0) (sym starts.opened) tt in
        all_behind ss w (walks_in_order ss u w is_walked) rises.0 rises.1 [] w.walk.tokens start (body ss u.1) follows refl b (λ lt. absurd (omega arith)) open_are

    -- without a fault the unit's parts come behind the others
    adds : (c : Behind) → result ≡ Ok c → Good ss w w.walk.tokens b c → Adds ss b c w
    adds c is good =
        let size : length b.opened ≡ 0 = ap (λ (os : List Open). length os) starts.opened in
        let ascend : Ascend (length b.spans) b.opened = subst (Ascend (length b.spans)) (sym starts.opened) tt in
        let spans = spans_behind ss u start (body ss u.1) w.walk.tokens follows b c size ascend is in
        let none = ap (λ (os : List Open). filled os 0 w.walk.tokens b.spans) starts.opened in
        record {
          root = ap (λ (f : UnitFacts). f.root) (frame_is (items_of w) c.frame refl good.frame) ∙ root_says w;
          more = good.more;
          nodes = good.nodes;
          are_nodes = good.are_nodes;
          spans = spans ∙ ap (λ (xs : List Span). xs ++ new_spans ss u w.walk.tokens) none ∙ ap (λ (xs : List Span). b.spans ++ xs) (all_spans ss w start (body ss u.1) follows);
          imports = good.imports ∙ ap (λ (xs : List Import). b.imports ++ xs) (all_imports ss w);
        }
      where
        frame_is : (ds : List Item) (f : UnitFacts) → ds ≡ items_of w → FrameEnd (unit_frame w) ds b.frame f → f ≡ unit_frame w
        frame_is [] f same h = sym h ∙ starts.frame ∙ ap (λ (ds : List Item). frame_by (find (λ d. eqb d.depth 0) ds)) same
        frame_is (d ∷ ds) f same h = h

    abbrev read_texts : Result (List Texts) Fault
    read_texts = each (texts_at ss w) (located w)

    scanned_is : scanned ss u ≡ after w.walk.end read_texts w
    unfolding scanned
    scanned_is = rw is_walked refl

    -- the unit was scanned
    pub unit_ok : (c : Behind) → behind_walk ss u b w.walk ≡ Ok c → (scanned ss u ≡ Ok w) × Adds ss b c w
    unit_ok c is = by_end w.walk.end refl is
      where
        by_end : (e : Option Fault) → w.walk.end ≡ e → unless e result ≡ Ok c → (scanned ss u ≡ Ok w) × Adds ss b c w
        by_end (Some f) end h = absurd cc
        by_end None end h =
            let good : Good ss w w.walk.tokens b c = subst (Out ss w w.walk.tokens b) h out in
            (scanned_is ∙ after_ok w.walk.end read_texts w good.read end good.texts, adds c h good)

    -- or it has this fault
    pub unit_fault : (f : Fault) → behind_walk ss u b w.walk ≡ Err f → scanned ss u ≡ Err f
    unit_fault f is = by_end w.walk.end refl is
      where
        by_end : (e : Option Fault) → w.walk.end ≡ e → unless e result ≡ Err f → scanned ss u ≡ Err f
        by_end (Some g) end h = let same : g ≡ f = cc in scanned_is ∙ after_end w.walk.end read_texts w f (end ∙ ap {B = Option Fault} (λ (x : Fault). Some x) same)
        by_end None end h =
            let first : read_texts ≡ Err f = subst (Out ss w w.walk.tokens b) h out in
            scanned_is ∙ after_texts w.walk.end read_texts w f end first

    -- a stop behind the walk is one of the unit
    pub unit_stops : (s : Stop) → StopsAs s (behind_walk ss u b w.walk) → StopsAs s (scanned ss u)
    unit_stops stops.Memory h = tt
    unit_stops (stops.Cause f) h = unit_fault f h
