-- What is kept behind the tokens of a walk is what a Shard keeps of the unit.
use Rattle.std.proofs.Common.{◌≡◌, ℕ, zero, suc, ◌+◌, ◌-◌, ◌<◌, Bool, true, false, cond, eqb, ◌||◌, List, [], ◌∷◌, ◌++◌, length, option_map, Result, Ok, Err, refl, sym, ap, subst, ◌∙◌, arith, append_assoc, append-nil, ⊎_elim, ◌&&◌}
use Rattle.std.specs.Prelude.{Contains, filter, flat_map, map}
use Rattle.std.specs.List.{AllZip}
use Rattle.std.proofs.lemmas.Bool.{eq-eqb, ne_eqb, cases_eq}
use Rattle.std.proofs.lemmas.List.Elements.{Contains-append_right}
use Rattle.common_laws.proofs.Members.{contains_here}
use Rattle.ix_base.specs.declared.fault.Fault.{Fault}
use Rattle.ix_base.specs.Reading.{Input}
use Rattle.index_model.specs.declared.shard.Import.{Import}
use Rattle.index_model.specs.declared.unit.Unit.{Unit as UnitHeader}
use Rattle.index_model.specs.Meaning.{at_place, each}
use Rattle.index_model.specs.NodeSeen.{NodeSeen}
use Rattle.index_model.specs.Sections.{Section}
use Rattle.index_model.specs.LawsOrder.{IsInOrder}
use Rattle.index_model.specs.Program.{Walked, Located, items_of}
use Rattle.index_model.specs.Rules.{is_visited, is_in_table}
use Rattle.index_model.specs.ShardParts.{is_kept, may_be_ada, may_be_followed, IsSeenOf}
use Rattle.index_model.specs.Strings.{Texts, texts_of}
use Rattle.index_model.specs.Walk.{Item, Token, Null, Entry, Levels, parent_of}
use Rattle.index_model.specs.WalkLeft.{levels_after}
use Rattle.index_model.proofs.OrderLaws.{entries}
use Rattle.index_model.proofs.ParentLaws.{Rise}
use Rattle.index_model.proofs.TokenReads.{Follow}
use Rattle.index_model.proofs.Located.{at_home}
use Rattle.shard_build.specs.declared.frame.UnitFacts.{UnitFacts}
use Rattle.shard_build.specs.declared.open.Open.{Open}
use Rattle.shard_build.specs.Kept.{Behind, innermost, is_visited_in, role_of, opened_by, closed, imports_by, node_by, has_node, behind_all}
use Rattle.shard_build.specs.Texts.{texts_by}
use Rattle.shard_build.proofs.EntrySteps.{frame, visited, texts, node, made, goes_on, stops}
use Rattle.shard_build.proofs.FrameLaws.{frame_by, unit_frame, ada_says, texts_say}
use Rattle.shard_build.proofs.NodeLaws.{seen_of}
use Rattle.shard_build.proofs.OpenLaws.{AreOpen, open_behind, opens, open_closed, is_parent}

-- ---- behind a null

closed_frame : (b : Behind) (os : List Open) (after : ℕ) → (closed b os after).frame ≡ b.frame
closed_frame b [] after = refl
closed_frame b (o ∷ os) after = refl

closed_nodes : (b : Behind) (os : List Open) (after : ℕ) → (closed b os after).nodes ≡ b.nodes
closed_nodes b [] after = refl
closed_nodes b (o ∷ os) after = refl

closed_imports : (b : Behind) (os : List Open) (after : ℕ) → (closed b os after).imports ≡ b.imports
closed_imports b [] after = refl
closed_imports b (o ∷ os) after = refl

closed_opened : (ada : Bool) (ds es : List Item) (b : Behind) (os : List Open) (n after : ℕ) → b.opened ≡ os → AreOpen ada ds es os n → AreOpen ada ds es (closed b os after).opened (n - 1)
closed_opened ada ds es b [] zero after same h = subst (λ (os : List Open). AreOpen ada ds es os (zero - 1)) (sym same) tt
closed_opened ada ds es b [] (suc j) after same h = absurd h
closed_opened ada ds es b (o ∷ os) n after same h = open_closed ada ds es o os n h

-- ---- what comes of the tokens

-- what was known before some entries, and is known behind them
abbrev pub FrameEnd : UnitFacts → List Item → UnitFacts → UnitFacts → Type 0
FrameEnd known [] old new = old ≡ new
FrameEnd known (d ∷ ds) old new = new ≡ known

frame_end : (known : UnitFacts) (ds : List Item) (old new : UnitFacts) → old ≡ known → FrameEnd known ds old new → new ≡ known
frame_end known [] old new is h = sym h ∙ is
frame_end known (d ∷ ds) old new is h = h

module _ (ss : List Section) (w : Walked) where
  abbrev u : ℕ × UnitHeader
  u = (w.number, w.unit)

  abbrev homes : List Item → List Located
  homes = map (at_home w)

  -- the texts of an entry
  abbrev pub texts_at : Located → Result Texts Fault
  texts_at d = at_place d.item.at (texts_of ss d)

  abbrev pub kept : Located → Bool
  kept d = is_kept d.home d.item

  -- the tokens' entries have their texts, their nodes and their imports
  pub record Good (ts : List Token) (b c : Behind) : Type 0 where
    pub read : List Texts
    pub texts : each texts_at (homes (entries ts)) ≡ Ok read
    pub frame : FrameEnd (unit_frame w) (entries ts) b.frame c.frame
    pub more : List NodeSeen
    pub nodes : c.nodes ≡ b.nodes ++ more
    pub are_nodes : AllZip (IsSeenOf ss) more (filter kept (homes (entries ts)))
    pub imports : c.imports ≡ b.imports ++ flat_map (imports_by ss u) (entries ts)

  -- or one of them has a fault, and it is the first
  abbrev pub Out : List Token → Behind → Result Behind Fault → Type 0
  Out ts b (Ok c) = Good ts b c
  Out ts b (Err f) = each texts_at (homes (entries ts)) ≡ Err f

  out_null : (depth after : ℕ) (ts : List Token) (b a : Behind) → a.frame ≡ b.frame → a.nodes ≡ b.nodes → a.imports ≡ b.imports → (r : Result Behind Fault) → Out ts a r → Out (Null depth after ∷ ts) b r
  out_null depth after ts b a fe ne ie (Err f) h = h
  out_null depth after ts b a fe ne ie (Ok c) h = record {
    read = h.read;
    texts = h.texts;
    frame = subst (λ (f : UnitFacts). FrameEnd (unit_frame w) (entries ts) f c.frame) fe h.frame;
    more = h.more;
    nodes = h.nodes ∙ ap (λ (ns : List NodeSeen). ns ++ h.more) ne;
    are_nodes = h.are_nodes;
    imports = h.imports ∙ ap (λ (is : List Import). is ++ flat_map (imports_by ss u) (entries ts)) ie;
  }

  node_zip : (h k : Bool) → h ≡ k → (n : NodeSeen) (ns : List NodeSeen) (d : Located) (ds : List Located) → IsSeenOf ss n d → AllZip (IsSeenOf ss) ns ds → AllZip (IsSeenOf ss) (cond h (n ∷ []) [] ++ ns) (cond k (d ∷ ds) ds)
  node_zip true true same n ns d ds is more = (is, more)
  node_zip true false same n ns d ds is more = absurd cc
  node_zip false true same n ns d ds is more = absurd cc
  node_zip false false same n ns d ds is more = more

  first_fault : (d : Located) (ds : List Located) (f : Fault) → texts_at d ≡ Err f → each texts_at (d ∷ ds) ≡ Err f
  first_fault d ds f e = rw e refl

  later_fault : (d : Located) (ds : List Located) (t : Texts) (f : Fault) → texts_at d ≡ Ok t → each texts_at ds ≡ Err f → each texts_at (d ∷ ds) ≡ Err f
  later_fault d ds t f e later = rw (e, later) refl

  both_read : (d : Located) (ds : List Located) (t : Texts) (read : List Texts) → texts_at d ≡ Ok t → each texts_at ds ≡ Ok read → each texts_at (d ∷ ds) ≡ Ok (t ∷ read)
  both_read d ds t read e later = rw (e, later) refl

  placed_ok : (place : ℕ) (r : Result Texts ℕ) (t : Texts) → at_place place r ≡ Ok t → r ≡ Ok t
  placed_ok place (Ok x) t is = cc
  placed_ok place (Err code) t is = absurd cc

  -- an entry, in front of other tokens
  module _ (b : Behind) (d : Item) (ts : List Token) (t : Texts) (read : texts_at (at_home w d) ≡ Ok t) (known : frame ss u b d ≡ unit_frame w) (place : option_map (λ o. o.at) (innermost b.opened) ≡ option_map (λ e. e.at) (parent_of (items_of w) d)) (seen : visited ss u b d ≡ is_visited (may_be_ada w) (items_of w) d) where
    is_seen : IsSeenOf ss (node_by ss u (innermost b.opened) d t) (at_home w d)
    is_seen = seen_of ss w d t (placed_ok d.at (texts_of ss (at_home w d)) t read) (innermost b.opened) place

    same_kept : has_node ss u (frame ss u b d) (innermost b.opened) d ≡ is_kept w d
    unfolding has_node may_be_followed
    same_kept = ap (λ (v : Bool). eqb d.depth 0 || (is_in_table d.tag && v)) seen

    out_entry : (r : Result Behind Fault) → Out ts (made ss u b d t) r → Out (Entry d ∷ ts) b r
    out_entry (Err f) h = later_fault (at_home w d) (homes (entries ts)) t f read h
    out_entry (Ok c) h = record {
      read = t ∷ h.read;
      texts = both_read (at_home w d) (homes (entries ts)) t h.read read h.texts;
      frame = frame_end (unit_frame w) (entries ts) (frame ss u b d) c.frame known h.frame;
      more = node ss u b d t ++ h.more;
      nodes = h.nodes ∙ append_assoc b.nodes (node ss u b d t) h.more;
      are_nodes = node_zip (has_node ss u (frame ss u b d) (innermost b.opened) d) (is_kept w d) same_kept (node_by ss u (innermost b.opened) d t) h.more (at_home w d) (filter kept (homes (entries ts))) is_seen h.are_nodes;
      imports = h.imports ∙ append_assoc b.imports (imports_by ss u d) (flat_map (imports_by ss u) (entries ts));
    }

  -- a fault of its texts is the first; else those behind it decide
  by_texts : (b : Behind) (d : Item) (ts : List Token) → frame ss u b d ≡ unit_frame w → option_map (λ o. o.at) (innermost b.opened) ≡ option_map (λ e. e.at) (parent_of (items_of w) d) → visited ss u b d ≡ is_visited (may_be_ada w) (items_of w) d → texts ss u b d ≡ texts_at (at_home w d) →
      ((t : Texts) → Out ts (made ss u b d t) (behind_all ss u (made ss u b d t) ts)) → (r : Result Texts Fault) → texts_at (at_home w d) ≡ r → Out (Entry d ∷ ts) b (behind_all ss u b (Entry d ∷ ts))
  by_texts b d ts known place seen same go (Err f) e = subst (Out (Entry d ∷ ts) b) (sym (stops ss u b d f ts (same ∙ e))) (first_fault (at_home w d) (homes (entries ts)) f e)
  by_texts b d ts known place seen same go (Ok t) e = subst (Out (Entry d ∷ ts) b) (sym (goes_on ss u b d t ts (same ∙ e))) (out_entry b d ts t e known place seen (behind_all ss u (made ss u b d t) ts) (go t))

  -- ---- all tokens

  module _ (ordered : IsInOrder w) (low : ℕ) (rise : Rise low (items_of w)) where
    known_at : (b : Behind) (d : Item) → Contains (items_of w) d → (0 < d.depth → b.frame ≡ unit_frame w) → frame ss u b d ≡ unit_frame w
    known_at b d member before = ⊎_elim
        (λ (top : d.depth ≡ 0). rw (eq-eqb d.depth 0 top) (sym (ap frame_by (ordered.root d member top).0)))
        (λ (below : d.depth ≡ 0 → ⊥). rw (ne_eqb d.depth 0 below) (before (omega (arith, below))))
        (cases_eq d.depth 0)

    same_texts : (b : Behind) (d : Item) → frame ss u b d ≡ unit_frame w → texts ss u b d ≡ texts_at (at_home w d)
    same_texts b d known = ap (λ (f : UnitFacts). at_place d.at (texts_by ss f.str_offsets_base w.unit.wide d)) known ∙ ap (at_place d.at) (texts_say ss w d)

    abbrev ada : Bool
    ada = may_be_ada w

    open_after : (es : List Item) (d : Item) (rest : List Item) → es ++ d ∷ rest ≡ items_of w → (v : Bool) → v ≡ is_visited ada (items_of w) d → (span : ℕ) (os : List Open) (n : ℕ) → n ≡ d.depth → AreOpen ada (items_of w) es os n → AreOpen ada (items_of w) (es ++ d ∷ []) (opened_by d v span os) (cond d.children (n + 1) n)
    open_after es d rest whole v seen span os n deep h = by_children d.children
      where
        by_children : (c : Bool) → AreOpen ada (items_of w) (es ++ d ∷ []) (cond c (record { at = d.at; parent = role_of d.depth d.tag v; span = span } ∷ os) os) (cond c (n + 1) n)
        by_children false = open_behind ada (items_of w) es d os n (omega (arith, deep)) h
        by_children true =
            let o : Open = record { at = d.at; parent = role_of d.depth d.tag v; span = span } in
            let one : suc n ≡ n + 1 = omega arith in
            subst (λ (k : ℕ). AreOpen ada (items_of w) (es ++ d ∷ []) (o ∷ os) k) one (opens ada (items_of w) low es d rest whole rise o os n deep refl (ap (role_of d.depth d.tag) seen) h)

    abbrev Ready : Levels → Behind → Type 0
    Ready open_ b = 0 < open_.depth → b.frame ≡ unit_frame w

    pub all_behind : (es : List Item) (ts : List Token) (open_ : Levels) (i : Input) → Follow open_ i ts → es ++ entries ts ≡ items_of w → (b : Behind) → Ready open_ b → AreOpen ada (items_of w) es b.opened open_.depth → Out ts b (behind_all ss u b ts)
    all_behind es [] open_ i f whole b ready open_are = record {
      read = [];
      texts = refl;
      frame = refl;
      more = [];
      nodes = sym (append-nil b.nodes);
      are_nodes = tt;
      imports = sym (append-nil b.imports);
    }
    all_behind es (Null depth after ∷ ts) open_ i f whole b ready open_are =
        let a = closed b b.opened after in
        let fe = closed_frame b b.opened after in
        let later = all_behind es ts (levels_after open_ (Null depth after)) f.1 f.3 whole a (λ lt. fe ∙ ready (omega (arith, lt))) (closed_opened ada (items_of w) es b b.opened open_.depth after refl open_are) in
        out_null depth after ts b a fe (closed_nodes b b.opened after) (closed_imports b b.opened after) (behind_all ss u a ts) later
    all_behind es (Entry d ∷ ts) open_ i f whole b ready open_are =
        let deep : open_.depth ≡ d.depth = sym f.2.says.1 in
        let member : Contains (items_of w) d = subst (λ (xs : List Item). Contains xs d) whole (Contains-append_right es (d ∷ entries ts) d (contains_here d (entries ts))) in
        let known = known_at b d member (λ lt. ready (omega (arith, lt, deep))) in
        let p = is_parent ada (items_of w) low es d (entries ts) whole rise b.opened open_.depth deep open_are (λ top. (ordered.root d member top).1) (ordered.parents d member) in
        let seen : visited ss u b d ≡ is_visited ada (items_of w) d = ap (λ (f : UnitFacts). is_visited_in (innermost b.opened) f.ada) known ∙ ap (is_visited_in (innermost b.opened)) (ada_says w) ∙ p.visited in
        let go = λ (t : Texts). all_behind (es ++ d ∷ []) ts (levels_after open_ (Entry d)) f.1 f.3 (append_assoc es (d ∷ []) (entries ts) ∙ whole) (made ss u b d t) (λ _. known) (open_after es d (entries ts) whole (visited ss u b d) seen (length b.spans) b.opened open_.depth deep open_are) in
        by_texts b d ts known p.place seen (same_texts b d known) go (texts_at (at_home w d)) refl
