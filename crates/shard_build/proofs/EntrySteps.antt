-- What is kept behind an entry.
use Rattle.std.proofs.Common.{◌≡◌, ℕ, Bool, cond, List, [], ◌∷◌, ◌++◌, length, Result, Ok, Err, refl, sym, ap, ◌∙◌}
use Rattle.ix_base.specs.declared.fault.Fault.{Fault}
use Rattle.index_model.specs.declared.unit.Unit.{Unit as UnitHeader}
use Rattle.index_model.specs.Meaning.{◌>>=◌, at_place}
use Rattle.index_model.specs.NodeSeen.{NodeSeen}
use Rattle.index_model.specs.Sections.{Section}
use Rattle.index_model.specs.Strings.{Texts}
use Rattle.index_model.specs.Walk.{Item, Token, Entry}
use Rattle.shard_build.specs.declared.frame.UnitFacts.{UnitFacts}
use Rattle.shard_build.specs.Frames.{frame_at}
use Rattle.shard_build.specs.Kept.{Behind, innermost, is_visited_in, opened_by, spans_by, imports_by, node_by, nodes_by, has_node, entered, behind_all}
use Rattle.shard_build.specs.Texts.{texts_by}

module _ (ss : List Section) (u : ℕ × UnitHeader) (b : Behind) (d : Item) where
  abbrev pub frame : UnitFacts
  frame = frame_at b.frame d

  abbrev pub visited : Bool
  visited = is_visited_in (innermost b.opened) frame.ada

  -- the texts of the entry
  abbrev pub texts : Result Texts Fault
  texts = at_place d.at (texts_by ss frame.str_offsets_base u.1.wide d)

  -- its node, where it has one
  abbrev pub node : Texts → List NodeSeen
  node t = cond (has_node ss u frame (innermost b.opened) d) (node_by ss u (innermost b.opened) d t ∷ []) []

  -- what is kept behind it, where it has these texts
  abbrev pub made : Texts → Behind
  made t = record {
    frame = frame;
    opened = opened_by d visited (length b.spans) b.opened;
    nodes = b.nodes ++ node t;
    spans = b.spans ++ spans_by ss u d;
    imports = b.imports ++ imports_by ss u d;
  }

  pub entered_by : (r : Result Texts Fault) → texts ≡ r → entered ss u b d ≡ (r >>= λ t. Ok (made t))
  unfolding entered nodes_by
  entered_by (Ok t) e = rw e refl
  entered_by (Err f) e = rw e refl

  -- with these texts the tokens behind it go on
  pub goes_on : (t : Texts) (ts : List Token) → texts ≡ Ok t → behind_all ss u b (Entry d ∷ ts) ≡ behind_all ss u (made t) ts
  goes_on t ts e = ap {B = Result Behind Fault} (λ (r : Result Behind Fault). r >>= λ c. behind_all ss u c ts) (entered_by (Ok t) e)

  -- a fault of its texts is the fault of all
  pub stops : (f : Fault) (ts : List Token) → texts ≡ Err f → behind_all ss u b (Entry d ∷ ts) ≡ Err f
  stops f ts e = ap {B = Result Behind Fault} (λ (r : Result Behind Fault). r >>= λ c. behind_all ss u c ts) (entered_by (Err f) e)

  -- where there is no fault the entry has texts
  pub has_texts : (ts : List Token) (c : Behind) → behind_all ss u b (Entry d ∷ ts) ≡ Ok c → (t : Texts) × (texts ≡ Ok t) × (behind_all ss u (made t) ts ≡ Ok c)
  has_texts ts c is = by_texts texts refl
    where
      by_texts : (r : Result Texts Fault) → texts ≡ r → (t : Texts) × (texts ≡ Ok t) × (behind_all ss u (made t) ts ≡ Ok c)
      by_texts (Ok t) e = (t, e, sym (goes_on t ts e) ∙ is)
      by_texts (Err f) e = absurd (let stuck = stops f ts e in cc)
