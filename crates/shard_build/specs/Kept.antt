-- What is kept of a unit behind some of its tokens: the form that a scan keeps, one token after the other.
use Rattle.std.specs.Prelude.{ℕ, ◌+◌, Bool, false, ◌&&◌, ◌||◌, nat_lt, ◌==◌, if◌then◌else◌, List, [], ◌∷◌, ◌++◌, reverse, length, codes, Option, Some, None, option_map, option_and_then, option_to_list, Result, Ok}
use Rattle.ix_base.specs.declared.fault.Fault.{Fault}
use Rattle.index_model.specs.declared.shard.Import.{Import}
use Rattle.index_model.specs.declared.shard.Next.{Next}
use Rattle.index_model.specs.declared.shard.Span.{Span}
use Rattle.index_model.specs.declared.rules.Parent.{Parent}
use Rattle.index_model.specs.declared.rules.Parent.TheVariants.{Root, Other, Seen}
use Rattle.index_model.specs.declared.unit.Unit.{Unit as UnitHeader}
use Rattle.index_model.specs.Meaning.{◌>>=◌, at_place}
use Rattle.index_model.specs.Sections.{Section, section_bytes}
use Rattle.index_model.specs.Attributes.{low_pc, high_pc, ranges_value, has_address, is_declaration, has_external, has_enum_class, says_main, signature_of, next_reference, import_of}
use Rattle.index_model.specs.NodeSeen.{NodeSeen}
use Rattle.index_model.specs.Rules.{has_value, is_in_table, is_visited_under}
use Rattle.index_model.specs.Searches.{ended_at}
use Rattle.index_model.specs.ShardParts.{raw_of, raw_of_high, as_next}
use Rattle.index_model.specs.Strings.{Texts}
use Rattle.index_model.specs.Tags.{imported_unit}
use Rattle.index_model.specs.Walk.{Item, Token, Null, Entry}
use Rattle.shard_build.specs.declared.frame.UnitFacts.{UnitFacts}
use Rattle.shard_build.specs.declared.kept.ItemsSoFar.{ItemsSoFar}
use Rattle.shard_build.specs.declared.open.Open.{Open}
use Rattle.shard_build.specs.Frames.{frame_at}
use Rattle.shard_build.specs.Texts.{texts_by}

-- What is kept: what the root said, the entries whose children are still open, the innermost first, the nodes, the spans and the imports.
pub record Behind : Type 0 where
  pub frame : UnitFacts
  pub opened : List Open
  pub nodes : List NodeSeen
  pub spans : List Span
  pub imports : List Import

-- what a scan has kept
abbrev pub kept_seen : ItemsSoFar → Behind
kept_seen k = record { frame = k.frame; opened = reverse k.opened.items; nodes = k.nodes.nodes; spans = k.spans; imports = k.imports.items }

-- ---- the entry in whose children the next one stands

-- the innermost open entry
abbrev pub innermost : List Open → Option Open
innermost [] = None
innermost (o ∷ os) = Some o

-- whether an entry with this lexical parent is visited; a root has none
abbrev pub is_visited_in : Option Open → Bool → Bool
is_visited_in None ada = false
is_visited_in (Some o) ada = is_visited_under o.parent ada

-- what an entry is to its children
abbrev pub role_of : ℕ → ℕ → Bool → Parent
role_of depth tag visited = if depth == 0 then Root else if visited then Seen tag else Other

-- behind an entry with children it is the innermost one
abbrev pub opened_by : Item → Bool → ℕ → List Open → List Open
opened_by d visited span os = if d.children then record { at = d.at; parent = role_of d.depth d.tag visited; span = span } ∷ os else os

-- ---- spans

-- behind a null the innermost entry is closed
abbrev pub closed : Behind → List Open → ℕ → Behind
closed b [] after = b
closed b (o ∷ os) after = record b { opened = os; spans = ended_at b.spans o.span after }

module _ (ss : List Section) (u : ℕ × UnitHeader) where
  -- the span of an entry, as long as no null ended it
  abbrev pub span_from : Item → Span
  span_from d = record { unit = u.0; entry = d.at; depth = d.depth; from = d.after; to = u.1.start + u.1.length }

  -- its span, where it has children
  abbrev pub spans_by : Item → List Span
  spans_by d = if d.children then span_from d ∷ [] else []

  -- ---- imports

  -- the place that a reference names, in the unit or in `.debug_info` as its form says
  abbrev pub target_by : Next → Option ℕ
  target_by r =
      let inside_unit = if nat_lt r.target u.1.length then Some (u.1.start + r.target) else None in
      let inside_info = if nat_lt r.target (length (section_bytes ss (codes ".debug_info"))) then Some r.target else None in
      if r.near then inside_unit else inside_info

  -- the import of an imported unit, where it names a place
  abbrev pub imports_by : Item → List Import
  imports_by d = if d.tag == imported_unit then option_to_list (option_map (λ t. record { unit = u.0; target = t }) (option_and_then target_by (option_map as_next (import_of d)))) else []

  -- ---- nodes

  -- the node of an entry with this parent and these texts
  unfoldable pub node_under : Option ℕ → Item → Texts → NodeSeen
  node_under parent d t = record {
    facts = record {
      unit = u.0;
      offset = d.at;
      parent = parent;
      tag = d.tag;
      declaration = is_declaration d;
      external = has_external d;
      enum_class = has_enum_class d;
      main = says_main d;
      address = has_address u.1.version d;
      value = has_value d;
      name = None;
      linkage = None;
      next = option_map as_next (next_reference d);
      signature = signature_of d;
      low = option_and_then raw_of (low_pc d);
      high = option_and_then raw_of_high (high_pc d);
      ranges = option_and_then raw_of (ranges_value u.1.version d);
    };
    name = t.name;
    linkage = t.linkage;
  }

  -- the node of an entry in this one
  unfoldable pub node_by : Option Open → Item → Texts → NodeSeen
  node_by outer d t = node_under (option_map (λ o. o.at) outer) d t

  -- whether an entry in this one has a node
  unfoldable pub has_node : UnitFacts → Option Open → Item → Bool
  has_node f outer d = d.depth == 0 || (is_in_table d.tag && is_visited_in outer f.ada)

  -- what the texts of an entry give, or the first fault of them
  abbrev pub with_texts : {A : Type 0} → Option ℕ → Item → (Texts → A) → Result A Fault
  with_texts base d made = at_place d.at (texts_by ss base u.1.wide d) >>= λ t. Ok (made t)

  -- the node of an entry, or the first fault of its texts
  unfoldable pub nodes_by : UnitFacts → Option Open → Item → Result (List NodeSeen) Fault
  nodes_by f outer d = do
    t ← at_place d.at (texts_by ss f.str_offsets_base u.1.wide d)
    Ok (if has_node f outer d then node_by outer d t ∷ [] else [])

  -- the nodes with that of an entry
  abbrev pub nodes_added : UnitFacts → Option Open → List NodeSeen → Item → Result (List NodeSeen) Fault
  nodes_added f outer ns d = nodes_by f outer d >>= λ more. Ok (ns ++ more)

  -- ---- tokens

  -- with what of an entry isn't its node
  abbrev pub with_others : Behind → Item → Bool → Behind
  with_others b d visited = record b {
    opened = opened_by d visited (length b.spans) b.opened;
    spans = b.spans ++ spans_by d;
    imports = b.imports ++ imports_by d;
  }

  -- behind an entry
  unfoldable pub entered : Behind → Item → Result Behind Fault
  entered b d =
      let f = frame_at b.frame d in
      let outer = innermost b.opened in
      nodes_added f outer b.nodes d >>= λ ns. Ok (record {
        frame = f;
        opened = opened_by d (is_visited_in outer f.ada) (length b.spans) b.opened;
        nodes = ns;
        spans = b.spans ++ spans_by d;
        imports = b.imports ++ imports_by d;
      })

  -- behind a token
  abbrev pub behind : Behind → Token → Result Behind Fault
  behind b (Null depth after) = Ok (closed b b.opened after)
  behind b (Entry d) = entered b d

  -- behind some tokens
  abbrev pub behind_all : Behind → List Token → Result Behind Fault
  behind_all b [] = Ok b
  behind_all b (t ∷ ts) = behind b t >>= λ c. behind_all c ts
