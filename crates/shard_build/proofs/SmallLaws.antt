-- The node of an entry whose texts are strings of `.debug_str`.
use Rattle.std.proofs.Common.{◌≡◌, ℕ, Bool, List, ◌++◌, [], ◌∷◌, true, cond, Option, Some, None, option_map, option_and_then, Result, Ok, Err, refl, sym, ap, ◌∙◌}
use Rattle.index_model.specs.declared.small_node.SmallNode.{SmallNode}
use Rattle.index_model.specs.declared.unit.Unit.{Unit as UnitHeader}
use Rattle.index_model.specs.Attributes.{attribute, linkage_value, next_reference}
use Rattle.index_model.specs.Forms.{Str}
use Rattle.index_model.specs.Leaves.{small_seen, string_of}
use Rattle.index_model.specs.Meaning.{value_of}
use Rattle.index_model.specs.NodeSeen.{NodesGrown, with_node}
use Rattle.index_model.specs.Sections.{Section}
use Rattle.index_model.specs.ShardParts.{as_next}
use Rattle.index_model.specs.Strings.{Texts, str, string_at, some_text, text_of}
use Rattle.index_model.specs.Walk.{Item}
use Rattle.file_image.specs.TextLimits.{tested}
use Rattle.shard_build.specs.declared.open.Open.{Open}
use Rattle.shard_build.specs.declared.texts.TextOffsets.{TextOffsets}
use Rattle.shard_build.specs.Kept.{node_by, node_under, with_texts}
use Rattle.shard_build.specs.Small.{own_of, HasString, IsPlain, IsSmallNode}
use Rattle.shard_build.specs.Texts.{text_by, texts_by, AreOffsets}

-- a sound string is its own text
text_is : (r : Result (Option (List ℕ)) ℕ) → tested r ≡ Ok tt → r ≡ Ok (some_text (value_of r))
text_is (Ok t) sound = refl
text_is (Err code) sound = absurd cc

module _ (ss : List Section) (d : Item) (n : ℕ) where
  -- a sound string at a known offset
  pub string_is : (at : ℕ) → attribute n d ≡ Some (Str at) → tested (string_at (str ss) at) ≡ Ok tt → HasString ss d n (Some at)
  unfolding text_of
  string_is at is sound base wide = rw is (text_is (string_at (str ss) at) sound)

  -- no text
  pub none_is : attribute n d ≡ None → HasString ss d n None
  none_is is base wide = rw is refl

-- the node of an entry by its offsets
pub small_is : (ss : List Section) (u : ℕ × UnitHeader) (parent : Option ℕ) (d : Item) (o : TextOffsets) (s : SmallNode) → AreOffsets d o → IsPlain d → HasString ss d 0x03 o.name → HasString ss d o.linkage_attribute o.linkage → s ≡ record { unit = u.0; offset = d.at; parent = parent; tag = d.tag; own = own_of u.1.version d; name = o.name; linkage = o.linkage; next = option_map as_next (next_reference d) } → IsSmallNode ss u parent d s
unfolding texts_by node_under small_seen
small_is ss u parent d o s offsets plain name linkage is base =
    let t : Texts = record { name = option_and_then (string_of (str ss)) o.name; linkage = option_and_then (string_of (str ss)) o.linkage } in
    let own : text_by ss base u.1.wide (linkage_value d) ≡ Ok t.linkage = ap (text_by ss base u.1.wide) (sym offsets.0) ∙ linkage base u.1.wide in
    (t, rw (name base u.1.wide, own) refl, rw (is, plain.low, plain.high, plain.ranges, plain.signature) refl)

-- it is added as the node of the entry
pub added_small : (ss : List Section) (u : ℕ × UnitHeader) (outer : Option Open) (d : Item) (s : SmallNode) (base : Option ℕ) (old new : NodesGrown) (added : Bool) → IsSmallNode ss u (option_map (λ o. o.at) outer) d s → old.strings ≡ str ss → added ≡ true → new ≡ cond added (with_node old (small_seen old.strings s)) old → with_texts ss u base d (λ t. old.nodes ++ node_by ss u outer d t ∷ []) ≡ Ok new.nodes
unfolding node_by
added_small ss u outer d s base old new added small strings done is =
    let t = small base in
    let grown : new ≡ with_node old (small_seen (str ss) s) = is ∙ ap (λ (b : Bool). cond b (with_node old (small_seen old.strings s)) old) done ∙ ap (λ (xs : List ℕ). with_node old (small_seen xs s)) strings in
    rw (t.1, grown, t.2) refl
