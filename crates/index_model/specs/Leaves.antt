-- What a leaf says of a node.
use Rattle.std.specs.Prelude.{◌≡◌, ℕ, ◌+◌, ◌<◌, ◌^◌, Bool, true, ◌&&◌, is_none, IfSome, nat_le, if◌then◌else◌, List, length, slice_range, slice_get, unwrap_or, Option, Some, None, option_map, option_and_then}
use Rattle.std.specs.Borrow.{Bor}
use Rattle.index_model.specs.declared.shard.Node.{Node}
use Rattle.index_model.specs.declared.leaf.Leaf.{Leaf}
use Rattle.index_model.specs.declared.place.TextBytes.{TextBytes}
use Rattle.index_model.specs.declared.small_node.SmallNode.{SmallNode}
use Rattle.index_model.specs.declared.place.TextInFile.{TextInFile}
use Rattle.index_model.specs.Marks.{is_declaration, is_external, is_enum_class, is_main, has_address, has_value, has_parent, has_name, has_linkage, has_next, is_near, is_aside, has_strings}
use Rattle.index_model.specs.Meaning.{value_of}
use Rattle.index_model.specs.NodeSeen.{NodeSeen, node_seen}
use Rattle.index_model.specs.Strings.{string_at, some_text}

-- the string that begins at an offset of `.debug_str`, if it is a text
abbrev pub string_of : List ℕ → ℕ → Option (List ℕ)
string_of strings at = some_text (value_of (string_at strings at))

-- a text of the file, by where it begins and its length
abbrev pub text_at : List ℕ → ℕ → ℕ → Option (List ℕ)
text_at file at len = if nat_le (at + len) (length file) then Some (slice_range file at (at + len)) else None

-- the text that stands at a place, if any does
abbrev pub text_of : List ℕ → TextInFile → Option (List ℕ)
text_of file p = if p.given then text_at file p.at p.length else None

-- all that a leaf says but the texts
abbrev pub leaf_facts : Leaf → Node
leaf_facts l = record {
  unit = l.unit;
  offset = l.offset;
  parent = if has_parent l.given then Some l.parent else None;
  tag = l.tag;
  declaration = is_declaration l.marks;
  external = is_external l.marks;
  enum_class = is_enum_class l.marks;
  main = is_main l.marks;
  address = has_address l.marks;
  value = has_value l.marks;
  name = None;
  linkage = None;
  next = if has_next l.given then Some (record { target = l.next; near = is_near l.given }) else None;
  signature = None;
  low = None;
  high = None;
  ranges = None;
}

-- a text of a leaf, by its place and its length
abbrev pub leaf_text : TextBytes → Leaf → ℕ → ℕ → Option (List ℕ)
leaf_text b l at length = if has_strings l.given then string_of b.strings.now at else text_at b.file.now at length

-- what a leaf says by itself
unfoldable pub leaf_seen : TextBytes → Leaf → NodeSeen
leaf_seen b l = record {
  facts = leaf_facts l;
  name = if has_name l.given then leaf_text b l l.name l.name_length else None;
  linkage = if has_linkage l.given then leaf_text b l l.linkage l.linkage_length else None;
}

-- what a small node says, where its texts are these strings
unfoldable pub small_seen : List ℕ → SmallNode → NodeSeen
small_seen strings s = record {
  facts = record {
    unit = s.unit;
    offset = s.offset;
    parent = s.parent;
    tag = s.tag;
    declaration = s.own.declaration;
    external = s.own.external;
    enum_class = s.own.enum_class;
    main = s.own.main;
    address = s.own.address;
    value = s.own.value;
    name = None;
    linkage = None;
    next = s.next;
    signature = None;
    low = None;
    high = None;
    ranges = None;
  };
  name = option_and_then (string_of strings) s.name;
  linkage = option_and_then (string_of strings) s.linkage;
}

-- ---- which nodes a leaf can stand for

-- a text, if there is one, is short and stands at a place in the file's first 4 GiB
abbrev pub StandsAt : List ℕ → Option (Bor (List ℕ)) → ℕ → Type 0
StandsAt file text at = IfSome text (λ t. (at < 2 ^ 32) × (length t.now < 2 ^ 16) × (text_at file at (length t.now) ≡ Some t.now))

-- no number is too large
abbrev pub AreSmall : Node → Type 0
AreSmall n = (n.offset < 2 ^ 32) × (n.tag < 2 ^ 16) × IfSome n.parent (λ p. p < 2 ^ 32) × IfSome n.next (λ r. r.target < 2 ^ 32)

-- no address and no signature
abbrev pub is_plain : Node → Bool
is_plain n = is_none n.signature && is_none n.low && is_none n.high && is_none n.ranges

-- ---- leaves among nodes that are kept whole

-- the node of a leaf, where these are kept whole
unfoldable pub unpacked : TextBytes → List Node → Leaf → NodeSeen
unpacked b whole l = if is_aside l.given then unwrap_or (option_map node_seen (slice_get whole l.offset)) (leaf_seen b l) else leaf_seen b l

-- where its node is kept whole, it is among these
abbrev pub IsInside : List Node → Leaf → Type 0
IsInside whole l = is_aside l.given ≡ true → l.offset < length whole
