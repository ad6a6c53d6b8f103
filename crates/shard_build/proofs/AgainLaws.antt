-- An entry that is read again is that of its unit, and it has its texts.
use Rattle.std.proofs.Common.{◌≡◌, ℕ, ◌+◌, ◌-◌, ◌≤◌, Bool, eqb, length, List, [], ◌∷◌, Option, Some, None, Result, Ok, Err, refl, sym, ap, subst, ◌∙◌, arith, ⊎_elim}
use Rattle.std.specs.Prelude.{Contains, codes, find, option_and_then}
use Rattle.common_laws.proofs.Members.{contains_cases, to_map}
use Rattle.ix_base.specs.declared.fault.Fault.{Fault}
use Rattle.ix_base.specs.Reading.{Input}
use Rattle.index_model.specs.declared.unit.Unit.{Unit as UnitHeader}
use Rattle.index_model.specs.Abbreviations.{Abbrev, table}
use Rattle.index_model.specs.Attributes.{read_as, as_offset}
use Rattle.index_model.specs.Faults.{none_or, scanned}
use Rattle.index_model.specs.Meaning.{◌>>◌, at_place, each}
use Rattle.index_model.specs.LawsTexts.{StandsIn}
use Rattle.index_model.specs.Parents.{parent_offset}
use Rattle.index_model.specs.ShardParts.{IsNodeOf, IsSeenOf}
use Rattle.index_model.specs.declared.shard.Node.{Node}
use Rattle.index_model.specs.Program.{Walked, Located, walked, items_of, located}
use Rattle.index_model.specs.Sections.{Section, section_bytes}
use Rattle.index_model.specs.Strings.{Texts, base_of, texts_of}
use Rattle.index_model.specs.Walk.{Item, walk_of, parent_of}
use Rattle.index_model.proofs.FirstEntry.{first_is_root}
use Rattle.index_model.proofs.Meanings.{bind_ok, first_ok, then_ok, same_ok}
use Rattle.index_model.proofs.Scans.{read, walked_by}
use Rattle.index_model.proofs.TextLaws.{attribute_texts_in}
use Rattle.index_model.proofs.Located.{at_home}
use Rattle.entry_scan.specs.Inside.{walked_of}
use Rattle.file_image.specs.Images.{unit_bytes}
use Rattle.shard_build.specs.Texts.{texts_by, HoldsTexts}
use Rattle.index_model.specs.NodeSeen.{NodeSeen, node_seen}
use Rattle.shard_build.specs.Kept.{node_under}
use Rattle.shard_build.proofs.NodeLaws.{place_of, seen_under}
use Rattle.shard_build.proofs.RunLaws.{body_is}

-- ---- the root

module _ (ss : List Section) (u : ℕ × UnitHeader) (w : Walked) (is : walked ss u ≡ Ok w) where
  pub base_by_root : (r : Item) (rest : List Item) → items_of w ≡ r ∷ rest → read_as as_offset 0x72 r ≡ base_of 0x72 w
  base_by_root r rest all = ap (option_and_then (read_as as_offset 0x72)) (sym (first_is_root ss u w is r rest all))

-- without entries there is no base
pub no_base : (w : Walked) → items_of w ≡ [] → None ≡ base_of 0x72 w
no_base w none = ap (λ (ds : List Item). option_and_then (read_as as_offset 0x72) (find (λ d. eqb d.depth 0) ds)) (sym none)

-- ---- texts

each_ok : {A B E : Type 0} (f : A → Result B E) (xs : List A) (ys : List B) → each f xs ≡ Ok ys → (x : A) → Contains xs x → (y : B) × (f x ≡ Ok y)
each_ok f [] ys is x c = absurd (omega (arith, c.1))
each_ok {B = B} {E = E} f (z ∷ zs) ys is x c =
    let a = bind_ok (f z) _ ys is in
    let b = bind_ok (each f zs) _ ys a.2 in
    ⊎_elim
    (λ (same : z ≡ x). (a.0, ap f (sym same) ∙ a.1))
    (λ (later : Contains zs x). each_ok f zs b.0 b.1 x later)
    (contains_cases z zs x c)

placed_ok : (place : ℕ) (r : Result Texts ℕ) (t : Texts) → at_place place r ≡ Ok t → r ≡ Ok t
placed_ok place (Ok x) t is = cc
placed_ok place (Err code) t is = absurd cc

abbrev texts_at : List Section → Located → Result Texts Fault
texts_at ss d = at_place d.item.at (texts_of ss d)

abbrev tested : List Section → Walked → Result Walked Fault
tested ss w = none_or w.walk.end >> (each (texts_at ss) (located w) >> Ok w)

module _ (ss : List Section) (u : ℕ × UnitHeader) (w : Walked) (is : scanned ss u ≡ Ok w) where
  -- the texts of an entry are sound
  has_texts : (d : Item) → Contains (items_of w) d → (t : Texts) × (texts_of ss (at_home w d) ≡ Ok t)
  unfolding scanned
  has_texts d c =
      let p = bind_ok (walked ss u) (tested ss) w is in
      let q = then_ok (none_or p.0.walk.end) (each (texts_at ss) (located p.0) >> Ok p.0) w p.2 in
      let e : p.0 ≡ w = same_ok p.0 w (then_ok (each (texts_at ss) (located p.0)) (Ok p.0) w q) in
      let read = first_ok (each (texts_at ss) (located p.0)) (Ok p.0) w q in
      let own : each (texts_at ss) (located w) ≡ Ok read.0 = subst (λ (v : Walked). each (texts_at ss) (located v) ≡ Ok read.0) e read.1 in
      let t = each_ok (texts_at ss) (located w) read.0 own (at_home w d) (to_map (at_home w) (items_of w) d c) in
      (t.0, placed_ok d.at (texts_of ss (at_home w d)) t.0 t.1)

  texts_say : (d : Item) → texts_by ss (base_of 0x72 w) w.unit.wide d ≡ texts_of ss (at_home w d)
  unfolding texts_by texts_of
  texts_say d = refl

  -- so are those by the base that the root says
  pub texts_read : (base : Option ℕ) → base ≡ base_of 0x72 w → (wide : Bool) → wide ≡ w.unit.wide → (d : Item) → Contains (items_of w) d → (t : Texts) × (texts_of ss (at_home w d) ≡ Ok t) × (texts_by ss base wide d ≡ Ok t)
  texts_read base same wide format d c =
      let t = has_texts d c in
      (t.0, t.1, ap (λ (b : Option ℕ). texts_by ss b wide d) same ∙ ap (λ (b : Bool). texts_by ss (base_of 0x72 w) b d) format ∙ texts_say d ∙ t.1)

-- the texts of an entry stand in the bytes of its unit
pub holds_texts : (ss : List Section) (u : ℕ × UnitHeader) (w : Walked) → walked ss u ≡ Ok w → (bytes : List ℕ) → bytes ≡ unit_bytes ss u.1 → (d : Item) → Contains (items_of w) d → HoldsTexts bytes u.1 d
holds_texts ss u w is bytes own d c n text v = subst (λ (bs : List ℕ). StandsIn bs text (d.at - u.1.start) (d.after - u.1.start)) (sym own) (attribute_texts_in ss u w is d c n text v)

-- ---- the walk

-- the walk by the unit's own bytes is that of the unit
pub walk_is : (ss : List Section) (u : ℕ × UnitHeader) (a : List Abbrev) (bytes : List ℕ) (w : Walked) → bytes ≡ unit_bytes ss u.1 → u.1.body ≤ length bytes → table (section_bytes ss (codes ".debug_abbrev")) u.1.«abbrev» ≡ Some a → walked ss u ≡ Ok w → walked_of u.1 a bytes u.0 ≡ w
walk_is ss u a bytes w own header found is =
    ap (λ (rest : List ℕ). let i : Input = record { at = u.1.start + u.1.body; rest = rest } in let v : Walked = record { number = u.0; unit = u.1; walk = walk_of u.1 a i } in v) (body_is ss u.1 bytes own header) ∙ walked_by ss u a w found is

-- ---- the node

-- a node that is made of an entry with its parent and its texts is that of the entry
pub node_again : (ss : List Section) (w : Walked) (d : Item) (t : Texts) → texts_of ss (at_home w d) ≡ Ok t → (n : Node) (o : ℕ) → parent_offset (at_home w d) ≡ Some o → node_seen n ≡ node_under ss (w.number, w.unit) (Some o) d t → IsNodeOf ss n (at_home w d)
node_again ss w d t read n o parent seen =
    subst (λ (x : NodeSeen). IsSeenOf ss x (at_home w d)) (sym seen) (seen_under ss w d t read (Some o) (sym parent ∙ sym (place_of w (parent_of (items_of w) d))))
