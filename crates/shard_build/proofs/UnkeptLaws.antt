-- An entry of which nothing is kept changes nothing.
use Rattle.std.proofs.Common.{◌≡◌, ℕ, ◌==◌, ◌&&◌, not, Bool, true, false, List, append-nil, Option, Some, None, option_and_then, Result, Ok, Err, inl, inr, refl, ap, ◌∙◌}
use Rattle.std.specs.Option.{option_or}
use Rattle.ix_base.specs.declared.fault.Fault.{Fault}
use Rattle.index_model.specs.declared.unit.Unit.{Unit as UnitHeader}
use Rattle.index_model.specs.Attributes.{attribute, read_as, as_text, linkage_value}
use Rattle.index_model.specs.Forms.{Value}
use Rattle.index_model.specs.Meaning.{at_place}
use Rattle.index_model.specs.Rules.{is_in_table}
use Rattle.index_model.specs.Sections.{Section}
use Rattle.index_model.specs.Tags.{imported_unit}
use Rattle.index_model.specs.Strings.{Texts, text_of}
use Rattle.index_model.specs.Walk.{Item}
use Rattle.file_image.specs.TextLimits.{tested}
use Rattle.shard_build.specs.Kept.{Behind, innermost, is_visited_in, entered, has_node}
use Rattle.shard_build.specs.Texts.{text_by, texts_by}
use Rattle.shard_build.specs.Unkept.{is_leaf, IsSoundText, AreSoundTexts}
use Rattle.shard_build.proofs.EntrySteps.{frame, texts, made, entered_by}

-- an entry below the root that has no children, no node and no import
record IsUnkept (b : Behind) (d : Item) : Type 0 where
  below : (d.depth == 0) ≡ false
  children : d.children ≡ false
  import_ : (d.tag == imported_unit) ≡ false
  node : (is_in_table d.tag && is_visited_in (innermost b.opened) b.frame.ada) ≡ false

unkept_by : (b : Behind) (d : Item) (root children import_ node : Bool) → (d.depth == 0) ≡ root → d.children ≡ children → (d.tag == imported_unit) ≡ import_ → (is_in_table d.tag && is_visited_in (innermost b.opened) b.frame.ada) ≡ node → (((not root && not children) && not import_) && not node) ≡ true → IsUnkept b d
unkept_by b d false false false false r c i n all = record { below = r; children = c; import_ = i; node = n }
unkept_by b d true c i n re ce ie ne all = absurd cc
unkept_by b d false true i n re ce ie ne all = absurd cc
unkept_by b d false false true n re ce ie ne all = absurd cc
unkept_by b d false false false true re ce ie ne all = absurd cc

module _ (ss : List Section) (u : ℕ × UnitHeader) (b : Behind) (d : Item) where
  same : IsUnkept b d → (t : Texts) → made ss u b d t ≡ b
  unfolding has_node
  same h t = rw (h.below, h.children, h.import_, h.node, append-nil b.nodes, append-nil b.spans, append-nil b.imports) refl

  pub unchanged : (is_leaf d && not (is_in_table d.tag && is_visited_in (innermost b.opened) b.frame.ada)) ≡ true → AreSoundTexts ss u.1.wide d → entered ss u b d ≡ Ok b
  unchanged unkept sound =
      let h = unkept_by b d (d.depth == 0) d.children (d.tag == imported_unit) (is_in_table d.tag && is_visited_in (innermost b.opened) b.frame.ada) refl refl refl refl unkept in
      let t = sound (frame ss u b d).str_offsets_base in
      let read : texts ss u b d ≡ Ok t.0 = ap (at_place d.at) t.1 in
      entered_by ss u b d (Ok t.0) read ∙ ap {B = Result Behind Fault} (λ (x : Behind). Ok x) (same h t.0)

-- ---- texts

of_tested : {A E : Type 0} (r : Result A E) → tested r ≡ Ok tt → (x : A) × (r ≡ Ok x)
of_tested (Ok x) e = (x, refl)
of_tested (Err code) e = absurd cc

alone : (x : Option Value) (v : Option Value) → v ≡ None → option_or x (option_and_then as_text v) ≡ x
alone (Some x) v e = refl
alone None v e = rw e refl

module _ (ss : List Section) (wide : Bool) where
  text_ok : (base : Option ℕ) (v : Option Value) → IsSoundText ss v → (t : Option (List ℕ)) × (text_by ss base wide (option_and_then as_text v) ≡ Ok t)
  unfolding text_of
  text_ok base v (inl none) = rw none (None, refl)
  text_ok base v (inr h) = let t = of_tested _ h.2 in (t.0, rw h.1 t.1)

  pub texts_ok : (d : Item) → IsSoundText ss (attribute 0x03 d) → IsSoundText ss (attribute 0x6E d) → attribute 0x2007 d ≡ None → AreSoundTexts ss wide d
  unfolding texts_by
  texts_ok d name linkage old base =
      let n = text_ok base (attribute 0x03 d) name in
      let l = text_ok base (attribute 0x6E d) linkage in
      let own : linkage_value d ≡ read_as as_text 0x6E d = alone (read_as as_text 0x6E d) (attribute 0x2007 d) old in
      let read : text_by ss base wide (linkage_value d) ≡ Ok l.0 = ap (text_by ss base wide) own ∙ l.1 in
      (record { name = n.0; linkage = l.0 }, rw (n.1, read) refl)
