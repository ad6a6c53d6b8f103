-- The node of an entry has its facts and its texts.
use Rattle.std.proofs.Common.{◌≡◌, ℕ, List, Option, Some, None, option_map, Result, Ok, refl, sym, ap, ◌∙◌}
use Rattle.index_model.specs.Meaning.{value_of}
use Rattle.index_model.specs.Sections.{Section}
use Rattle.index_model.specs.Attributes.{name_value, linkage_value}
use Rattle.index_model.specs.Program.{Walked, Located, items_of}
use Rattle.index_model.specs.ShardParts.{node_facts, IsSeenOf}
use Rattle.index_model.specs.Strings.{Texts, text_in, texts_of, some_text, own_name, own_linkage_name}
use Rattle.index_model.specs.Walk.{Item, parent_of}
use Rattle.index_model.proofs.Meanings.{bind_ok, same_ok}
use Rattle.index_model.proofs.Located.{at_home}
use Rattle.shard_build.specs.declared.open.Open.{Open}
use Rattle.shard_build.specs.Kept.{node_by, node_under}

-- the offset of an entry of a unit
pub place_of : (w : Walked) (o : Option Item) → option_map (λ (e : Item). e.at) o ≡ option_map (λ (e : Located). e.item.at) (option_map (at_home w) o)
place_of w None = refl
place_of w (Some e) = refl

module _ (ss : List Section) (w : Walked) (d : Item) (t : Texts) (is : texts_of ss (at_home w d) ≡ Ok t) where
  -- its texts are those of the definitions
  pub texts_are : (t.name ≡ own_name ss (at_home w d)) × (t.linkage ≡ own_linkage_name ss (at_home w d))
  unfolding texts_of own_name own_linkage_name
  texts_are =
      let a = bind_ok (text_in ss w (name_value d)) _ t is in
      let b = bind_ok (text_in ss w (linkage_value d)) _ t a.2 in
      let made : Texts = record { name = a.0; linkage = b.0 } in
      let same : made ≡ t = same_ok made t b.2 in
      let of_name : Result (Option (List ℕ)) ℕ → Option (List ℕ) = λ (r : Result (Option (List ℕ)) ℕ). some_text (value_of r) in
      (sym (ap of_name a.1 ∙ ap (λ (x : Texts). x.name) same), sym (ap of_name b.1 ∙ ap (λ (x : Texts). x.linkage) same))

  -- the node that is made of an entry is that of the entry
  pub seen_under : (parent : Option ℕ) → parent ≡ option_map (λ e. e.at) (parent_of (items_of w) d) → IsSeenOf ss (node_under ss (w.number, w.unit) parent d t) (at_home w d)
  unfolding node_under node_facts
  seen_under parent is = record {
    facts = ap (λ (p : Option ℕ). record (node_under ss (w.number, w.unit) parent d t).facts { parent = p }) (is ∙ place_of w (parent_of (items_of w) d));
    name = texts_are.0;
    linkage = texts_are.1;
  }

  pub seen_of : (outer : Option Open) → option_map (λ o. o.at) outer ≡ option_map (λ e. e.at) (parent_of (items_of w) d) → IsSeenOf ss (node_by ss (w.number, w.unit) outer d t) (at_home w d)
  unfolding node_by
  seen_of outer is = seen_under (option_map (λ o. o.at) outer) is
