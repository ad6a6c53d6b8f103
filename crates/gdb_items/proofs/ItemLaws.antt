-- What is told of an entry of a unit is what the definitions ask of it.
use Rattle.std.proofs.Common.{◌≡◌, List, Option, Some, None, Ok, refl, ap, ◌∙◌}
use Rattle.std.specs.Prelude.{option_map, option_and_then}
use Rattle.index_model.specs.Attributes.{Reference, has_enum_class}
use Rattle.index_model.specs.Program.{Walked}
use Rattle.index_model.specs.References.{target_of}
use Rattle.index_model.specs.Sections.{Section}
use Rattle.index_model.specs.ShardParts.{as_next}
use Rattle.index_model.specs.Strings.{Texts, texts_of}
use Rattle.index_model.specs.Walk.{Item}
use Rattle.index_model.proofs.Located.{at_home}
use Rattle.shard_build.specs.Kept.{target_by}
use Rattle.shard_build.proofs.NodeLaws.{texts_are}
use Rattle.gdb_entries.specs.Chains.{facts_of, origin_of}
use Rattle.gdb_items.specs.declared.item.UnitItem.{UnitItem}
use Rattle.gdb_items.specs.Items.{IsItemOf}
use Rattle.gdb_items.specs.Texts.{texts_told}

-- what a reference names by its unit's bytes it names in the file
named_there : (ss : List Section) (w : Walked) (o : Option Reference) → option_and_then (target_by ss (w.number, w.unit)) (option_map as_next o) ≡ option_and_then (target_of ss w) o
unfolding target_of
named_there ss w None = refl
named_there ss w (Some r) = refl

module _ (ss : List Section) (w : Walked) (d : Item) (t : Texts) (is : texts_of ss (at_home w d) ≡ Ok t) (i : UnitItem) where
  pub item_there : i.offset ≡ d.at → i.depth ≡ d.depth → i.facts ≡ facts_of d → i.scoped ≡ has_enum_class d →
      i.origin ≡ option_and_then (target_by ss (w.number, w.unit)) (option_map as_next (origin_of d)) → texts_told ss i.name i.linkage ≡ t → IsItemOf ss i (at_home w d)
  item_there at deep says enum named texts =
      let own = texts_are ss w d t is in
      record {
        offset = at;
        depth = deep;
        facts = says;
        scoped = enum;
        origin = named ∙ named_there ss w (origin_of d);
        name = ap (λ (x : Texts). x.name) texts ∙ own.0;
        linkage = ap (λ (x : Texts). x.linkage) texts ∙ own.1;
      }
