-- What the references of one entry give, in the order in which they are followed.
use Rattle.std.specs.Prelude.{ℕ, Bool, true, not, ◌&&◌, ◌||◌, nat_le, List, filter, flat_map, length, is_some, Option, Some, None, option_map, Result, Ok}
use Rattle.ix_base.specs.declared.fault.Fault.{Fault}
use Rattle.ix_base.specs.declared.code.TheConstants.{NAME_TOO_LONG}
use Rattle.ix_base.specs.declared.limits.TheConstants.{MAX_QUALIFIED_NAME}
use Rattle.index_model.specs.Meaning.{◌>>=◌, ◌>>◌, holds_or, at_place, each}
use Rattle.index_model.specs.Attributes.{is_declaration, has_address}
use Rattle.index_model.specs.Program.{Walked, Program, Located, items_of, located}
use Rattle.index_model.specs.declared.rules.Class.{Class}
use Rattle.index_model.specs.declared.rules.Facts.{Facts}
use Rattle.index_model.specs.Languages.{class_of_unit}
use Rattle.index_model.specs.Chains.{chain_of, chain_end, spelled_name, name_with, is_external}
use Rattle.index_model.specs.Rules.{is_visited, is_in_table, has_value, is_indexed, is_ada}
use Rattle.index_model.specs.Names.{Member, scope_path, qualified_name}

-- an entry with its language class, its chain, the name that the file spells for it, and its scope path
pub record Link : Type 0 where
  pub entry : Located
  pub class : Class
  pub chain : List Located
  pub spelled : Option (List ℕ)
  pub path : List Member

-- the name of the entry
abbrev pub name_in : Link → Option (List ℕ)
name_in k = name_with k.entry k.spelled

-- what the rules ask of the entry, which is visited
unfoldable pub facts_of : Link → Facts
facts_of k = record {
  tag = k.entry.item.tag;
  class = k.class;
  visited = true;
  named = is_some (name_in k);
  declaration = is_declaration k.entry.item;
  external = is_external k.chain;
  address = has_address k.entry.home.unit.version k.entry.item;
  value = has_value k.entry.item;
}

-- whether the entry is indexed
abbrev pub is_link_indexed : Link → Bool
is_link_indexed k = is_indexed (facts_of k)

-- the qualified name of the entry, if it has a name
abbrev pub qualified_of : Link → Option (List ℕ)
qualified_of k = option_map (qualified_name k.class k.path) (name_in k)

-- the qualified name isn't too long
abbrev pub is_within_limit : Option (List ℕ) → Bool
is_within_limit (Some name) = nat_le (length name) MAX_QUALIFIED_NAME
is_within_limit None = true

-- The chain of the entry is followed, then its signature where its name needs it, then its scope path. If the entry is indexed, the length of its qualified name is tested.
unfoldable pub link_of : Program → Located → Result Link ℕ
link_of p d = do
  chain ← chain_of p d
  spelled ← spelled_name p d chain
  path ← scope_path p (chain_end d chain)
  let k : Link = record { entry = d; class = class_of_unit p d.home; chain = chain; spelled = spelled; path = path }
  holds_or (not (is_link_indexed k) || is_within_limit (qualified_of k)) NAME_TOO_LONG
  Ok k

-- the visited entries of a unit whose tags stand in the table
unfoldable pub followed : Program → Walked → List Located
followed p w =
    let ada = is_ada (class_of_unit p w) in
    filter (λ d. is_in_table d.item.tag && is_visited ada (items_of w) d.item) (located w)

-- what these units' references give, in section order, or the first fault at the entry whose references are followed
unfoldable pub links_in : Program → List Walked → Result (List Link) Fault
links_in p ws = each (λ d. at_place d.item.at (link_of p d)) (flat_map (followed p) ws)

-- the indexed entries of these links
abbrev pub indexed_in : List Link → List Link
indexed_in = filter is_link_indexed
