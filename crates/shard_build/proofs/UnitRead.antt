-- The nodes of the entries of a unit, one entry after the other.
use Rattle.std.proofs.Common.{◌≡◌, ℕ, List, [], ◌∷◌, ◌++◌, map, Option, Ok, option_map, sym, ap, subst, ◌∙◌, append_assoc, append-nil}
use Rattle.std.specs.Prelude.{Contains}
use Rattle.std.specs.List.{AllZip}
use Rattle.std.proofs.lemmas.List.{map-append}
use Rattle.std.proofs.lemmas.List.Elements.{Contains-append_right}
use Rattle.common_laws.proofs.Lists.{all_zip_append}
use Rattle.common_laws.proofs.Members.{contains_here}
use Rattle.index_model.specs.declared.unit.Unit.{Unit as UnitHeader}
use Rattle.index_model.specs.NodeSeen.{NodeSeen}
use Rattle.index_model.specs.Program.{Walked, Located, walked, items_of, located}
use Rattle.index_model.specs.Sections.{Section}
use Rattle.index_model.specs.ShardParts.{IsSeenOf}
use Rattle.index_model.specs.Strings.{Texts, texts_of}
use Rattle.index_model.specs.Walk.{Item, Walk, items, parent_of}
use Rattle.index_model.proofs.Located.{at_home}
use Rattle.index_model.proofs.OrderLaws.{walk_rises}
use Rattle.index_model.proofs.ParentLaws.{Rise}
use Rattle.shard_build.specs.Again.{AreLast, parent_behind}
use Rattle.shard_build.specs.Kept.{node_under}
use Rattle.shard_build.proofs.AboveLaws.{behind_is_parent}
use Rattle.shard_build.proofs.NodeLaws.{seen_under}

-- some entries of a unit were read, and these are still to come
pub record IsReadTo (ss : List Section) (w : Walked) (nodes : List NodeSeen) (offsets : List (Option ℕ)) (ahead : Walk) : Type 0 where
  pub passed : List Item
  pub whole : passed ++ items ahead ≡ items_of w
  pub are : AllZip (IsSeenOf ss) nodes (map (at_home w) passed)
  pub above : AreLast passed offsets

-- before the first entry
pub read_none : (ss : List Section) (w : Walked) (nodes : List NodeSeen) (offsets : List (Option ℕ)) (ahead : Walk) → nodes ≡ [] → AreLast [] offsets → ahead ≡ w.walk → IsReadTo ss w nodes offsets ahead
read_none ss w nodes offsets ahead none above same = record {
  passed = [];
  whole = ap items same;
  are = subst (λ (ns : List NodeSeen). AllZip (IsSeenOf ss) ns []) (sym none) tt;
  above = above;
}

module _ (ss : List Section) (w : Walked) (nodes : List NodeSeen) (offsets : List (Option ℕ)) (old : Walk) (r : IsReadTo ss w nodes offsets old) where
  -- behind the last entry the nodes are those of all
  pub read_all : items old ≡ [] → AllZip (IsSeenOf ss) nodes (located w)
  read_all none =
      let all : r.passed ≡ items_of w = sym (append-nil r.passed) ∙ ap (λ (ds : List Item). r.passed ++ ds) (sym none) ∙ r.whole in
      subst (λ (ds : List Item). AllZip (IsSeenOf ss) nodes (map (at_home w) ds)) all r.are

  module _ (d : Item) (next : Walk) (begins : items old ≡ d ∷ items next) where
    ahead : r.passed ++ d ∷ items next ≡ items_of w
    ahead = ap (λ (ds : List Item). r.passed ++ ds) (sym begins) ∙ r.whole

    -- the next entry is one of the unit
    pub is_of_unit : Contains (items_of w) d
    is_of_unit = subst (λ (ds : List Item). Contains ds d) ahead (Contains-append_right r.passed (d ∷ items next) d (contains_here d (items next)))

    module _ (u : ℕ × UnitHeader) (walk : walked ss u ≡ Ok w) (parent : Option ℕ) (is : (passed : List Item) → AreLast passed offsets → parent ≡ parent_behind passed d) where
      parent_there : parent ≡ option_map (λ e. e.at) (parent_of (items_of w) d)
      parent_there =
          let rise = walk_rises ss u w walk in
          is r.passed r.above ∙ behind_is_parent rise.0 r.passed d (items next) (subst (Rise rise.0) (sym ahead) rise.1) ∙ ap (λ (ds : List Item). option_map (λ (e : Item). e.at) (parent_of ds d)) ahead

      -- one entry more
      pub read_one : (t : Texts) → texts_of ss (at_home w d) ≡ Ok t → (node : NodeSeen) → node ≡ node_under ss (w.number, w.unit) parent d t →
          (more : List NodeSeen) → more ≡ nodes ++ node ∷ [] → (after : List (Option ℕ)) → ((passed : List Item) → AreLast passed offsets → AreLast (passed ++ d ∷ []) after) → IsReadTo ss w more after next
      read_one t read node seen more added after last =
          let here : IsSeenOf ss node (at_home w d) = subst (λ (n : NodeSeen). IsSeenOf ss n (at_home w d)) (sym seen) (seen_under ss w d t read parent parent_there) in
          let homes : map (at_home w) (r.passed ++ d ∷ []) ≡ map (at_home w) r.passed ++ at_home w d ∷ [] = map-append (at_home w) r.passed (d ∷ []) in
          let zipped : AllZip (IsSeenOf ss) (nodes ++ node ∷ []) (map (at_home w) r.passed ++ at_home w d ∷ []) = all_zip_append (IsSeenOf ss) nodes (map (at_home w) r.passed) (node ∷ []) (at_home w d ∷ []) r.are (here, tt) in
          record {
            passed = r.passed ++ d ∷ [];
            whole = append_assoc r.passed (d ∷ []) (items next) ∙ ahead;
            are = subst (λ (ns : List NodeSeen). AllZip (IsSeenOf ss) ns (map (at_home w) (r.passed ++ d ∷ []))) (sym added) (subst (λ (ds : List Located). AllZip (IsSeenOf ss) (nodes ++ node ∷ []) ds) (sym homes) zipped);
            above = last r.passed r.above;
          }
