-- The items of a unit, one entry after the other.
use Rattle.std.proofs.Common.{◌≡◌, Bool, true, false, cond, List, [], ◌∷◌, ◌++◌, map, filter, sym, ap, subst, ◌∙◌, append_assoc, append-nil}
use Rattle.std.specs.Prelude.{Contains}
use Rattle.std.specs.List.{AllZip}
use Rattle.std.proofs.lemmas.List.{map-append}
use Rattle.std.proofs.lemmas.List.Elements.{Contains-append_right, filter-append}
use Rattle.common_laws.proofs.Lists.{all_zip_append}
use Rattle.common_laws.proofs.Members.{contains_here}
use Rattle.index_model.specs.Program.{Walked, Located, items_of}
use Rattle.index_model.specs.Sections.{Section}
use Rattle.index_model.specs.Walk.{Item, Walk, items}
use Rattle.index_model.proofs.Located.{at_home}
use Rattle.gdb_items.specs.declared.item.UnitItem.{UnitItem}
use Rattle.gdb_items.specs.declared.which.Which.{Which}
use Rattle.gdb_items.specs.Items.{keeps, kept_of, IsItemOf}

-- whether an item is kept
abbrev keeps_there : Which → Located → Bool
keeps_there which d = keeps which d.item

-- some entries of a unit were passed, those that are kept were read, and these are still to come
pub record IsReadTo (ss : List Section) (w : Walked) (which : Which) (read : List UnitItem) (ahead : Walk) : Type 0 where
  pub passed : List Item
  pub whole : passed ++ items ahead ≡ items_of w
  pub are : AllZip (IsItemOf ss) read (filter (λ d. keeps which d.item) (map (at_home w) passed))

-- before the first entry
pub read_none : (ss : List Section) (w : Walked) (which : Which) (read : List UnitItem) (ahead : Walk) → read ≡ [] → ahead ≡ w.walk → IsReadTo ss w which read ahead
read_none ss w which read ahead none same = record {
  passed = [];
  whole = ap items same;
  are = subst (λ (others : List UnitItem). AllZip (IsItemOf ss) others []) (sym none) tt;
}

module _ (ss : List Section) (w : Walked) (which : Which) (read : List UnitItem) (old : Walk) (r : IsReadTo ss w which read old) where
  -- behind the last entry the items are those of all
  pub read_all : items old ≡ [] → AllZip (IsItemOf ss) read (kept_of which w)
  read_all none =
      let all : r.passed ≡ items_of w = sym (append-nil r.passed) ∙ ap (λ (ds : List Item). r.passed ++ ds) (sym none) ∙ r.whole in
      subst (λ (ds : List Item). AllZip (IsItemOf ss) read (filter (keeps_there which) (map (at_home w) ds))) all r.are

  module _ (d : Item) (next : Walk) (begins : items old ≡ d ∷ items next) where
    ahead : r.passed ++ d ∷ items next ≡ items_of w
    ahead = ap (λ (ds : List Item). r.passed ++ ds) (sym begins) ∙ r.whole

    -- the next entry is one of the unit
    pub is_of_unit : Contains (items_of w) d
    is_of_unit = subst (λ (ds : List Item). Contains ds d) ahead (Contains-append_right r.passed (d ∷ items next) d (contains_here d (items next)))

    -- those that are kept, with one entry more
    with_one : filter (keeps_there which) (map (at_home w) (r.passed ++ d ∷ [])) ≡ filter (keeps_there which) (map (at_home w) r.passed) ++ cond (keeps which d) (at_home w d ∷ []) []
    with_one = ap (filter (keeps_there which)) (map-append (at_home w) r.passed (d ∷ [])) ∙ filter-append (keeps_there which) (map (at_home w) r.passed) (at_home w d ∷ [])

    -- an entry that is kept
    pub read_one : keeps which d ≡ true → (i : UnitItem) → IsItemOf ss i (at_home w d) → (more : List UnitItem) → more ≡ read ++ i ∷ [] → IsReadTo ss w which more next
    read_one on i own more added =
        let kept = with_one ∙ ap (λ (b : Bool). filter (keeps_there which) (map (at_home w) r.passed) ++ cond b (at_home w d ∷ []) []) on in
        let zipped = all_zip_append (IsItemOf ss) read (filter (keeps_there which) (map (at_home w) r.passed)) (i ∷ []) (at_home w d ∷ []) r.are (own, tt) in
        record {
          passed = r.passed ++ d ∷ [];
          whole = append_assoc r.passed (d ∷ []) (items next) ∙ ahead;
          are = subst (λ (others : List UnitItem). AllZip (IsItemOf ss) others (filter (keeps_there which) (map (at_home w) (r.passed ++ d ∷ [])))) (sym added) (subst (AllZip (IsItemOf ss) (read ++ i ∷ [])) (sym kept) zipped);
        }

    -- an entry that isn't
    pub pass_one : keeps which d ≡ false → IsReadTo ss w which read next
    pass_one off =
        let kept = with_one ∙ ap (λ (b : Bool). filter (keeps_there which) (map (at_home w) r.passed) ++ cond b (at_home w d ∷ []) []) off ∙ append-nil (filter (keeps_there which) (map (at_home w) r.passed)) in
        record {
          passed = r.passed ++ d ∷ [];
          whole = append_assoc r.passed (d ∷ []) (items next) ∙ ahead;
          are = subst (AllZip (IsItemOf ss) read) (sym kept) r.are;
        }
