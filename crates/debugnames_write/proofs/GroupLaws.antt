-- Each name with its entries.
use Rattle.std.proofs.Common.{◌≡◌, ℕ, ◌+◌, ◌<◌, ◌≤◌, List, [], ◌∷◌, ◌++◌, length, get_or, take, drop, map, refl, sym, ap, ◌∙◌, subst, arith, append_assoc}
use Rattle.std.specs.Prelude.{All, flat_map, sum_by}
use Rattle.std.proofs.lemmas.List.{append-nil, drop_all, drop_at, drop-drop, drop-map, drop_more, length-map, map_push, take_at, take-map}
use Rattle.std.proofs.lemmas.List.Elements.{All-cons, All-head, All-nil, All-tail}
use Rattle.common_laws.proofs.Filters.{map_map}
use Rattle.index_model.specs.NameIndex.{Indexed}
use Rattle.query_engine.specs.declared.listing.ListedName.{ListedName}
use Rattle.query_engine.specs.Listed.{names_of}
use Rattle.debugnames_write.specs.declared.groups.NameEntries.{NameEntries}
use Rattle.debugnames_write.specs.declared.item.IndexEntry.{IndexEntry}
use Rattle.debugnames_write.specs.Counts.{count_of}
use Rattle.debugnames_write.specs.Groups.{AreGroupsOf, entries_of}
use Rattle.debugnames_write.specs.Items.{AreSortedItems}
use Rattle.debugnames_write.specs.Names.{Kept, cut, kept_of_group}
use Rattle.debugnames_write.specs.Seen.{item_seen, items_seen}
use Rattle.debugnames_write.proofs.PartLaws.{IsSized, sum_is}
use Rattle.debugnames_write.proofs.Whole.{all_unmap}

-- ---- one group more

module _ (items : List IndexEntry) (names : List ListedName) (groups : List NameEntries) (start k : ℕ) where
  pub cut_more : (d : ListedName) (g : NameEntries) (new : List NameEntries) → k < length names → map kept_of_group groups ++ cut (drop start items) (drop k names) ≡ cut items names
      → kept_of_group g ≡ ((get_or names k d).name.now, take (get_or names k d).count (drop start items)) → new ≡ groups ++ g ∷ []
      → map kept_of_group new ++ cut (drop (start + (get_or names k d).count) items) (drop (k + 1) names) ≡ cut items names
  unfolding cut
  cut_more d g new lt inv own is =
      let n : ListedName = get_or names k d in
      let rest : List Kept = cut (drop (start + n.count) items) (drop (k + 1) names) in
      let next : cut (drop start items) (drop k names) ≡ kept_of_group g ∷ rest =
      ap (cut (drop start items)) (drop_more names k d lt) ∙ (λ i. sym own i ∷ cut (drop-drop n.count start items i) (drop (k + 1) names)) in
      ap (λ (w : List NameEntries). map kept_of_group w ++ rest) is ∙ ap (λ (w : List Kept). w ++ rest) (map_push kept_of_group groups g)
      ∙ append_assoc (map kept_of_group groups) (kept_of_group g ∷ []) rest ∙ ap (λ (w : List Kept). map kept_of_group groups ++ w) (sym next) ∙ inv

  pub cut_all : length names ≤ k → map kept_of_group groups ++ cut (drop start items) (drop k names) ≡ cut items names → map kept_of_group groups ≡ cut items names
  unfolding cut
  cut_all le inv =
      let none : cut (drop start items) (drop k names) ≡ [] = ap (cut (drop start items)) (drop_all k names le) in
      sym (append-nil (map kept_of_group groups)) ∙ ap (λ (w : List Kept). map kept_of_group groups ++ w) (sym none) ∙ inv

-- ---- all groups

module _ (es : List Indexed) where
  abbrev Owns : Kept → Type 0
  Owns p = items_seen p.1 ≡ entries_of es p.0

  module _ (n : ListedName) (ns : List ListedName) (items : List IndexEntry) (size : n.count ≡ length (entries_of es n.name.now)) (are : items_seen items ≡ entries_of es n.name.now ++ flat_map (entries_of es) (names_of ns)) where
    first_items : items_seen (take n.count items) ≡ entries_of es n.name.now
    first_items = sym (take-map item_seen n.count items) ∙ ap (take n.count) are ∙ take_at (entries_of es n.name.now) (flat_map (entries_of es) (names_of ns)) n.count (sym size)

    later_items : items_seen (drop n.count items) ≡ flat_map (entries_of es) (names_of ns)
    later_items = sym (drop-map item_seen n.count items) ∙ ap (drop n.count) are ∙ drop_at (entries_of es n.name.now) (flat_map (entries_of es) (names_of ns)) n.count (sym size)

  cut_owns : (ns : List ListedName) (items : List IndexEntry) → All (IsSized (entries_of es)) ns → items_seen items ≡ flat_map (entries_of es) (names_of ns) → All Owns (cut items ns)
  unfolding cut
  cut_owns [] items sized are = All-nil Owns
  cut_owns (n ∷ ns) items sized are =
      let size = All-head (IsSized (entries_of es)) n ns sized in
      All-cons Owns (n.name.now, take n.count items) (cut (drop n.count items) ns) (first_items n ns items size are)
      (cut_owns ns (drop n.count items) (All-tail (IsSized (entries_of es)) n ns sized) (later_items n ns items size are))

  cut_names : (ns : List ListedName) (items : List IndexEntry) → map (λ (p : Kept). p.0) (cut items ns) ≡ names_of ns
  unfolding cut
  cut_names [] items = refl
  cut_names (n ∷ ns) items = ap (λ w. n.name.now ∷ w) (cut_names ns (drop n.count items))

  module _ (items : List IndexEntry) (names : List ListedName) (h : AreSortedItems es items names) where
    pub groups_are : (gs : List NameEntries) → map kept_of_group gs ≡ cut items names → AreGroupsOf es gs
    groups_are gs is = record {
      names = sym (map_map kept_of_group (λ (p : Kept). p.0) gs) ∙ ap (map (λ (p : Kept). p.0)) is ∙ cut_names names items ∙ h.names_are;
      each = all_unmap Owns kept_of_group gs (subst (All Owns) (sym is) (cut_owns names items h.counts h.items_are));
    }

    pub counts_fit : sum_by count_of names ≤ length items
    counts_fit =
        let sum = sum_is (entries_of es) names h.counts in
        let long = ap (λ (w : List Indexed). length w) h.items_are in
        let same = length-map items item_seen in
        omega (arith, sum, long, same)
