-- What is written is the index of the definition.
use Rattle.std.proofs.Common.{◌≡◌, ℕ, ◌%◌, ◌<◌, ◌≤◌, List, [], ◌∷◌, length, get_or, map, refl, sym, ap, ◌∙◌, subst, arith, length-append}
use Rattle.std.specs.Prelude.{All, flat_map, IsPermutation, IsSorted}
use Rattle.std.specs.Ordering.{nat_cmp}
use Rattle.std.specs.Cmp.Lexicographic.{slice_cmp}
use Rattle.std.proofs.lemmas.List.{length-map}
use Rattle.std.proofs.lemmas.List.Sorted.{All-permutation, length_permutation}
use Rattle.std.proofs.lemmas.Nat.{mod_below}
use Rattle.index_model.specs.declared.entry.Entry.{Entry}
use Rattle.index_model.specs.declared.unit.Unit.{Unit as UnitHeader}
use Rattle.index_model.specs.Hashes.{name_hash}
use Rattle.index_model.specs.Layout.{ended}
use Rattle.index_model.specs.NameIndex.{Indexed, Row as IndexRow, all_indexed, names_in, in_index_order, rows_of, name_index_bytes, name_index_strings}
use Rattle.index_model.specs.Ordered.{bytes_lt}
use Rattle.debugnames_write.specs.declared.groups.NameEntries.{NameEntries}
use Rattle.debugnames_write.specs.declared.name.Name.{Name}
use Rattle.debugnames_write.specs.declared.name.NameTable.{NameTable}
use Rattle.debugnames_write.specs.Conditions.{Fits}
use Rattle.debugnames_write.specs.Groups.{AreGroupsOf, group_names, entries_of}
use Rattle.debugnames_write.specs.Laid.{laid_out}
use Rattle.debugnames_write.specs.Names.{AreNamesOf, IsNameOf, HaveBuckets, HaveRows, StringsPass}
use Rattle.index_model.specs.Order.{Rises}
use Rattle.debugnames_write.specs.Seen.{items_seen, name_key, texts}
use Rattle.debugnames_write.proofs.NameLaws.{index_order}
use Rattle.index_model.proofs.Orders.{bytes_order, ascending_rises}
use Rattle.debugnames_write.proofs.Whole.{have_rows, kept_texts, kept_items, whole_is}

-- each text takes a byte at least
ended_long : (xs : List (List ℕ)) → length xs ≤ length (flat_map ended xs)
ended_long [] = omega arith
ended_long (x ∷ xs) = let rest = ended_long xs in omega (arith, rest, length-append (ended x) (flat_map ended xs), length-append x (0 ∷ []))

module _ (units : List UnitHeader) (old : ℕ) (entries : List Entry) (gs : List NameEntries) (groups : AreGroupsOf (all_indexed units entries) gs) where
  strings_are : group_names gs ≡ names_in (all_indexed units entries)
  strings_are = groups.names

  pub strings_rise : Rises bytes_lt (group_names gs)
  strings_rise = subst (λ (w : List (List ℕ)). Rises bytes_lt w) (sym strings_are) (ascending_rises bytes_lt bytes_order (map (λ (e : Indexed). e.name) (all_indexed units entries)))

  pub strings_added : flat_map ended (group_names gs) ≡ name_index_strings units entries
  unfolding name_index_strings
  strings_added = ap (flat_map ended) strings_are

  pub strings_stop : StringsPass gs old → Fits units old entries → ⊥
  strings_stop pass fits = let long = ap (λ (w : List ℕ). length w) strings_added in let few = fits.strings in omega (arith, long, few, pass)

  module _ (ns : NameTable) (named : AreNamesOf gs old ns) (names : List Name) (moved : IsPermutation ns.names.items names) (in_order : IsSorted (λ x y. slice_cmp nat_cmp (name_key x) (name_key y)) names) where
    texts_are : texts ns.names.items ≡ group_names gs
    texts_are = kept_texts ns.names.items gs named.kept

    many : length names ≡ length (group_names gs)
    many = length_permutation ns.names.items names moved ∙ sym (length-map ns.names.items (λ (n : Name). n.text.now)) ∙ ap (λ (w : List (List ℕ)). length w) texts_are

    each_after : All (IsNameOf (group_names gs) old) names
    each_after = All-permutation (IsNameOf (group_names gs) old) ns.names.items names moved named.each

    abbrev Right : Name → Type 0
    Right m = (m.hash ≡ name_hash m.text.now) × (m.bucket ≡ name_hash m.text.now % length (texts ns.names.items))

    right_before : All Right ns.names.items
    right_before k d lt = let r = named.each k d lt in (r.hash, r.bucket ∙ ap (λ (w : List (List ℕ)). name_hash (get_or ns.names.items k d).text.now % length w) (sym texts_are))

    order_is : texts names ≡ in_index_order (names_in (all_indexed units entries))
    order_is =
        index_order (length (texts ns.names.items)) ns.names.items names (subst (λ (w : List (List ℕ)). Rises bytes_lt w) (sym texts_are) strings_rise) refl right_before moved in_order
        ∙ ap in_index_order (texts_are ∙ strings_are)

    each_named : All (IsNameOf (names_in (all_indexed units entries)) old) names
    each_named = subst (λ (w : List (List ℕ)). All (IsNameOf w old) names) strings_are each_after

    own_all : All (λ n. items_seen n.items.now ≡ entries_of (all_indexed units entries) n.text.now) names
    own_all = All-permutation (λ (n : Name). items_seen n.items.now ≡ entries_of (all_indexed units entries) n.text.now) ns.names.items names moved (kept_items ns.names.items gs named.kept (all_indexed units entries) groups.each)

    pub names_few : length names < 4294967296
    names_few = let long = ended_long (group_names gs) in omega (arith, many, long, named.end, named.fits)

    pub names_buckets : HaveBuckets names
    names_buckets k d lt =
        let r = each_after k d lt in
        let own : (get_or names k d).bucket ≡ name_hash (get_or names k d).text.now % length names = r.bucket ∙ ap (λ (n : ℕ). name_hash (get_or names k d).text.now % n) (sym many) in
        let some : 0 < length names = omega arith in
        (own, let below = mod_below (name_hash (get_or names k d).text.now) (length names) some in omega (arith, own, below))

    pub names_rows : (rows : List IndexRow) → rows ≡ rows_of (all_indexed units entries) → All (λ n. HaveRows rows n.items.now) names
    names_rows rows is k d lt = subst (λ (w : List IndexRow). HaveRows w (get_or names k d).items.now) (sym is) (have_rows (all_indexed units entries) (get_or names k d).text.now (get_or names k d).items.now (own_all k d lt))

    pub index_is : (rows : List IndexRow) → rows ≡ rows_of (all_indexed units entries) → laid_out units rows names ≡ name_index_bytes units old entries
    index_is rows is = ap (λ (w : List IndexRow). laid_out units w names) is ∙ whole_is units old entries names order_is each_named own_all

    pub index_stop : (rows : List IndexRow) → rows ≡ rows_of (all_indexed units entries) → 4294967283 < length (laid_out units rows names) → Fits units old entries → ⊥
    index_stop rows is pass fits = let long = ap (λ (w : List ℕ). length w) (index_is rows is) in let few = fits.names in omega (arith, long, few, pass)

    pub index_fits : (rows : List IndexRow) → rows ≡ rows_of (all_indexed units entries) → length (laid_out units rows names) ≤ 4294967283 → Fits units old entries
    index_fits rows is few = record {
      names = let long = ap (λ (w : List ℕ). length w) (index_is rows is) in omega (arith, long, few);
      strings = let long = ap (λ (w : List ℕ). length w) strings_added in omega (arith, long, named.end, named.fits);
    }
