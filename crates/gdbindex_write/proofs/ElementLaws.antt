-- The vector of a name's entries.
use Rattle.std.proofs.Common.{◌≡◌, ℕ, ◌+◌, ◌<◌, not, eqb, List, [], ◌∷◌, ◌++◌, length, get_or, take, Some, refl, sym, ap, ◌∙◌}
use Rattle.std.specs.Prelude.{filter, nat_lt, slice_get}
use Rattle.std.specs.List.{dedup}
use Rattle.std.specs.List.Sorted.{IsPermutation, IsSorted}
use Rattle.std.specs.Ordering.{nat_cmp}
use Rattle.std.proofs.lemmas.Bool.{lt-ltb}
use Rattle.std.proofs.lemmas.List.{take_more, map-append, append_assoc}
use Rattle.std.proofs.lemmas.List.Elements.{filter-append, filter_map-append}
use Rattle.std.proofs.lemmas.List.Kept.{AllPairs-from_increasing, Contains-dedup_nat, Contains-from_dedup}
use Rattle.std.proofs.lemmas.List.Sorted.{Contains-permutation, IsPermutation-sym}
use Rattle.std.proofs.lemmas.Map.Keys.{IsStrictlyIncreasing-dedup}
use Rattle.std.proofs.lemmas.Option.{slice_get-get_or}
use Rattle.index_model.specs.declared.entry.Entry.{Entry}
use Rattle.index_model.specs.Answers.{entries_at}
use Rattle.index_model.specs.Ordered.{ascending}
use Rattle.index_model.proofs.Orders.{nat_order, rises_from_pairs, ascending_is}
use Rattle.gdbindex_write.specs.Elements.{element_by, elements_by}

-- sorted numbers without repetitions are the distinct ones, ascending
pub ascending_left : (all ys : List ℕ) → IsPermutation all ys → IsSorted nat_cmp ys → dedup eqb ys ≡ ascending nat_lt all
ascending_left all ys moved up = sym (ascending_is nat_lt nat_order all (dedup eqb ys)
    (rises_from_pairs nat_lt (dedup eqb ys) (λ i j d less to. lt-ltb _ _ (AllPairs-from_increasing (dedup eqb ys) (IsStrictlyIncreasing-dedup ys up) i j d less to)))
    (λ z c. Contains-dedup_nat ys z (Contains-permutation all ys z moved c))
    (λ z c. Contains-permutation ys all z (IsPermutation-sym all ys moved) (Contains-from_dedup eqb ys z c)))

-- ---- one place more

module _ (numbers : List ℕ) (es : List Entry) (ps : List ℕ) (i : ℕ) (lt : i < length ps) (e : Entry) (within : get_or ps i 0 < length es) (is : e ≡ get_or es (get_or ps i 0) e) where
  entries_more : entries_at es (take (i + 1) ps) ≡ entries_at es (take i ps) ++ e ∷ []
  entries_more =
      let one : slice_get es (get_or ps i 0) ≡ Some e = slice_get-get_or es (get_or ps i 0) e within ∙ ap (λ (x : Entry). Some x) (sym is) in
      rw (take_more ps i 0 lt, filter_map-append (slice_get es) (take i ps) (get_or ps i 0 ∷ []), one) refl

  pub elements_more : (old xs : List ℕ) → xs ≡ old ++ elements_by numbers (entries_at es (take i ps)) → xs ++ elements_by numbers (e ∷ []) ≡ old ++ elements_by numbers (entries_at es (take (i + 1) ps))
  elements_more old xs so_far =
      let passed : List Entry = entries_at es (take i ps) in
      let both : elements_by numbers (entries_at es (take (i + 1) ps)) ≡ elements_by numbers passed ++ elements_by numbers (e ∷ []) =
      rw (entries_more, filter-append (λ (x : Entry). not x.linkage) passed (e ∷ [])) (map-append (element_by numbers) (filter (λ (x : Entry). not x.linkage) passed) (filter (λ (x : Entry). not x.linkage) (e ∷ []))) in
      ap (λ w. w ++ elements_by numbers (e ∷ [])) so_far ∙ append_assoc old (elements_by numbers passed) (elements_by numbers (e ∷ [])) ∙ ap (λ w. old ++ w) (sym both)
