-- The texts of the groups are the distinct texts of the entries, in byte order.
use Rattle.std.proofs.Common.{◌≡◌, ℕ, ◌<◌, true, List, [], length, get_or, map, sym, ap, ◌∙◌, arith}
use Rattle.std.specs.Prelude.{bytes_eq, filter, Contains}
use Rattle.std.specs.List.{list_any}
use Rattle.std.proofs.lemmas.List.Folds.{list_any_at}
use Rattle.std.proofs.lemmas.List.FromFn.{get_or-map-range_with_len}
use Rattle.index_model.specs.declared.entry.Entry.{Entry}
use Rattle.index_model.specs.Order.{Rises}
use Rattle.index_model.specs.Ordered.{ascending, bytes_lt}
use Rattle.index_model.proofs.Orders.{bytes_order, rises_from_pairs, ascending_is}
use Rattle.query_engine.specs.declared.names.SortedNames.{SortedNames}
use Rattle.query_engine.specs.declared.way.Way.{Way}
use Rattle.query_engine.specs.declared.way.Way.TheVariants.{ByName}
use Rattle.query_engine.specs.Asked.{is_counted, text_of}
use Rattle.query_engine.specs.Sorted.{name_at, AreNamesOf}
use Rattle.query_engine.specs.Texts.{table_names, texts_in}
use Rattle.query_engine.proofs.TextOrder.{same_from_eq, eq_from_same, some_passes, lt_from_before}
use Rattle.query_engine.proofs.CountLaws.{any_text, filter_all, group_texts, same_texts, texts_length}

-- ---- members of lists of texts

pub has_from_any : (q : List ℕ) (xs : List (List ℕ)) → list_any (bytes_eq q) xs ≡ true → Contains xs q
has_from_any q xs some = let r = some_passes (bytes_eq q) xs some in (r.0, r.1, sym (same_from_eq q (get_or xs r.0 q) (r.2 q)))

pub any_from_has : (q : List ℕ) (xs : List (List ℕ)) → Contains xs q → list_any (bytes_eq q) xs ≡ true
any_from_has q xs c = list_any_at (bytes_eq q) xs c.0 q c.1 (eq_from_same q (get_or xs c.0 q) (sym c.2))

-- ---- the texts of the groups

module _ (es : List Entry) (n : SortedNames) (names : AreNamesOf es n) where
  abbrev size : ℕ
  size = length n.groups.items

  at_index : (k : ℕ) (d : List ℕ) → k < size → get_or (group_texts es n) k d ≡ name_at es n k
  unfolding group_texts
  at_index k d lt = get_or-map-range_with_len (name_at es n) 0 size k k d lt (omega arith)

  rise : Rises bytes_lt (group_texts es n)
  rise = rises_from_pairs bytes_lt (group_texts es n) (λ i j d lt to.
      let within : j < size = omega (arith, to, texts_length es n names) in
      rw (at_index i d (omega arith), at_index j d within) (lt_from_before (name_at es n i) (name_at es n j) (names.ascending i j lt within)))

  abbrev own : List (List ℕ)
  own = map (text_of n.way) (filter (is_counted n.way) es)

  same : (q : List ℕ) → list_any (bytes_eq q) (group_texts es n) ≡ list_any (bytes_eq q) own
  same q = same_texts es n names q ∙ sym (any_text n.way (is_counted n.way) q es)

  pub texts_are : texts_in n.way es ≡ group_texts es n
  texts_are = ascending_is bytes_lt bytes_order own (group_texts es n) rise
      (λ q c. has_from_any q (group_texts es n) (same q ∙ any_from_has q own c))
      (λ q c. has_from_any q own (sym (same q) ∙ any_from_has q (group_texts es n) c))

  module _ (way : n.way ≡ ByName) where
    pub names_are : table_names es ≡ group_texts es n
    names_are = sym (ap (λ (w : Way). texts_in w es) way ∙ ap (λ (w : List Entry). ascending bytes_lt (map (λ (e : Entry). e.name) w)) (filter_all es)) ∙ texts_are

    pub name_count_is : length n.groups.items ≡ length (table_names es)
    name_count_is = sym (ap length names_are ∙ texts_length es n names)

    pub name_is : (k : ℕ) → k < length (table_names es) → name_at es n k ≡ get_or (table_names es) k []
    name_is k lt = sym (ap (λ (w : List (List ℕ)). get_or w k []) names_are ∙ at_index k [] (omega (arith, name_count_is)))
