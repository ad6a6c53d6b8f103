-- Entries as the index has them.
use Rattle.std.proofs.Common.{◌≡◌, ℕ, ◌+◌, ◌<◌, Bool, true, false, List, [], ◌∷◌, ◌++◌, length, get_or, take, map, Option, Some, None, refl, sym, ap, ◌∙◌, append_assoc}
use Rattle.std.specs.Prelude.{bytes_eq, filter, filter_map, option_map, slice_get}
use Rattle.std.proofs.lemmas.List.{append-nil, map-append, take_more}
use Rattle.std.proofs.lemmas.List.Elements.{filter_map-append}
use Rattle.std.proofs.lemmas.Option.{slice_get_read}
use Rattle.common_laws.proofs.Options.{of_option_map}
use Rattle.index_model.specs.declared.entry.Entry.{Entry}
use Rattle.index_model.specs.declared.unit.Unit.{Unit as UnitHeader}
use Rattle.index_model.specs.Answers.{entries_at}
use Rattle.index_model.specs.NameIndex.{Indexed, string_of_entry, indexed_entry, all_indexed}
use Rattle.index_model.specs.Units.{is_types}
use Rattle.query_engine.specs.Listed.{is_listed}
use Rattle.debugnames_write.specs.declared.item.IndexEntry.{IndexEntry}
use Rattle.debugnames_write.specs.Groups.{entries_named}
use Rattle.debugnames_write.specs.Seen.{item_seen, items_seen, nameless}

-- ---- by their names

named_as : (units : List UnitHeader) (e : Entry) (y : Indexed) → indexed_entry units e ≡ Some y → y.name ≡ string_of_entry e
unfolding indexed_entry
named_as units e y is = by (slice_get units e.unit) refl
  where
    by : (o : Option UnitHeader) → slice_get units e.unit ≡ o → y.name ≡ string_of_entry e
    by None at = let g = rw at at is in cc
    by (Some u) at = kind (is_types u.part) refl
      where
        kind : (b : Bool) → is_types u.part ≡ b → y.name ≡ string_of_entry e
        kind true k = let g = rw (at, k) at is in cc
        kind false k = let g = rw (at, k) at is in cc

-- the entries of a text in the index are those of its entries
pub indexed_named : (units : List UnitHeader) (t : List ℕ) (es : List Entry) → all_indexed units (filter (is_listed t) es) ≡ entries_named t (all_indexed units es)
unfolding all_indexed
indexed_named units t [] = refl
indexed_named units t (e ∷ es) = by (indexed_entry units e) refl (bytes_eq (string_of_entry e) t) refl (indexed_named units t es)
  where
    by : (o : Option Indexed) → indexed_entry units e ≡ o → (b : Bool) → bytes_eq (string_of_entry e) t ≡ b
        → filter_map (indexed_entry units) (filter (is_listed t) es) ≡ entries_named t (filter_map (indexed_entry units) es)
        → filter_map (indexed_entry units) (filter (is_listed t) (e ∷ es)) ≡ entries_named t (filter_map (indexed_entry units) (e ∷ es))
    by None is true same rest = rw (same, is) rest
    by None is false same rest = rw (same, is) rest
    by (Some y) is true same rest =
        let own : bytes_eq y.name t ≡ true = ap (λ (w : List ℕ). bytes_eq w t) (named_as units e y is) ∙ same in
        rw (same, is, own) (ap (λ w. y ∷ w) rest)
    by (Some y) is false same rest =
        let own : bytes_eq y.name t ≡ false = ap (λ (w : List ℕ). bytes_eq w t) (named_as units e y is) ∙ same in
        rw (same, is, own) rest

-- ---- one entry more

indexed_one : (units : List UnitHeader) (es : List Entry) (e : Entry) (y : Indexed) → indexed_entry units e ≡ Some y → all_indexed units (es ++ e ∷ []) ≡ all_indexed units es ++ y ∷ []
unfolding all_indexed
indexed_one units es e y is = filter_map-append (indexed_entry units) es (e ∷ []) ∙ ap (λ w. filter_map (indexed_entry units) es ++ w) (one y is)
  where
    one : (y : Indexed) → indexed_entry units e ≡ Some y → filter_map (indexed_entry units) (e ∷ []) ≡ y ∷ []
    one y is = rw is refl

indexed_skip : (units : List UnitHeader) (es : List Entry) (e : Entry) → indexed_entry units e ≡ None → all_indexed units (es ++ e ∷ []) ≡ all_indexed units es
unfolding all_indexed
indexed_skip units es e is = filter_map-append (indexed_entry units) es (e ∷ []) ∙ ap (λ w. filter_map (indexed_entry units) es ++ w) (one is) ∙ append-nil (filter_map (indexed_entry units) es)
  where
    one : indexed_entry units e ≡ None → filter_map (indexed_entry units) (e ∷ []) ≡ []
    one is = rw is refl

pub entries_more : (es : List Entry) (order : List ℕ) (i : ℕ) (e : Entry) → i < length order → get_or order i 0 < length es → e ≡ get_or es (get_or order i 0) e → entries_at es (take (i + 1) order) ≡ entries_at es (take i order) ++ e ∷ []
entries_more es order i e lt within is =
    let p : ℕ = get_or order i 0 in
    let found : slice_get es p ≡ Some e = slice_get_read es (length es) p e refl within is in
    let one : entries_at es (p ∷ []) ≡ e ∷ [] = rw found refl in
    ap (entries_at es) (take_more order i 0 lt) ∙ filter_map-append (slice_get es) (take i order) (p ∷ []) ∙ ap (λ w. entries_at es (take i order) ++ w) one

module _ (units : List UnitHeader) (before : List Entry) (e : Entry) (old : List Indexed) (now : List IndexEntry) (inv : items_seen now ≡ old ++ map nameless (all_indexed units before)) where
  pub pushed : (item : IndexEntry) (new : List IndexEntry) → Some (item_seen item) ≡ option_map nameless (indexed_entry units e) → new ≡ now ++ item ∷ []
      → items_seen new ≡ old ++ map nameless (all_indexed units (before ++ e ∷ []))
  pushed item new one is =
      let r = of_option_map nameless (indexed_entry units e) (item_seen item) (sym one) in
      let grown : map nameless (all_indexed units (before ++ e ∷ [])) ≡ map nameless (all_indexed units before) ++ item_seen item ∷ [] =
      ap (map nameless) (indexed_one units before e r.0 r.1) ∙ map-append nameless (all_indexed units before) (r.0 ∷ [])
      ∙ ap (λ (w : Indexed). map nameless (all_indexed units before) ++ w ∷ []) r.2 in
      ap items_seen is ∙ map-append item_seen now (item ∷ []) ∙ ap (λ (w : List Indexed). w ++ item_seen item ∷ []) inv
      ∙ append_assoc old (map nameless (all_indexed units before)) (item_seen item ∷ []) ∙ ap (λ (w : List Indexed). old ++ w) (sym grown)

  none_of : (o : Option Indexed) → None ≡ option_map nameless o → o ≡ None
  none_of None is = refl
  none_of (Some y) is = absurd (cc)

  pub skipped : None ≡ option_map nameless (indexed_entry units e) → items_seen now ≡ old ++ map nameless (all_indexed units (before ++ e ∷ []))
  skipped none = inv ∙ ap (λ (w : List Indexed). old ++ map nameless w) (sym (indexed_skip units before e (none_of (indexed_entry units e) none)))
