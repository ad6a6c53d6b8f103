-- The rows of the abbreviations, and the place of a row among them.
use Rattle.std.proofs.Common.{◌≡◌, ◌≢◌, ℕ, zero, suc, ◌+◌, ◌-◌, ◌<◌, ◌≤◌, Bool, true, false, eqb, eq-eqb, List, [], ◌∷◌, ◌++◌, length, get_or, take, drop, map, Option, None, Some, refl, sym, ap, ◌∙◌, subst, inl, inr, arith}
use mathlib.Core.Bool.{not, ◌&&◌, beq, true≢false}
use Rattle.std.specs.Prelude.{Contains, position, unwrap_or, insert}
use Rattle.std.specs.List.Sorted.{IsPartitionedBy, IsPartitionPoint}
use Rattle.std.proofs.lemmas.Bool.{cases_lt, and_right}
use Rattle.std.proofs.lemmas.List.{get_or-map, length-map, length-take-le, map-append, take-map, drop-map, get_or-take, take_more, take_all, get_or_default}
use Rattle.std.proofs.lemmas.List.Quantifiers.{position-Some}
use Rattle.std.proofs.lemmas.List.Elements.{Contains-get_or, Contains-push, Contains-push_cases, Contains-append_left}
use Rattle.index_model.specs.NameIndex.{Row as IndexRow, row_lt, row_eq, rows_of, row_of}
use Rattle.index_model.specs.Ordered.{with_item, ascending, place_of}
use Rattle.debugnames_write.specs.declared.item.IndexEntry.{IndexEntry}
use Rattle.debugnames_write.specs.declared.item.Row.{Row}
use Rattle.index_model.specs.Order.{Rises, Adds}
use Rattle.debugnames_write.specs.Rows.{KeepsRowAt, row_seen}
use Rattle.debugnames_write.specs.Seen.{item_seen, items_seen}
use Rattle.debugnames_write.proofs.Lists.{around, position_at, map-map}
use Rattle.index_model.proofs.Orders.{IsOrder, pairs_from_rises, with_adds, with_rises, ascending_is}
use Rattle.index_model.proofs.IndexOrders.{row_order}

-- ---- an item at its place

module _ {A : Type 0} (less : A → A → Bool) (o : IsOrder less) (x : A) where
  both : (y : A) → less x y ≡ true → less y x ≡ true → ⊥
  both y e f = o.itself x (o.trans x y x e f)

  not_less : (y : A) → less y x ≡ true → less x y ≡ false
  not_less y f = by (less x y) refl
    where
      by : (b : Bool) → less x y ≡ b → less x y ≡ false
      by true e = absurd (both y e f)
      by false e = e

  pub put_at : (ys : List A) (p : ℕ) → p ≤ length ys → ((k : ℕ) (d : A) → k < p → less (get_or ys k d) x ≡ true) → ((k : ℕ) (d : A) → p ≤ k → k < length ys → less (get_or ys k d) x ≡ false)
      → ((d : A) → p < length ys → x ≢ get_or ys p d) → take p ys ++ x ∷ drop p ys ≡ with_item less x ys
  unfolding with_item
  put_at [] zero le before after other = refl
  put_at [] (suc p) le before after other = absurd (omega arith)
  put_at (y ∷ ys) zero le before after other =
      let greater : less y x ≡ false = after 0 y (omega arith) (omega arith) in
      by (less x y) refl greater
    where
      by : (b : Bool) → less x y ≡ b → less y x ≡ false → x ∷ y ∷ ys ≡ with_item less x (y ∷ ys)
      by true e g = rw e refl
      by false e g = absurd (other y (omega arith) (o.apart x y e g))
  put_at (y ∷ ys) (suc p) le before after other =
      let first : less y x ≡ true = before 0 y (omega arith) in
      let second : less x y ≡ false = not_less y first in
      let rest : take p ys ++ x ∷ drop p ys ≡ with_item less x ys = put_at ys p (omega arith) (λ k d lt. before (suc k) d (omega arith)) (λ k d from to. after (suc k) d (omega arith) (omega arith)) (λ d lt. other d (omega arith)) in
      rw (second, first) (ap (λ (w : List A). y ∷ w) rest)

  -- the place of an item that stands there
  pub place_found : (ys : List A) (p : ℕ) → Rises less ys → p ≤ length ys → ((k : ℕ) (d : A) → k < p → less (get_or ys k d) x ≡ true) → ((k : ℕ) (d : A) → p ≤ k → k < length ys → less (get_or ys k d) x ≡ false)
      → Contains ys x → (p < length ys) × (get_or ys p x ≡ x)
  place_found ys p rises le before after c = elim (cases_lt c.0 p) [
    | inl low ↦ absurd (o.itself x (subst (λ (w : A). less w x ≡ true) c.2 (before c.0 x low)))
    | inr high ↦ elim (cases_lt p c.0) [
      | inl above ↦
          let lower : less (get_or ys p x) x ≡ true = subst (λ (w : A). less (get_or ys p x) w ≡ true) c.2 (pairs_from_rises less ys rises p c.0 x above c.1) in
          absurd (true≢false (sym lower ∙ after p x (omega arith) (omega (arith, c.1))))
      | inr same ↦
          let at : c.0 ≡ p = omega arith in
          (omega (arith, c.1), subst (λ (k : ℕ). get_or ys k x ≡ x) at c.2)
    ]
  ]

-- ---- rows

module _ (rows : List Row) (row : Row) (p : ℕ) (within : p ≤ length rows) (parts : IsPartitionPoint (λ r. row_lt (row_seen r) (row_seen row) ≡ true) (λ r. row_lt (row_seen r) (row_seen row) ≡ false) rows p) where
  abbrev seen : List IndexRow
  seen = map row_seen rows

  long : length (map row_seen rows) ≡ length rows
  long = length-map rows row_seen

  before : (k : ℕ) (d : IndexRow) → k < p → row_lt (get_or (map row_seen rows) k d) (row_seen row) ≡ true
  before k d lt = rw (get_or-map row_seen rows k row d (omega arith)) (parts.0 k row (omega arith) lt)

  after : (k : ℕ) (d : IndexRow) → p ≤ k → k < length (map row_seen rows) → row_lt (get_or (map row_seen rows) k d) (row_seen row) ≡ false
  after k d from to = rw (get_or-map row_seen rows k row d (omega (arith, long))) (parts.1 k row from (omega (arith, long)))

  pub row_put : ((d : IndexRow) → p < length (map row_seen rows) → row_seen row ≢ get_or (map row_seen rows) p d) → map row_seen (insert rows p row) ≡ with_item row_lt (row_seen row) (map row_seen rows)
  row_put other =
      let cut : map row_seen (insert rows p row) ≡ take p (map row_seen rows) ++ row_seen row ∷ drop p (map row_seen rows) =
      map-append row_seen (take p rows) (row ∷ drop p rows)
      ∙ ap (λ (w : List IndexRow). w ++ row_seen row ∷ map row_seen (drop p rows)) (sym (take-map row_seen p rows))
      ∙ ap (λ (w : List IndexRow). take p (map row_seen rows) ++ row_seen row ∷ w) (sym (drop-map row_seen p rows)) in
      cut ∙ put_at row_lt row_order (row_seen row) (map row_seen rows) p (omega (arith, long)) before after other

  pub put_rises : ((d : IndexRow) → p < length (map row_seen rows) → row_seen row ≢ get_or (map row_seen rows) p d) → Rises row_lt (map row_seen rows) → Rises row_lt (map row_seen (insert rows p row))
  put_rises other r = rw (row_put other) (with_rises row_lt row_order (row_seen row) (map row_seen rows) r)

  pub put_adds : ((d : IndexRow) → p < length (map row_seen rows) → row_seen row ≢ get_or (map row_seen rows) p d) → Adds (row_seen row) (map row_seen rows) (map row_seen (insert rows p row))
  put_adds other = rw (row_put other) (with_adds row_lt row_order (row_seen row) (map row_seen rows))

  -- the place of a row by equality
  itself_eq : row_eq (row_seen row) (row_seen row) ≡ true
  itself_eq = by (row_lt (row_seen row) (row_seen row)) refl
    where
      by : (b : Bool) → row_lt (row_seen row) (row_seen row) ≡ b → row_eq (row_seen row) (row_seen row) ≡ true
      by true e = absurd (row_order.itself (row_seen row) e)
      by false e = rw e refl

  lower_eq : (y : IndexRow) → row_lt y (row_seen row) ≡ true → row_eq (row_seen row) y ≡ false
  lower_eq y e = and_right (not (row_lt (row_seen row) y)) (not (row_lt y (row_seen row))) (ap not e)

  pub row_place : Rises row_lt (map row_seen rows) → Contains (map row_seen rows) (row_seen row) → place_of row_eq (row_seen row) (map row_seen rows) ≡ p
  row_place rises c =
      let xs : List IndexRow = map row_seen rows in
      let r = place_found row_lt row_order (row_seen row) xs p rises (omega (arith, long)) before after c in
      let split : xs ≡ take p xs ++ row_seen row ∷ drop (p + 1) xs = around xs p (row_seen row) r.0 (sym r.1) in
      let size : length (take p xs) ≡ p = length-take-le p xs (omega (arith, r.0)) in
      ap (λ (ys : List IndexRow). unwrap_or (position (row_eq (row_seen row)) ys) 0) split
      ∙ ap (λ (o : Option ℕ). unwrap_or o 0) (position_at (row_eq (row_seen row)) (take p xs) (row_seen row) (drop (p + 1) xs) (λ k d lt. lower_eq _ (front k d (omega (arith, size)))) itself_eq)
      ∙ size
    where
      front : (k : ℕ) (d : IndexRow) → k < p → row_lt (get_or (take p (map row_seen rows)) k d) (row_seen row) ≡ true
      front k d lt = rw (get_or-take p (map row_seen rows) k d lt) (before k d lt)

-- a row's place is at most behind all
pub place_low : (row : IndexRow) (xs : List IndexRow) → place_of row_eq row xs ≤ length xs
place_low row xs = by (position (row_eq row) xs) refl
  where
    by : (o : Option ℕ) → position (row_eq row) xs ≡ o → unwrap_or o 0 ≤ length xs
    by None e = omega arith
    by (Some i) e = let p = position-Some (row_eq row) xs i row e in omega (arith, p.0)

-- the rows are partitioned by a row
pub row_parts : (rows : List Row) (row : Row) → Rises row_lt (map row_seen rows) → IsPartitionedBy (λ r. row_lt (row_seen r) (row_seen row)) rows
row_parts rows row rises i j d le lt e = elim (cases_lt i j) [
  | inl less ↦
      let long : length (map row_seen rows) ≡ length rows = length-map rows row_seen in
      let first : get_or (map row_seen rows) i (row_seen d) ≡ row_seen (get_or rows i d) = get_or-map row_seen rows i d (row_seen d) (omega arith) in
      let second : get_or (map row_seen rows) j (row_seen d) ≡ row_seen (get_or rows j d) = get_or-map row_seen rows j d (row_seen d) lt in
      let up : row_lt (row_seen (get_or rows i d)) (row_seen (get_or rows j d)) ≡ true = (λ k. row_lt (sym first k) (sym second k)) ∙ (pairs_from_rises row_lt (map row_seen rows) rises i j (row_seen d) less (omega (arith, long))) in
      row_order.trans (row_seen (get_or rows i d)) (row_seen (get_or rows j d)) (row_seen row) up e
  | inr more ↦ let same : i ≡ j = omega arith in subst (λ (k : ℕ). row_lt (row_seen (get_or rows k d)) (row_seen row) ≡ true) (sym same) e
]

-- ---- the rows of entries

abbrev row_in : IndexEntry → IndexRow
row_in i = row_seen i.row

-- the rows are those of these entries
pub record AreRowsOf (items : List IndexEntry) (rows : List Row) : Type 0 where
  pub rises : Rises row_lt (map row_seen rows)
  pub has : (r : IndexRow) → Contains (map row_in items) r → Contains (map row_seen rows) r
  pub only : (r : IndexRow) → Contains (map row_seen rows) r → Contains (map row_in items) r

pub rows_none : AreRowsOf [] []
rows_none = record { rises = tt; has = λ r c. c; only = λ r c. c }

pub rows_more : (items : List IndexEntry) (i : ℕ) (x : IndexEntry) (rows new : List Row) → i < length items → x ≡ get_or items i x → AreRowsOf (take i items) rows → Rises row_lt (map row_seen new) → Adds (row_seen x.row) (map row_seen rows) (map row_seen new) → AreRowsOf (take (i + 1) items) new
rows_more items i x rows new lt is h rises adds =
    let front : take (i + 1) items ≡ take i items ++ x ∷ [] = rw (take_more items i x lt, ← is) refl in
    let pushed : map row_in (take (i + 1) items) ≡ map row_in (take i items) ++ row_in x ∷ [] = ap (map row_in) front ∙ map-append row_in (take i items) (x ∷ []) in
    record {
      rises = rises;
      has = λ r c. elim (Contains-push_cases (map row_in (take i items)) (row_in x) r (subst (λ (w : List IndexRow). Contains w r) pushed c)) [
        | inl d ↦ adds.kept r (h.has r d)
        | inr e ↦ subst (λ (w : IndexRow). Contains (map row_seen new) w) e adds.own
      ];
      only = λ r c. subst (λ (w : List IndexRow). Contains w r) (sym pushed) (elim (adds.only r c) [
        | inl d ↦ Contains-append_left (map row_in (take i items)) (row_in x ∷ []) r (h.only r d)
        | inr e ↦ subst (λ (w : IndexRow). Contains (map row_in (take i items) ++ row_in x ∷ []) w) e (Contains-push (map row_in (take i items)) (row_in x))
      ]);
    }

pub rows_all : (items : List IndexEntry) (i : ℕ) (rows : List Row) → length items ≤ i → AreRowsOf (take i items) rows → map row_seen rows ≡ rows_of (items_seen items)
rows_all items i rows le h =
    let whole : take i items ≡ items = take_all i items le in
    let named : map row_of (items_seen items) ≡ map row_in items = map-map row_of item_seen items in
    sym (ap (ascending row_lt) named ∙ ascending_is row_lt row_order (map row_in items) (map row_seen rows) h.rises
    (λ r c. h.has r (subst (λ (w : List IndexEntry). Contains (map row_in w) r) (sym whole) c))
    (λ r c. subst (λ (w : List IndexEntry). Contains (map row_in w) r) whole (h.only r c)))

-- the same with the entry as it is read
pub rows_next : (items : List IndexEntry) (i : ℕ) (d : IndexEntry) (rows new : List Row) → i < length items → AreRowsOf (take i items) rows → Rises row_lt (map row_seen new) → Adds (row_seen (get_or items i d).row) (map row_seen rows) (map row_seen new) → AreRowsOf (take (i + 1) items) new
rows_next items i d rows new lt h rises adds = rows_more items i (get_or items i d) rows new lt (get_or_default items i d (get_or items i d) lt) h rises adds

-- the row of the entry before is among them already
keep_row : (items : List IndexEntry) (i : ℕ) (d : IndexEntry) (rows : List Row) → i < length items → KeepsRowAt items i → AreRowsOf (take i items) rows → AreRowsOf (take (i + 1) items) rows
keep_row items i d rows lt keeps h =
    let all : List IndexRow = map row_in items in
    let row : IndexRow = row_seen (get_or items i d).row in
    let many : length all ≡ length items = length-map items row_in in
    let size : length (take i all) ≡ i = length-take-le i all (omega (arith, many)) in
    let at : get_or (take i all) (i - 1) (0, false) ≡ row =
    get_or-take i all (i - 1) (0, false) (omega (arith, keeps.some)) ∙ sym keeps.same ∙ get_or-map row_in items i d (0, false) lt in
    let stands : Contains (take i all) row = subst (λ (w : IndexRow). Contains (take i all) w) at (Contains-get_or (take i all) (i - 1) (0, false) (omega (arith, size, keeps.some))) in
    rows_next items i d rows rows lt h h.rises (record {
      own = h.has row (subst (λ (w : List IndexRow). Contains w row) (take-map row_in i items) stands);
      kept = λ r c. c;
      only = λ r c. inl c;
    })

pub rows_keep : (items : List IndexEntry) (i : ℕ) (rows : List Row) → i < length items → KeepsRowAt items i → AreRowsOf (take i items) rows → AreRowsOf (take (i + 1) items) rows
rows_keep [] i rows lt keeps h = absurd (omega arith)
rows_keep (x ∷ xs) i rows lt keeps h = keep_row (x ∷ xs) i x rows lt keeps h

-- ---- a row that isn't at its place

pub row_past : (rows : List Row) (row : Row) (p : ℕ) → length rows ≤ p → (d : IndexRow) → p < length (map row_seen rows) → row_seen row ≢ get_or (map row_seen rows) p d
row_past rows row p le d lt = let size = length-map rows row_seen in absurd (omega (arith, size))

pub row_other : (rows : List Row) (row x : Row) (p : ℕ) → p < length rows → x ≡ get_or rows p x → (eqb x.tag row.tag && beq x.types row.types) ≡ false → (d : IndexRow) → p < length (map row_seen rows) → row_seen row ≢ get_or (map row_seen rows) p d
row_other rows row x p lt is other d within same =
    let at : row_seen row ≡ row_seen x = same ∙ get_or-map row_seen rows p x d lt ∙ ap row_seen (sym is) in
    let tag : x.tag ≡ row.tag = sym (ap (λ (r : IndexRow). r.0) at) in
    let types : x.types ≡ row.types = sym (ap (λ (r : IndexRow). r.1) at) in
    let both : (eqb x.tag row.tag && beq x.types row.types) ≡ true = (λ k. eqb (tag k) row.tag && beq (types k) row.types) ∙ (λ k. eq-eqb row.tag row.tag refl k && same_bit row.types k) in
    true≢false (sym both ∙ other)
  where
    same_bit : (b : Bool) → beq b b ≡ true
    same_bit true = refl
    same_bit false = refl
