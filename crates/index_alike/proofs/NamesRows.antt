-- The rows of the abbreviations.
use Rattle.std.proofs.Common.{◌≡◌, ◌<◌, Bool, true, false, List, get_or, map, refl, subst}
use Rattle.std.specs.Prelude.{Contains}
use mathlib.Core.Bool.{not, ◌&&◌}
use Rattle.std.proofs.lemmas.List.Elements.{Contains-get_or}
use Rattle.common_laws.proofs.Members.{of_map, to_map}
use Rattle.index_model.specs.NameIndex.{Indexed, Row, row_of, row_lt, row_eq, rows_of}
use Rattle.index_model.specs.Ordered.{place_of}
use Rattle.index_model.proofs.IndexOrders.{row_order}
use Rattle.index_alike.proofs.NamesAbbreviations.{TagsFit}
use Rattle.index_model.proofs.Orders.{ascending_has, ascending_only}
use Rattle.index_alike.proofs.NamesOrder.{StandsAt, place_stands}

-- ---- their places

both_false : (p q : Bool) → (not p && not q) ≡ true → (p ≡ false) × (q ≡ false)
both_false false false e = (refl, refl)
both_false false true e = absurd cc
both_false true q e = absurd cc

row_decides : (a b : Row) → row_eq a b ≡ true → a ≡ b
row_decides a b e = let n = both_false (row_lt a b) (row_lt b a) e in row_order.apart a b n.0 n.1

row_itself : (a : Row) → row_eq a a ≡ true
row_itself a = by (row_lt a a) refl
  where
    by : (b : Bool) → row_lt a a ≡ b → row_eq a a ≡ true
    by true e = absurd (row_order.itself a e)
    by false e = rw e refl

-- the row of each entry stands at its place
pub row_stands : (es : List Indexed) (e : Indexed) → Contains es e → StandsAt (rows_of es) (place_of row_eq (row_of e) (rows_of es)) (row_of e)
row_stands es e c = place_stands row_eq row_decides row_itself (row_of e) (rows_of es) (ascending_has row_lt row_order (map row_of es) (row_of e) (to_map row_of es e c))

-- the tags of the rows are tags of entries
pub rows_fit : (es : List Indexed) → ((e : Indexed) → Contains es e → e.tag < 18446744073709551616) → TagsFit (rows_of es)
rows_fit es fit k d lt =
    let c = ascending_only row_lt row_order (map row_of es) (get_or (rows_of es) k d) (Contains-get_or (rows_of es) k d lt) in
    let m = of_map row_of es (get_or (rows_of es) k d) c in
    subst (λ (r : Row). r.0 < 18446744073709551616) m.2 (fit m.0 m.1)
