-- The tags of the table are small.
use Rattle.std.proofs.Common.{◌≡◌, ℕ, ◌≤◌, Bool, true, false, cond, not, ◌&&◌, eqb, leb, List, [], ◌∷◌, find, Some, refl, sym, arith}
use Rattle.std.specs.List.{list_all}
use Rattle.std.proofs.lemmas.Bool.{true≢false, and_parts, eqb-true, leb-true}
use Rattle.index_model.specs.declared.rules.Facts.{Facts}
use Rattle.index_model.specs.Rules.{Row, is_indexed, row_allows, row_of, table}

abbrev small : Row → Bool
small r = leb r.tag 65535

-- a row that allows an entry is one of these, which are small
in_rows : (e : Facts) (tag : ℕ) (rs : List Row) → list_all small rs ≡ true → row_allows e (find (λ r. eqb r.tag tag) rs) ≡ true → tag ≤ 65535
in_rows e tag [] all h = absurd (true≢false (sym h))
in_rows e tag (r ∷ rs) all h = by (and_parts (small r) (list_all small rs) all) (in_rows e tag rs) (eqb r.tag tag) refl h
  where
    by : (small r ≡ true) × (list_all small rs ≡ true) → (list_all small rs ≡ true → row_allows e (find (λ r. eqb r.tag tag) rs) ≡ true → tag ≤ 65535) → (b : Bool) → eqb r.tag tag ≡ b → row_allows e (cond b (Some r) (find (λ r. eqb r.tag tag) rs)) ≡ true → tag ≤ 65535
    by a more true is g = omega (arith, leb-true r.tag 65535 a.0, eqb-true r.tag tag is)
    by a more false is g = more a.1 g

-- an indexed entry's tag is that of a row
pub tag_fits : (e : Facts) → is_indexed e ≡ true → e.tag ≤ 65535
tag_fits e on = in_rows e e.tag table refl (and_parts ((e.visited && not e.declaration) && e.named) (row_allows e (row_of e.tag)) on).1
