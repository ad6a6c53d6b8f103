-- Two lists of ranges have the same units wherever they have them at the addresses at which ranges begin and end.
use Rattle.std.proofs.Common.{◌≡◌, ℕ, suc, ◌+◌, ◌<◌, ◌≤◌, Bool, true, ◌&&◌, eqb, List, [], ◌∷◌, ◌++◌, length, get_or, take, append_assoc, Option, Some, None, refl, sym, ap, subst, ◌∙◌, arith}
use Rattle.std.specs.Prelude.{Contains}
use Rattle.std.proofs.lemmas.Bool.{eqb-true, eq-eqb}
use Rattle.std.proofs.lemmas.List.Elements.{Contains-append_left, Contains-append_right}
use Rattle.std.proofs.lemmas.List.{take_all, take_more}
use Rattle.std.proofs.lemmas.List.Concat.{flat_map-append}
use Rattle.common_laws.proofs.Booleans.{both_on}
use Rattle.index_model.specs.declared.range.UnitRange.{UnitRange}
use Rattle.index_model.specs.Pieces.{edges_of}
use Rattle.index_model.specs.Ranges.{unit_at}
use Rattle.reach_model.specs.declared.difference.Difference.{Difference}
use Rattle.reach_model.specs.Differences.{IsFirstDifference}
use Rattle.aranges_read.specs.Edges.{AgreeBelow, IsFirstAmong}
use Rattle.aranges_read.proofs.Changes.{agree_below, wider, unit_changes}

module _ (table own : List UnitRange) where
  abbrev edges : List ℕ
  edges = edges_of table ++ edges_of own

  in_table : (a : ℕ) → Contains (edges_of table) a → Contains edges a
  in_table a c = Contains-append_left (edges_of table) (edges_of own) a c

  in_own : (a : ℕ) → Contains (edges_of own) a → Contains edges a
  in_own a c = Contains-append_right (edges_of table) (edges_of own) a c

  agree_under : (n a : ℕ) → AgreeBelow table own edges n → a < n → unit_at table a ≡ unit_at own a
  agree_under = agree_below edges (unit_at table) (unit_at own) (wider (edges_of table) edges (unit_at table) in_table (unit_changes table)) (wider (edges_of own) edges (unit_at own) in_own (unit_changes own))

  pub agree_all : IsFirstAmong table own edges None → (a : ℕ) → unit_at table a ≡ unit_at own a
  agree_all agree a = agree_under (suc a) a (λ b c lt. agree b c) (omega arith)

  pub first_of_all : (d : Difference) → IsFirstAmong table own edges (Some d) → IsFirstDifference table own d
  first_of_all d first = record {
    of_table = first.0.of_table;
    of_own = first.0.of_own;
    differ = first.0.differ;
    before = λ a lt. agree_under d.address a first.1 lt;
  }

  -- equal lists agree
  pub agree_same : table ≡ own → (a : ℕ) → unit_at table a ≡ unit_at own a
  agree_same same a = ap (λ (ps : List UnitRange). unit_at ps a) same

  -- ---- piece by piece

  -- where one more piece begins and ends
  edges_more : (front : List ℕ) (ps : List UnitRange) (i : ℕ) (d : UnitRange) → i < length ps → front ++ edges_of (take (i + 1) ps) ≡ ((front ++ edges_of (take i ps)) ++ (get_or ps i d).range.low ∷ []) ++ (get_or ps i d).range.end ∷ []
  edges_more front ps i d lt =
      let p : UnitRange = get_or ps i d in
      let es : List ℕ = edges_of (take i ps) in
      ap (λ (x : List ℕ). front ++ x) (ap edges_of (take_more ps i d lt) ∙ flat_map-append (λ (r : UnitRange). r.range.low ∷ r.range.end ∷ []) (take i ps) (p ∷ []))
      ∙ sym (append_assoc front es (p.range.low ∷ p.range.end ∷ []))
      ∙ sym (append_assoc (front ++ es) (p.range.low ∷ []) (p.range.end ∷ []))

  pub piece_more : (front : List ℕ) (ps : List UnitRange) (i : ℕ) (d : UnitRange) (first : Option Difference) → i < length ps
      → IsFirstAmong table own (((front ++ edges_of (take i ps)) ++ (get_or ps i d).range.low ∷ []) ++ (get_or ps i d).range.end ∷ []) first → IsFirstAmong table own (front ++ edges_of (take (i + 1) ps)) first
  piece_more front ps i d first lt f = subst (λ (es : List ℕ). IsFirstAmong table own es first) (sym (edges_more front ps i d lt)) f

  pub all_pieces : (front : List ℕ) (ps : List UnitRange) (i : ℕ) (first : Option Difference) → length ps ≤ i → IsFirstAmong table own (front ++ edges_of (take i ps)) first → IsFirstAmong table own (front ++ edges_of ps) first
  all_pieces front ps i first le f = subst (λ (rs : List UnitRange). IsFirstAmong table own (front ++ edges_of rs) first) (take_all i ps le) f

  -- no difference was found among no addresses
  pub none_yet : IsFirstAmong table own [] None
  none_yet = λ a c. absurd (omega (arith, c.1))

-- ---- equal pieces

abbrev are_equal : UnitRange → UnitRange → Bool
are_equal p q = eqb p.unit q.unit && (eqb p.range.low q.range.low && eqb p.range.end q.range.end)

pub equal_pieces : (p q : UnitRange) → (are_equal p q ≡ true → p ≡ q) × (p ≡ q → are_equal p q ≡ true)
equal_pieces p q = (to, from)
  where
    to : are_equal p q ≡ true → p ≡ q
    to e =
        let a = both_on (eqb p.unit q.unit) (eqb p.range.low q.range.low && eqb p.range.end q.range.end) e in
        let b = both_on (eqb p.range.low q.range.low) (eqb p.range.end q.range.end) a.1 in
        let unit = eqb-true p.unit q.unit a.0 in
        let low = eqb-true p.range.low q.range.low b.0 in
        let end = eqb-true p.range.end q.range.end b.1 in
        λ i. record { unit = unit i; range = record { low = low i; end = end i } }

    itself : (r : UnitRange) → are_equal r r ≡ true
    itself r = rw (eq-eqb r.unit r.unit refl, eq-eqb r.range.low r.range.low refl, eq-eqb r.range.end r.range.end refl) refl

    from : p ≡ q → are_equal p q ≡ true
    from e = subst (λ (r : UnitRange). are_equal p r ≡ true) e (itself p)
