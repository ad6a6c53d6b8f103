-- The elements of vectors fit in 4 bytes, and name units of the index.
use Rattle.std.proofs.Common.{◌≡◌, ℕ, ◌+◌, ◌*◌, ◌^◌, ◌<◌, ◌≤◌, Bool, true, false, not, ◌&&◌, ltb, cond, List, [], ◌∷◌, length, get_or, map, refl, ap, ◌∙◌, subst, arith}
use Rattle.std.specs.Prelude.{All, Contains, filter, bytes_eq, nat_lt}
use Rattle.std.specs.List.{list_all}
use Rattle.std.proofs.lemmas.List.Elements.{Contains-get_or, All-head, All-tail}
use Rattle.common_laws.proofs.Members.{of_map}
use Rattle.index_model.specs.declared.entry.Entry.{Entry}
use Rattle.index_model.specs.declared.entry.Kind.{Kind}
use Rattle.index_model.specs.declared.entry.Kind.TheVariants.{TypeName, Variable, Function, Other}
use Rattle.index_model.specs.declared.unit.Unit.{Unit as UnitHeader}
use Rattle.index_model.specs.GdbIndex.{kind_number, element, vector, index_number}
use Rattle.index_model.specs.GdbIndexRead.{unit_in}
use Rattle.index_model.proofs.Orders.{nat_order, ascending_only}
use Rattle.index_alike.proofs.GdbUnits.{number_below}
use Rattle.index_alike.proofs.GdbSteps.{is_lt}

-- the parts of an element
record Parts (units : List UnitHeader) (e : Entry) : Type 0 where
  high : ℕ
  few : high < 16
  is : element units e ≡ index_number units e.unit + high * 2 ^ 28

pub kind_low : (k : Kind) → kind_number k ≤ 4
kind_low TypeName = omega arith
kind_low Variable = omega arith
kind_low Function = omega arith
kind_low Other = omega arith

parts_of : (units : List UnitHeader) (e : Entry) → Parts units e
parts_of units e = by e.local refl
  where
    by : (b : Bool) → e.local ≡ b → Parts units e
    by true local = record { high = kind_number e.kind + 8; few = omega (arith, kind_low e.kind); is = ap (λ (b : Bool). index_number units e.unit + kind_number e.kind * 2 ^ 28 + cond b (2 ^ 31) 0) local ∙ omega arith }
    by false local = record { high = kind_number e.kind; few = omega (arith, kind_low e.kind); is = ap (λ (b : Bool). index_number units e.unit + kind_number e.kind * 2 ^ 28 + cond b (2 ^ 31) 0) local ∙ omega arith }

-- the element fits in 4 bytes, and its low bits name a unit
pub record IsElement (units : List UnitHeader) (n : ℕ) : Type 0 where
  pub low : n < 2 ^ 32
  pub unit_low : unit_in n < length units

module _ (units : List UnitHeader) (few : length units < 2 ^ 28) (some : 0 < length units) where
  element_is : (e : Entry) → IsElement units (element units e)
  element_is e =
      let p = parts_of units e in
      let n = number_below units e.unit some in
      record { low = omega (arith, p.is, p.few, n, few); unit_low = omega (arith, p.is, p.few, n, few) }

  pub in_vector : (entries : List Entry) (name : List ℕ) (n : ℕ) → Contains (vector units entries name) n → IsElement units n
  unfolding vector
  in_vector entries name n c =
      let m = of_map (element units) (filter (λ e. not e.linkage && bytes_eq e.name name) entries) n (ascending_only nat_lt nat_order (map (element units) (filter (λ e. not e.linkage && bytes_eq e.name name) entries)) n c) in
      subst (IsElement units) m.2 (element_is m.0)

  pub vector_low : (entries : List Entry) (name : List ℕ) → All (λ e. e < 2 ^ 32) (vector units entries name)
  vector_low entries name k d lt = (in_vector entries name (get_or (vector units entries name) k d) (Contains-get_or (vector units entries name) k d lt)).low

  all_known : (count : ℕ) → count ≡ length units → (xs : List ℕ) → All (IsElement units) xs → list_all (λ e. ltb (unit_in e) count) xs ≡ true
  all_known count is [] all = refl
  all_known count is (x ∷ xs) all =
      let known : ltb (unit_in x) count ≡ true = is_lt (unit_in x) count (omega (arith, (All-head (IsElement units) x xs all).unit_low, is)) in
      (λ i. known i && all_known count is xs (All-tail (IsElement units) x xs all) i)

  pub vector_known : (count : ℕ) → count ≡ length units → (entries : List Entry) (name : List ℕ) → list_all (λ e. ltb (unit_in e) count) (vector units entries name) ≡ true
  vector_known count is entries name = all_known count is (vector units entries name) (λ k d lt. in_vector entries name (get_or (vector units entries name) k d) (Contains-get_or (vector units entries name) k d lt))
