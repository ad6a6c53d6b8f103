-- What a prefix of bytes still has.
use Rattle.std.proofs.Common.{◌≡◌, ℕ, ◌+◌, ◌-◌, ◌≤◌, List, ◌++◌, length, take, drop, ap, ◌∙◌, arith}
use Rattle.std.proofs.lemmas.List.{drop-take}
use Rattle.std.proofs.Math.Seq.{take-append-add}
use Rattle.byteorder.specs.Numbers.{little_from-take}
use Rattle.index_model.specs.Layout.{field}
use Rattle.index_alike.proofs.GdbPlaces.{Stands}

-- what is behind a place of a prefix
pub behind : (at j : ℕ) (bytes : List ℕ) → at ≤ j → drop at (take j bytes) ≡ take (j - at) (drop at bytes)
behind at j bytes le =
    let e : j ≡ at + (j - at) = omega arith in
    ap (λ (n : ℕ). drop at (take n bytes)) e ∙ drop-take at (j - at) bytes

-- a number before the end of a prefix
pub field_before : (n at j : ℕ) (bytes : List ℕ) → at + n ≤ j → field n at (take j bytes) ≡ field n at bytes
field_before n at j bytes le =
    ap (λ (w : List ℕ). field n 0 w) (behind at j bytes (omega arith)) ∙ little_from-take 0 n (j - at) (drop at bytes) (omega arith)

-- what stands before its end
pub stands_before : {at : ℕ} {part bytes : List ℕ} (j : ℕ) → Stands at part bytes → at + length part ≤ j → Stands at part (take j bytes)
stands_before {at} {part} {bytes} j s le = record {
  front = s.front;
  behind = take rest s.behind;
  is = ap (take j) s.is ∙ ap (λ (n : ℕ). take n (s.front ++ (part ++ s.behind))) size ∙ take-append-add s.front (part ++ s.behind) (length part + rest) ∙ ap (λ (w : List ℕ). s.front ++ w) (take-append-add part s.behind rest);
  size = s.size;
}
  where
    rest : ℕ
    rest = j - at - length part

    size : j ≡ length s.front + (length part + rest)
    size = omega (arith, s.size)
