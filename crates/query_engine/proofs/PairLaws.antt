-- The pairs of entries that can be found one way.
use Rattle.std.proofs.Common.{◌≡◌, ℕ, ◌<◌, ◌≤◌, Bool, true, false, cond, List, [], ◌∷◌, length, get_or, map, refl, ap, ◌∙◌, arith}
use Rattle.std.specs.Prelude.{bytes_eq, filter, All, option_map, unwrap_or}
use Rattle.std.specs.List.{enumerate_from}
use Rattle.std.proofs.lemmas.List.{length-map}
use Rattle.std.proofs.lemmas.List.Elements.{All-nil, All-from_get_or, All-filter, All-map}
use Rattle.std.proofs.lemmas.List.FromFn.{get_or-enumerate_from, length-enumerate_from}
use Rattle.std.proofs.lemmas.Option.{slice_get-get_or}
use Rattle.index_model.specs.declared.entry.Entry.{Entry}
use Rattle.index_model.specs.Answers.{places}
use Rattle.query_engine.specs.declared.way.Way.{Way}
use Rattle.query_engine.specs.Asked.{is_counted, text_of, is_asked}
use Rattle.query_engine.specs.Pairs.{Pair, pairs_in, has_text}
use Rattle.query_engine.specs.Sorted.{text_of_place}

abbrev Placed : Type 0
Placed = ℕ × Entry

module _ (way : Way) where
  abbrev pair : Placed → Pair
  pair e = (e.0, text_of way e.1)

  abbrev counted : Placed → Bool
  counted e = is_counted way e.1

  filter_few : (xs : List Placed) → length (filter counted xs) ≤ length xs
  filter_few [] = omega arith
  filter_few (x ∷ xs) = elim (counted x) as (λ b. length (cond b (x ∷ filter counted xs) (filter counted xs)) ≤ length (x ∷ xs)) [ true ↦ omega (arith, filter_few xs) | false ↦ omega (arith, filter_few xs) ]

  -- there are no more pairs than entries
  pub pairs_few : (es : List Entry) → length (pairs_in way es) ≤ length es
  pairs_few es = rw length-map (omega (arith, filter_few (enumerate_from 0 es), length-enumerate_from 0 es))

  -- ---- the places of a text

  abbrev left_of : List ℕ → List Placed → List ℕ
  left_of t xs = map (λ (p : Pair). p.0) (filter (has_text t) (map pair (filter counted xs)))

  abbrev right_of : List ℕ → List Placed → List ℕ
  right_of t xs = map (λ (e : Placed). e.0) (filter (λ (e : Placed). is_asked way t e.1) xs)

  found_more : (t : List ℕ) (x : Placed) (xs : List Placed) → left_of t xs ≡ right_of t xs → (c b : Bool) → is_counted way x.1 ≡ c → bytes_eq (text_of way x.1) t ≡ b → left_of t (x ∷ xs) ≡ right_of t (x ∷ xs)
  found_more t x xs rest true true e f = rw (e, f) (ap (λ w. x.0 ∷ w) rest)
  found_more t x xs rest true false e f = rw (e, f) rest
  found_more t x xs rest false b e f = rw e rest

  found : (t : List ℕ) (xs : List Placed) → left_of t xs ≡ right_of t xs
  found t [] = refl
  found t (x ∷ xs) = found_more t x xs (found t xs) (is_counted way x.1) (bytes_eq (text_of way x.1) t) refl refl

  pub places_of_text : (t : List ℕ) (es : List Entry) → map (λ (p : Pair). p.0) (filter (has_text t) (pairs_in way es)) ≡ places (is_asked way t) es
  places_of_text t es = found t (enumerate_from 0 es)

  -- ---- each pair is that of its place

  -- the place is one of the entries, and has this text
  pub record IsPairOf (es : List Entry) (p : Pair) : Type 0 where
    pub within : p.0 < length es
    pub text : text_of_place way es p.0 ≡ p.1

  listed : (es : List Entry) → All (λ (e : Placed). IsPairOf es (pair e)) (enumerate_from 0 es)
  listed [] = All-nil (λ (e : Placed). IsPairOf [] (pair e))
  listed (x ∷ es) = All-from_get_or (λ (e : Placed). IsPairOf (x ∷ es) (pair e)) (enumerate_from 0 (x ∷ es)) (0, x) (λ i lt.
      let all : List Entry = x ∷ es in
      let within : i < length all = omega (arith, length-enumerate_from 0 all) in
      let at : get_or (enumerate_from 0 all) i (0, x) ≡ (i, get_or all i x) = get_or-enumerate_from 0 all i (0, x) within ∙ ap (λ (k : ℕ). (k, get_or all i x)) (omega arith) in
      rw at (record { within = within; text = ap (λ o. unwrap_or (option_map (text_of way) o) []) (slice_get-get_or all i x within) }))

  pub pairs_are_right : (es : List Entry) → All (IsPairOf es) (pairs_in way es)
  pairs_are_right es = All-map (IsPairOf es) pair (filter counted (enumerate_from 0 es)) (All-filter counted (λ (e : Placed). IsPairOf es (pair e)) (enumerate_from 0 es) (listed es))
