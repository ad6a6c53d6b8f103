-- Vectors are numbered in the order of their first uses.
use Rattle.std.proofs.Common.{◌≡◌, ℕ, ◌+◌, ◌<◌, Bool, true, false, not, cond, List, [], ◌∷◌, ◌++◌, length, get_or, take, drop, map, refl, sym, ap, ◌∙◌}
use Rattle.std.specs.Prelude.{bytes_eq}
use Rattle.std.specs.List.{list_any, position_or_len}
use Rattle.std.proofs.lemmas.List.{take_more, drop_more, map_push, take-append-drop}
use Rattle.query_engine.proofs.CountLaws.{any_map}
use Rattle.index_model.specs.Ordered.{distinct, place_of}
use denote.Ref.{Bor}
use Rattle.gdbindex_write.specs.Pools.{vectors_seen}
use Rattle.gdbindex_write.specs.Vectors.{with_vector}
use Rattle.gdbindex_write.proofs.DistinctLaws.{in_distinct, distinct_push, insert_place, place_stays}

pub no_distinct : distinct bytes_eq [] ≡ []
unfolding distinct
no_distinct = refl

module _ (all ks : List (List ℕ)) (i : ℕ) (v : List ℕ) (lt : i < length all) (is : get_or all i [] ≡ v) (made : ks ≡ distinct bytes_eq (take i all)) where
  abbrev front : List (List ℕ)
  front = take i all

  more : take (i + 1) all ≡ take i all ++ v ∷ []
  more = take_more all i [] lt ∙ ap (λ (w : List ℕ). take i all ++ w ∷ []) is

  grown : distinct bytes_eq (take (i + 1) all) ≡ with_vector v (distinct bytes_eq front)
  grown = ap (distinct bytes_eq) more ∙ distinct_push front v ∙ ap (λ b. cond b (distinct bytes_eq front) (distinct bytes_eq front ++ v ∷ [])) (sym (in_distinct v front))

  -- the vectors after one more
  pub set_more : with_vector v ks ≡ distinct bytes_eq (take (i + 1) all)
  set_more = ap (with_vector v) made ∙ sym grown

  -- its number
  number_is : position_or_len (bytes_eq v) ks ≡ place_of bytes_eq v (distinct bytes_eq all)
  number_is =
      let whole : take i all ++ v ∷ drop (i + 1) all ≡ all = ap (λ (w : List ℕ). take i all ++ w ∷ drop (i + 1) all) (sym is) ∙ ap (λ w. take i all ++ w) (sym (drop_more all i [] lt)) ∙ take-append-drop i all in
      ap (position_or_len (bytes_eq v)) made ∙ insert_place (distinct bytes_eq front) v ∙ place_stays front (drop (i + 1) all) v ∙ ap (λ w. place_of bytes_eq v (distinct bytes_eq w)) whole

  pub numbers_more : (ns : List ℕ) (n : ℕ) → n ≡ position_or_len (bytes_eq v) ks → ns ≡ map (λ w. place_of bytes_eq w (distinct bytes_eq all)) (take i all) → ns ++ n ∷ [] ≡ map (λ w. place_of bytes_eq w (distinct bytes_eq all)) (take (i + 1) all)
  numbers_more ns n own are =
      let number = own ∙ number_is in
      (λ j. are j ++ number j ∷ []) ∙ sym (ap (map (λ w. place_of bytes_eq w (distinct bytes_eq all))) more ∙ map_push (λ w. place_of bytes_eq w (distinct bytes_eq all)) (take i all) v)

-- ---- borrowed vectors

abbrev now : Bor (List ℕ) → List ℕ
now v = v.now

-- whether two borrowed vectors are the same
abbrev pub is_same : Bor (List ℕ) → Bor (List ℕ) → Bool
is_same v w = bytes_eq v.now w.now

pub known : (v : Bor (List ℕ)) (keys : List (Bor (List ℕ))) → list_any (is_same v) keys ≡ list_any (bytes_eq v.now) (vectors_seen keys)
known v keys = sym (any_map (bytes_eq v.now) now keys)

pub place_seen : (v : Bor (List ℕ)) (keys : List (Bor (List ℕ))) → position_or_len (is_same v) keys ≡ position_or_len (bytes_eq v.now) (vectors_seen keys)
place_seen v [] = refl
place_seen v (k ∷ ks) = ap (λ (n : ℕ). cond (not (is_same v k)) (1 + n) 0) (place_seen v ks)

pub set_seen : (v : Bor (List ℕ)) (keys : List (Bor (List ℕ))) → vectors_seen (cond (list_any (is_same v) keys) keys (keys ++ v ∷ [])) ≡ with_vector v.now (vectors_seen keys)
set_seen v keys = pick (list_any (is_same v) keys) ∙ ap (λ b. cond b (vectors_seen keys) (vectors_seen keys ++ v.now ∷ [])) (known v keys)
  where
    pick : (b : Bool) → vectors_seen (cond b keys (keys ++ v ∷ [])) ≡ cond b (vectors_seen keys) (vectors_seen keys ++ v.now ∷ [])
    pick true = refl
    pick false = map_push now keys v
