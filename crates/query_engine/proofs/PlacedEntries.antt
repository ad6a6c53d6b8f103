-- The entries at the places of those that pass a test.
use Rattle.std.proofs.Common.{◌≡◌, ℕ, ◌+◌, ◌<◌, Bool, List, [], ◌∷◌, length, get_or, map, Some, refl, ap, ◌∙◌, arith}
use Rattle.std.specs.Prelude.{filter, slice_get, All}
use Rattle.std.specs.List.{enumerate_from}
use Rattle.std.proofs.lemmas.List.Elements.{All-from_get_or, All-filter, All-head, All-tail, All-map, All-weaker}
use Rattle.std.proofs.lemmas.List.FromFn.{get_or-enumerate_from, length-enumerate_from}
use Rattle.std.proofs.lemmas.Option.{slice_get-get_or, slice_get_within}
use Rattle.common_laws.proofs.Filters.{map_filter}
use Rattle.index_model.specs.declared.entry.Entry.{Entry}
use Rattle.index_model.specs.Answers.{places, entries_at}

abbrev Placed : Type 0
Placed = ℕ × Entry

-- the entry stands at its place
abbrev StandsIn : List Entry → Placed → Type 0
StandsIn es e = slice_get es e.0 ≡ Some e.1

all_stand : (es : List Entry) → All (StandsIn es) (enumerate_from 0 es)
all_stand [] = λ k d lt. absurd (omega (arith, lt))
all_stand (x ∷ es) = All-from_get_or (StandsIn (x ∷ es)) (enumerate_from 0 (x ∷ es)) (0, x) (λ k lt.
    let all : List Entry = x ∷ es in
    let within : k < length all = omega (arith, length-enumerate_from 0 all) in
    let at : get_or (enumerate_from 0 all) k (0, x) ≡ (k, get_or all k x) = get_or-enumerate_from 0 all k (0, x) within ∙ ap (λ (j : ℕ). (j, get_or all k x)) (omega arith) in
    rw at (slice_get-get_or all k x within))

own_entries : (es : List Entry) (ps : List Placed) → All (StandsIn es) ps → entries_at es (map (λ (e : Placed). e.0) ps) ≡ map (λ (e : Placed). e.1) ps
own_entries es [] all = refl
own_entries es (p ∷ ps) all = rw (All-head (StandsIn es) p ps all) (ap (λ w. p.1 ∷ w) (own_entries es ps (All-tail (StandsIn es) p ps all)))

pub second_all : (n : ℕ) (es : List Entry) → map (λ (e : Placed). e.1) (enumerate_from n es) ≡ es
second_all n [] = refl
second_all n (e ∷ es) = ap (λ w. e ∷ w) (second_all (n + 1) es)

module _ (test : Entry → Bool) (es : List Entry) where
  standing : All (StandsIn es) (filter (λ (e : Placed). test e.1) (enumerate_from 0 es))
  standing = All-filter (λ (e : Placed). test e.1) (StandsIn es) (enumerate_from 0 es) (all_stand es)

  -- the entries at the places of those that pass are those that pass
  pub entries_at_places : entries_at es (places test es) ≡ filter test es
  entries_at_places =
      own_entries es (filter (λ (e : Placed). test e.1) (enumerate_from 0 es)) standing
      ∙ map_filter (λ (e : Placed). e.1) test (enumerate_from 0 es) ∙ ap (filter test) (second_all 0 es)

  -- each of these places is that of an entry
  pub places_within : All (λ p. p < length es) (places test es)
  places_within = All-map (λ (p : ℕ). p < length es) (λ (e : Placed). e.0) (filter (λ (e : Placed). test e.1) (enumerate_from 0 es))
      (All-weaker (StandsIn es) (λ (e : Placed). e.0 < length es) (λ e is. slice_get_within es e.0 e.1 is) (filter (λ (e : Placed). test e.1) (enumerate_from 0 es)) standing)
