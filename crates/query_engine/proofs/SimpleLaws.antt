-- Entries whose names are simple are found by name as by simple name.
use Rattle.std.proofs.Common.{◌≡◌, ℕ, ◌+◌, ◌-◌, Bool, true, false, List, [], ◌∷◌, ◌++◌, length, get_or, drop, map, refl, sym, ap, ◌∙◌, arith}
use Rattle.std.specs.Prelude.{filter, flat_map, bytes_eq, All}
use Rattle.std.specs.List.{enumerate_from}
use Rattle.std.specs.Set.{distinct_count}
use Rattle.std.proofs.lemmas.List.Elements.{All-head, All-tail, All-weaker}
use Rattle.index_model.specs.declared.entry.Entry.{Entry}
use Rattle.index_model.specs.Answers.{places, is_named, is_simply_named}
use Rattle.index_model.specs.Entries.{simple_of}
use Rattle.query_engine.specs.declared.way.Way.TheVariants.{ByName}
use Rattle.query_engine.specs.Asked.{is_asked}
use Rattle.query_engine.specs.declared.listing.ListedNames.{ListedNames}
use Rattle.query_engine.specs.Listed.{is_listed, names_of, AreListedBy}
use Rattle.query_engine.specs.Counts.{name_count, simple_count, without_linkage}
use Rattle.query_engine.specs.Simple.{IsWhole}

-- the simple name of such an entry is its name
simple_is : (e : Entry) → IsWhole e → simple_of e ≡ e.name
simple_is e h =
    let none : length e.name - e.tail ≡ 0 = omega (arith, h.whole) in
    ap (λ (n : ℕ). drop n e.name) none

same_test : (t : List ℕ) (e : Entry) → IsWhole e → is_simply_named t e ≡ is_named t e
same_test t e h = rw (h.plain, simple_is e h) refl

same_listed : (t : List ℕ) (e : Entry) → IsWhole e → is_listed t e ≡ is_asked ByName t e
same_listed t e h = rw (h.plain, simple_is e h) refl

agree : (p q : Entry → Bool) (n : ℕ) (es : List Entry) → All (λ (e : Entry). q e ≡ p e) es → map (λ (e : ℕ × Entry). e.0) (filter (λ (e : ℕ × Entry). p e.1) (enumerate_from n es)) ≡ map (λ (e : ℕ × Entry). e.0) (filter (λ (e : ℕ × Entry). q e.1) (enumerate_from n es))
agree p q n [] all = refl
agree p q n (e ∷ es) all = step (p e) refl (All-head (λ (x : Entry). q x ≡ p x) e es all) (agree p q (n + 1) es (All-tail (λ (x : Entry). q x ≡ p x) e es all))
  where
    step : (b : Bool) → p e ≡ b → q e ≡ p e
        → map (λ (x : ℕ × Entry). x.0) (filter (λ (x : ℕ × Entry). p x.1) (enumerate_from (n + 1) es)) ≡ map (λ (x : ℕ × Entry). x.0) (filter (λ (x : ℕ × Entry). q x.1) (enumerate_from (n + 1) es))
        → map (λ (x : ℕ × Entry). x.0) (filter (λ (x : ℕ × Entry). p x.1) (enumerate_from n (e ∷ es))) ≡ map (λ (x : ℕ × Entry). x.0) (filter (λ (x : ℕ × Entry). q x.1) (enumerate_from n (e ∷ es)))
    step true first second rest = rw (second, first) (ap (λ w. n ∷ w) rest)
    step false first second rest = rw (second, first) rest

pub simply_named : (t : List ℕ) (es : List Entry) → All IsWhole es → places (is_named t) es ≡ places (is_simply_named t) es
simply_named t es all = agree (is_named t) (is_simply_named t) 0 es (All-weaker IsWhole (λ (e : Entry). is_simply_named t e ≡ is_named t e) (same_test t) es all)

listed_same : (t : List ℕ) (es : List Entry) → All IsWhole es → places (is_asked ByName t) es ≡ places (is_listed t) es
listed_same t es all = agree (is_asked ByName t) (is_listed t) 0 es (All-weaker IsWhole (λ (e : Entry). is_listed t e ≡ is_asked ByName t e) (same_listed t) es all)

flat_same : {X Y : Type 0} (f g : X → List Y) → ((x : X) → f x ≡ g x) → (xs : List X) → flat_map f xs ≡ flat_map g xs
flat_same f g same [] = refl
flat_same f g same (x ∷ xs) =
    let first = same x in
    let rest = flat_same f g same xs in
    λ i. first i ++ rest i

-- they are listed by their names
pub by_listed : (es : List Entry) (l : ListedNames) → All IsWhole es → AreListedBy (is_asked ByName) es l → AreListedBy is_listed es l
by_listed es l whole h = record {
  ascending = h.ascending;
  all = λ t none. sym (listed_same t es whole) ∙ h.all t none;
  own = record {
    counts = λ k d lt. h.own.counts k d lt ∙ ap (λ (w : List ℕ). length w) (listed_same (get_or l.names.items k d).name.now es whole);
    are = h.own.are ∙ flat_same (λ (t : List ℕ). places (is_asked ByName t) es) (λ (t : List ℕ). places (is_listed t) es) (λ t. listed_same t es whole) (names_of l.names.items);
  };
}

same_names : (es : List Entry) → All IsWhole es → map simple_of (without_linkage es) ≡ map (λ (e : Entry). e.name) es
same_names [] all = refl
same_names (e ∷ es) all =
    let h = All-head IsWhole e es all in
    let rest = same_names es (All-tail IsWhole e es all) in
    let first = simple_is e h in
    rw h.plain (λ i. first i ∷ rest i)

pub simple_count_is : (es : List Entry) → All IsWhole es → name_count es ≡ simple_count (without_linkage es)
simple_count_is es all = ap (distinct_count bytes_eq) (sym (same_names es all))
