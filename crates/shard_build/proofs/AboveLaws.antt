-- The last entry of each depth among those that were passed, and the parents of those behind them.
use Rattle.std.proofs.Common.{◌≡◌, ℕ, ◌+◌, ◌-◌, ◌<◌, ◌≤◌, Bool, cond, eqb, ltb, ◌&&◌, List, [], ◌∷◌, ◌++◌, length, set, get_or, replicate, filter, Option, Some, None, option_map, sym, ap, ◌∙◌, arith, append-nil, ⊎_elim}
use Rattle.std.specs.List.{last_or}
use Rattle.std.proofs.lemmas.Bool.{eq-eqb, ne_eqb, lt-ltb, le-ltb, cases_eq}
use Rattle.std.proofs.lemmas.List.{length-set, length-replicate, get_or-replicate, get_or-set_same, get_or-set_other}
use Rattle.std.proofs.lemmas.List.Elements.{filter-append}
use Rattle.common_laws.proofs.Filters.{filter_agree, filter_none}
use Rattle.common_laws.proofs.Booleans.{first_off, first_on, second_off}
use Rattle.index_model.specs.Walk.{Item, parent_of}
use Rattle.index_model.proofs.ParentLaws.{Rise}
use Rattle.index_model.proofs.SpanOrder.{last_push}
use Rattle.shard_build.specs.Again.{AreLast, last_at, parent_behind}
use Rattle.shard_build.proofs.OpenLaws.{before_in, after_in}

abbrev at : Item → ℕ
at e = e.at

abbrev pub no_offset : Option ℕ
no_offset = None

-- before the first entry there is none of any depth
pub none_passed : (offsets : List (Option ℕ)) → offsets ≡ replicate 1025 no_offset → AreLast [] offsets
none_passed offsets is = record {
  size = ap length is ∙ length-replicate 1025 no_offset;
  last = λ depth other lt. ap (λ (os : List (Option ℕ)). get_or os depth other) is ∙ get_or-replicate 1025 depth no_offset other lt;
}

-- ---- one entry more

module _ (passed : List Item) (offsets : List (Option ℕ)) (last : AreLast passed offsets) (d : Item) (shallow : d.depth ≤ 1024) where
  one_more : (depth : ℕ) → last_at depth (passed ++ d ∷ []) ≡ option_map at (cond (eqb d.depth depth) (Some d) (last_or None (filter (λ e. eqb e.depth depth) passed)))
  one_more depth = ap (option_map at) (last_push (λ (e : Item). eqb e.depth depth) passed d None)

  own : (depth : ℕ) → d.depth ≡ depth → last_at depth (passed ++ d ∷ []) ≡ Some d.at
  own depth same = one_more depth ∙ ap (λ (b : Bool). option_map at (cond b (Some d) (last_or None (filter (λ e. eqb e.depth depth) passed)))) (eq-eqb d.depth depth same)

  others : (depth : ℕ) → (d.depth ≡ depth → ⊥) → last_at depth (passed ++ d ∷ []) ≡ last_at depth passed
  others depth other = one_more depth ∙ ap (λ (b : Bool). option_map at (cond b (Some d) (last_or None (filter (λ e. eqb e.depth depth) passed)))) (ne_eqb d.depth depth other)

  -- it is the last of its depth
  pub one_passed : (new : List (Option ℕ)) → new ≡ set offsets d.depth (Some d.at) → AreLast (passed ++ d ∷ []) new
  one_passed new is = record {
    size = ap length is ∙ length-set offsets d.depth (Some d.at) ∙ last.size;
    last = λ depth other lt. ⊎_elim
        (λ (same : d.depth ≡ depth).
        let within : depth < length offsets = omega (arith, lt, last.size) in
        ap (λ (os : List (Option ℕ)). get_or os depth other) is ∙ ap (λ (k : ℕ). get_or (set offsets k (Some d.at)) depth other) same ∙ get_or-set_same offsets depth (Some d.at) other within ∙ sym (own depth same))
        (λ (apart : d.depth ≡ depth → ⊥).
        ap (λ (os : List (Option ℕ)). get_or os depth other) is ∙ get_or-set_other offsets d.depth depth (Some d.at) other (λ same. apart (sym same)) ∙ last.last depth other lt ∙ sym (others depth apart))
        (cases_eq d.depth depth);
  }

-- ---- the parent

one_less : (x y : ℕ) → 0 < y → eqb (x + 1) y ≡ eqb x (y - 1)
one_less x y some = ⊎_elim
    (λ (same : x ≡ y - 1). eq-eqb (x + 1) y (omega (arith, same, some)) ∙ sym (eq-eqb x (y - 1) same))
    (λ (other : x ≡ y - 1 → ⊥). ne_eqb (x + 1) y (λ is. other (omega (arith, is))) ∙ sym (ne_eqb x (y - 1) other))
    (cases_eq x (y - 1))

module _ (n : ℕ) (passed : List Item) (d : Item) (rest : List Item) (rise : Rise n (passed ++ d ∷ rest)) where
  -- whether an entry is one above
  abbrev above : Item → Bool
  above e = ltb e.at d.at && eqb (e.depth + 1) d.depth

  abbrev one_up : Item → Bool
  one_up e = eqb e.depth (d.depth - 1)

  at_top : d.depth ≡ 0 → parent_behind passed d ≡ option_map at (parent_of (passed ++ d ∷ rest) d)
  at_top top =
      let none = filter_none above (passed ++ d ∷ rest) (λ e c. second_off (ltb e.at d.at) (eqb (e.depth + 1) d.depth) (ne_eqb (e.depth + 1) d.depth (λ is. omega (arith, is, top)))) in
      rw (eq-eqb d.depth 0 top) (ap (λ (xs : List Item). option_map at (last_or None xs)) (sym none))

  below : 0 < d.depth → parent_behind passed d ≡ option_map at (parent_of (passed ++ d ∷ rest) d)
  below deep =
      let early = filter_agree above one_up passed (λ e c. first_on (ltb e.at d.at) (eqb (e.depth + 1) d.depth) (lt-ltb e.at d.at (before_in n passed d rest rise e c)) ∙ one_less e.depth d.depth deep) in
      let late = filter_none above (d ∷ rest) (λ e c. first_off (ltb e.at d.at) (eqb (e.depth + 1) d.depth) (le-ltb e.at d.at (after_in n passed d rest rise e c))) in
      let all : filter above (passed ++ d ∷ rest) ≡ filter one_up passed ++ [] = filter-append above passed (d ∷ rest) ∙ ap (λ (xs : List Item). xs ++ filter above (d ∷ rest)) early ∙ ap (λ (xs : List Item). filter one_up passed ++ xs) late in
      rw (ne_eqb d.depth 0 (λ top. omega (arith, top, deep))) (ap (λ (xs : List Item). option_map at (last_or None xs)) (sym (all ∙ append-nil (filter one_up passed))))

  -- the last entry above that was passed is the parent
  pub behind_is_parent : parent_behind passed d ≡ option_map at (parent_of (passed ++ d ∷ rest) d)
  behind_is_parent = ⊎_elim at_top (λ (other : d.depth ≡ 0 → ⊥). below (omega (arith, other))) (cases_eq d.depth 0)
