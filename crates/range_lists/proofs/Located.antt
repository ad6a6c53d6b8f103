-- Entries of the units of a file, by their offsets and homes.
use Rattle.std.proofs.Common.{◌≡◌, ℕ, ◌+◌, ◌<◌, Bool, eqb, ◌&&◌, List, [], ◌∷◌, ◌++◌, filter, flat_map, refl, sym, ap, ◌∙◌, arith, ⊎_elim}
use Rattle.std.specs.Prelude.{Contains}
use Rattle.std.proofs.lemmas.Bool.{eq-eqb, ne_eqb}
use Rattle.std.proofs.lemmas.List.{append-nil}
use Rattle.std.proofs.lemmas.List.Elements.{filter-append}
use Rattle.common_laws.proofs.Members.{contains_cases}
use Rattle.index_model.specs.Program.{Walked, Located, located}
use Rattle.index_model.proofs.ShardRoots.{Numbered, numbered_low}
use Rattle.index_model.proofs.Located.{of_located}
use Rattle.common_laws.proofs.Filters.{filter_agree, filter_none}

-- of the entries of these units, those of one unit that pass a test
abbrev pub at_number : ℕ → (Located → Bool) → Located → Bool
at_number n test d = eqb d.home.number n && test d

module _ (test : Located → Bool) (w : Walked) where
  elsewhere : (v : Walked) → (v.number ≡ w.number → ⊥) → filter (at_number w.number test) (located v) ≡ []
  elsewhere v off = filter_none (at_number w.number test) (located v) (λ d c.
      let home = ap (λ (x : Walked). x.number) (of_located v d c).0 in
      ap (λ (b : Bool). b && test d) (ne_eqb d.home.number w.number (λ e. off (sym home ∙ e))))

  here : (v : Walked) → v.number ≡ w.number → filter (at_number w.number test) (located v) ≡ filter test (located v)
  here v on = filter_agree (at_number w.number test) test (located v) (λ d c.
      let home = ap (λ (x : Walked). x.number) (of_located v d c).0 in
      ap (λ (b : Bool). b && test d) (eq-eqb d.home.number w.number (home ∙ on)))

  nowhere : (n : ℕ) (ws : List Walked) → Numbered n ws → w.number < n → filter (at_number w.number test) (flat_map located ws) ≡ []
  nowhere n [] h lt = refl
  nowhere n (v ∷ vs) h lt =
      filter-append (at_number w.number test) (located v) (flat_map located vs) ∙
      ap (λ (xs : List Located). xs ++ filter (at_number w.number test) (flat_map located vs)) (elsewhere v (λ e. omega (arith, e, lt, h.0))) ∙
      nowhere (n + 1) vs h.1 (omega (arith, lt))

  pub home_only : (n : ℕ) (ws : List Walked) → Numbered n ws → Contains ws w → filter (at_number w.number test) (flat_map located ws) ≡ filter test (located w)
  home_only n [] h c = absurd (omega (arith, c.1))
  home_only n (v ∷ vs) h c =
      filter-append (at_number w.number test) (located v) (flat_map located vs) ∙
      ⊎_elim
      (λ (same : v ≡ w).
      let number = ap (λ (x : Walked). x.number) same in
      ap (λ (xs : List Located). xs ++ filter (at_number w.number test) (flat_map located vs)) (here v number) ∙
      ap (λ (xs : List Located). filter test (located v) ++ xs) (nowhere (n + 1) vs h.1 (omega (arith, number, h.0))) ∙
      append-nil (filter test (located v)) ∙
      ap (λ (x : Walked). filter test (located x)) same)
      (λ (l : Contains vs w).
      let low = numbered_low (n + 1) vs w h.1 l in
      ap (λ (xs : List Located). xs ++ filter (at_number w.number test) (flat_map located vs)) (elsewhere v (λ e. omega (arith, e, low, h.0))) ∙
      home_only (n + 1) vs h.1 l)
      (contains_cases v vs w c)
