-- The offsets of areas, area by area.
use Rattle.std.proofs.Common.{◌≡◌, ℕ, ◌+◌, Bool, false, cond, eqb, List, [], ◌∷◌, ◌++◌, sym, ap, ◌∙◌, arith}
use Rattle.std.specs.Prelude.{flat_map}
use Rattle.std.proofs.lemmas.List.{append_assoc, append-nil, map-id}
use Rattle.std.proofs.lemmas.List.Concat.{flat_map-append}
use Rattle.std.proofs.lemmas.List.FromFn.{map-range_with_len_more}
use Rattle.index_model.specs.Layout.{below, u32_bytes}
use Rattle.gdbindex_write.specs.Header.{offset_of, area_sizes}
use Rattle.gdbindex_write.specs.declared.sizes.Sizes.{Sizes}
use Rattle.std.proofs.lemmas.Bool.Decides.{nat_tests}

pub below_push : (n : ℕ) → below (n + 1) ≡ below n ++ n ∷ []
below_push n = sym (map-id (below (n + 1))) ∙ map-range_with_len_more (λ (k : ℕ). k) 0 n n (omega arith) ∙ ap (λ (w : List ℕ). w ++ n ∷ []) (map-id (below n))

pub offsets_more : (sizes : List ℕ) (i at : ℕ) (start out : List ℕ) → out ≡ start ++ flat_map (λ k. u32_bytes (offset_of sizes k)) (below i) → at ≡ offset_of sizes i → out ++ u32_bytes at ≡ start ++ flat_map (λ k. u32_bytes (offset_of sizes k)) (below (i + 1))
offsets_more sizes i at start out made next =
    let f : ℕ → List ℕ = λ k. u32_bytes (offset_of sizes k) in
    let more : flat_map f (below (i + 1)) ≡ flat_map f (below i) ++ f i = ap (flat_map f) (below_push i) ∙ flat_map-append f (below i) (i ∷ []) ∙ ap (λ (w : List ℕ). flat_map f (below i) ++ w) (append-nil (f i)) in
    (λ j. made j ++ u32_bytes (next j)) ∙ append_assoc start (flat_map f (below i)) (f i) ∙ ap (λ (w : List ℕ). start ++ w) (sym more)

-- ---- the sizes by version

pub sizes_9 : (version : ℕ) (s : Sizes) → version ≡ 9 → area_sizes version s ≡ s.units ∷ s.types ∷ s.addresses ∷ s.slots ∷ 8 ∷ (s.vectors + s.names) ∷ []
sizes_9 version s is = ap (λ (v : ℕ). area_sizes v s) is

pub sizes_other : (version : ℕ) (s : Sizes) → (version ≡ 9 → ⊥) → area_sizes version s ≡ s.units ∷ s.types ∷ s.addresses ∷ s.slots ∷ (s.vectors + s.names) ∷ []
sizes_other version s isnt =
    let other : eqb version 9 ≡ false = grind (arith, nat_tests) in
    ap (λ (b : Bool). cond b (s.units ∷ s.types ∷ s.addresses ∷ s.slots ∷ 8 ∷ (s.vectors + s.names) ∷ []) (s.units ∷ s.types ∷ s.addresses ∷ s.slots ∷ (s.vectors + s.names) ∷ [])) other
