-- Chains of references are the same, and the names that the file spells stay.
use Rattle.std.proofs.Common.{◌≡◌, ℕ, zero, suc, true, ◌&&◌, eqb, List, [], ◌∷◌, find, Option, Some, Result, Ok, Err, refl, ap, ◌∙◌}
use Rattle.std.specs.Prelude.{filter_map, option_and_then}
use Rattle.std.specs.List.{cons_option}
use Rattle.ix_base.specs.declared.code.TheConstants.{BAD_REFERENCE, REFERENCE_CHAIN}
use Rattle.ix_base.specs.declared.limits.TheConstants.{MAX_CHAIN_HOPS}
use Rattle.index_model.specs.declared.unit.Unit.{Unit as UnitHeader}
use Rattle.index_model.specs.Meaning.{◌>>=◌, some_or, if_some, some_else}
use Rattle.index_model.specs.Sections.{Section}
use Rattle.index_model.specs.Attributes.{Reference, next_reference, signature_of}
use Rattle.index_model.specs.Program.{Walked, Program, Located, item_with_offset}
use Rattle.index_model.specs.Strings.{own_name, own_linkage_name}
use Rattle.index_model.specs.References.{entry_named}
use Rattle.index_model.specs.Chains.{first as first_of, next_of, hop, hops_from, chain_of, linkage_name_of, is_type_unit, name_signed, name_by_signature, spelled_name, name_with, name_of}
use Rattle.index_model.specs.Faults.{scan_of}
use Rattle.grown_alike.specs.Grown.{Grows}
use Rattle.grown_alike.proofs.Kept.{Keeps, keeps_itself, keeps_then, keeps_if_some, keeps_else}
use Rattle.grown_alike.proofs.SameUnits.{with_walks, same_target}
use Rattle.grown_alike.proofs.Scanned.{same_name, same_linkage_name}
use Rattle.grown_alike.proofs.Known.{AreKnown, named_known}

module _ (first second : List Section) (grows : Grows first second) (us : List UnitHeader) (ws : List Walked) (scan : scan_of first us ≡ Ok ws) where
  abbrev before : Program
  before = with_walks first ws

  abbrev after : Program
  after = with_walks second ws

  same_entry : (w : Walked) (r : Reference) → entry_named after w r ≡ entry_named before w r
  unfolding entry_named item_with_offset
  same_entry w r = ap (λ (o : Option ℕ). some_or (option_and_then (item_with_offset before) o) BAD_REFERENCE) (same_target first second grows w r)

  same_next : (d : Located) → next_of after d ≡ next_of before d
  unfolding next_of
  same_next d = λ i. if_some (next_reference d.item) (λ (r : Reference). same_entry d.home r i >>= λ target. Ok (Some target))

  same_hops : (n : ℕ) (d : Located) → hops_from n after d ≡ hops_from n before d
  unfolding hops_from
  same_hops zero d = ap (λ (r : Result (Option Located) ℕ). r >>= λ next. hop next (λ _. Err REFERENCE_CHAIN)) (same_next d)
  same_hops (suc n) d = λ i. same_next d i >>= λ next. hop next (λ e. same_hops n e i >>= λ others. Ok (e ∷ others))

  pub same_chain : (d : Located) → chain_of after d ≡ chain_of before d
  unfolding chain_of
  same_chain d = ap (λ (r : Result (List Located) ℕ). r >>= λ others. Ok (d ∷ others)) (same_hops MAX_CHAIN_HOPS d)

  -- ---- names on a chain

  same_names : (chain : List Located) → AreKnown before chain → filter_map (own_name second) chain ≡ filter_map (own_name first) chain
  same_names [] all = refl
  same_names (d ∷ ds) all = λ i. cons_option (same_name first second grows us ws scan d all.0 i) (same_names ds all.1 i)

  same_linkage_names : (chain : List Located) → AreKnown before chain → filter_map (own_linkage_name second) chain ≡ filter_map (own_linkage_name first) chain
  same_linkage_names [] all = refl
  same_linkage_names (d ∷ ds) all = λ i. cons_option (same_linkage_name first second grows us ws scan d all.0 i) (same_linkage_names ds all.1 i)

  pub same_linkage : (chain : List Located) → AreKnown before chain → linkage_name_of after chain ≡ linkage_name_of before chain
  unfolding linkage_name_of
  same_linkage chain all = ap first_of (same_linkage_names chain all)

  -- ---- names by signatures

  signed_keeps : (s : ℕ) → Keeps (name_signed before s) (name_signed after s)
  unfolding name_signed
  signed_keeps s = keeps_if_some (find (λ w. is_type_unit w.unit.sort && eqb w.unit.signature s) ws) _ _ (λ w.
      let r : Reference = record { target = w.unit.type_offset; near = true } in
      keeps_then (entry_named before w r) (entry_named after w r) _ _ (record { on = λ d is. same_entry w r ∙ is }) (λ d is.
      record { on = λ name e. ap (λ (o : Option (List ℕ)). Ok o) (same_name first second grows us ws scan d ((named_known before w r).only d is)) ∙ e }))

  by_signature_keeps : (d : Located) → Keeps (name_by_signature before d) (name_by_signature after d)
  unfolding name_by_signature
  by_signature_keeps d = keeps_if_some (signature_of d.item) (name_signed before) (name_signed after) signed_keeps

  -- the name that the file spells
  pub spelled_keeps : (d : Located) (chain : List Located) → AreKnown before chain → Keeps (spelled_name before d chain) (spelled_name after d chain)
  unfolding spelled_name
  spelled_keeps d chain all =
      let here = first_of (filter_map (own_name first) chain) in
      record {
        on = λ name is.
            ap (λ (names : List (List ℕ)). some_else (first_of names) (name_by_signature after d)) (same_names chain all)
            ∙ (keeps_else here (name_by_signature before d) (name_by_signature after d) (by_signature_keeps d)).on name is;
      }

  pub name_keeps : (d : Located) (chain : List Located) → AreKnown before chain → Keeps (name_of before d chain) (name_of after d chain)
  unfolding name_of
  name_keeps d chain all = keeps_then (spelled_name before d chain) (spelled_name after d chain) _ _ (spelled_keeps d chain all) (λ spelled _. keeps_itself (Ok (name_with d spelled)))
