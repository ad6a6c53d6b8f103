-- What a file means whose references, and then ranges, have no fault.
use Rattle.std.proofs.Common.{◌≡◌, ℕ, List, [], ◌∷◌, ◌++◌, flat_map, Some, None, Result, Ok, Err, refl, sym, ap, ◌∙◌}
use Rattle.std.specs.List.{AllZip}
use Rattle.std.proofs.lemmas.Grind.{flat_map-append}
use Rattle.std.proofs.lemmas.List.Elements.{filter-append}
use Rattle.ix_base.specs.declared.fault.Fault.{Fault}
use Rattle.index_model.specs.declared.entry.Entry.{Entry}
use Rattle.index_model.specs.declared.range.UnitRange.{UnitRange}
use Rattle.index_model.specs.Entries.{entries_of, entries_of_link}
use Rattle.index_model.specs.Faults.{Built, built_of, program_of, links_of, all_ranges, first_fault}
use Rattle.index_model.specs.Links.{Link, link_of, links_in, followed, indexed_in, is_link_indexed}
use Rattle.index_model.specs.Meaning.{◌>>=◌, each, at_place}
use Rattle.index_model.specs.Program.{Walked, Program, Located}
use Rattle.index_pool.proofs.Lists.{joined}
use Rattle.parent_resolve.proofs.CutFile.{each_of_two}

module _ (p : Program) where
  abbrev one : Located → Result Link Fault
  one d = at_place d.item.at (link_of p d)

  -- what the references of all parts give
  pub links_joined : (walks : List (List Walked)) (links : List (List Link)) → AllZip (λ ws ks. links_in p ws ≡ Ok ks) walks links → links_in p (joined walks) ≡ Ok (joined links)
  unfolding links_in
  links_joined [] [] z = refl
  links_joined [] (ks ∷ kss) z = absurd z
  links_joined (ws ∷ wss) [] z = absurd z
  links_joined (ws ∷ wss) (ks ∷ kss) z =
      ap (each one) (flat_map-append (followed p) ws (joined wss)) ∙
      each_of_two one (flat_map (followed p) ws) (flat_map (followed p) (joined wss)) ks (joined kss) z.0 (links_joined wss kss z.1)

  -- their entries
  pub entries_joined : (links : List (List Link)) → entries_of p (joined links) ≡ flat_map (entries_of p) links
  unfolding entries_of
  entries_joined [] = refl
  entries_joined (ks ∷ kss) =
      ap (flat_map (entries_of_link p)) (filter-append is_link_indexed ks (joined kss)) ∙
      flat_map-append (entries_of_link p) (indexed_in ks) (indexed_in (joined kss)) ∙
      ap (λ (es : List Entry). flat_map (entries_of_link p) (indexed_in ks) ++ es) (entries_joined kss)

abbrev pub built : Program → List Link → List UnitRange → Built
built p ks rs = record { program = p; links = ks; ranges = rs }

module _ (f : List ℕ) (p : Program) (file : program_of f ≡ Ok p) (ks : List Link) (links : links_of p ≡ Ok ks) where
  pub built_is : built_of f ≡ (all_ranges p ks >>= λ rs. Ok (built p ks rs))
  unfolding built_of
  built_is = rw (file, links) refl

  pub built_with : (rs : List UnitRange) → all_ranges p ks ≡ Ok rs → built_of f ≡ Ok (built p ks rs)
  built_with rs is = rw (built_is, is) refl

  pub fault_with : (g : Fault) → all_ranges p ks ≡ Err g → first_fault f ≡ Some g
  fault_with g is = rw (built_is, is) refl

  pub accepted_with : (rs : List UnitRange) → all_ranges p ks ≡ Ok rs → first_fault f ≡ None
  accepted_with rs is = rw (built_is, is) refl

  -- an accepted file has ranges
  pub ranges_of_accepted : first_fault f ≡ None → (rs : List UnitRange) × (all_ranges p ks ≡ Ok rs)
  ranges_of_accepted none = by (all_ranges p ks) refl
    where
      by : (r : Result (List UnitRange) Fault) → all_ranges p ks ≡ r → (rs : List UnitRange) × (all_ranges p ks ≡ Ok rs)
      by (Ok rs) is = (rs, is)
      by (Err g) is = let e : None ≡ Some g = sym none ∙ fault_with g is in absurd (cc e)
