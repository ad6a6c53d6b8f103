-- The roots of units, one unit after the other.
use Rattle.std.proofs.Common.{◌≡◌, ℕ, ◌+◌, suc, List, [], ◌∷◌, ◌++◌, map, take, sym, ap, ◌∙◌}
use Rattle.index_model.specs.Program.{Walked, Program}
use Rattle.gdb_entries.specs.declared.language.LanguageClass.{LanguageClass}
use Rattle.gdb_entries.specs.Owners.{own_class}
use Rattle.gdb_units.specs.declared.units.UnitRoot.{UnitRoot}
use Rattle.gdb_units.specs.Given.{root_facts}
use Rattle.gdb_items.specs.declared.root.RootRead.{RootRead}
use Rattle.gdb_items.specs.Roots.{IsRootOf}
use Rattle.gdb_items.proofs.PartLaws.{map_more}

-- what is read are the roots of these units
pub record AreRootsTo (p : Program) (ws : List Walked) (units : List UnitRoot) (classes : List LanguageClass) : Type 0 where
  pub units_ : units ≡ map root_facts ws
  pub classes_ : classes ≡ map (own_class p) ws

-- one more
pub roots_more : (p : Program) (n : ℕ) (w : Walked) → take (suc n) p.walks ≡ take n p.walks ++ w ∷ [] → (units : List UnitRoot) (classes : List LanguageClass) → AreRootsTo p (take n p.walks) units classes → (r : RootRead) → IsRootOf p w r → AreRootsTo p (take (n + 1) p.walks) (units ++ r.unit ∷ []) (classes ++ r.class ∷ [])
roots_more p n w more units classes before r own = record {
  units_ =
      ap (λ (us : List UnitRoot). us ++ r.unit ∷ []) before.units_ ∙
      ap (λ (u : UnitRoot). map root_facts (take n p.walks) ++ u ∷ []) own.unit ∙
      sym (map_more root_facts p.walks n w more);
  classes_ =
      ap (λ (cs : List LanguageClass). cs ++ r.class ∷ []) before.classes_ ∙
      ap (λ (c : LanguageClass). map (own_class p) (take n p.walks) ++ c ∷ []) own.class ∙
      sym (map_more (own_class p) p.walks n w more);
}
