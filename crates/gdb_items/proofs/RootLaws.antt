-- What is read of the root of a unit is what the definitions ask of it.
use Rattle.std.proofs.Common.{◌≡◌, ℕ, cond, eqb, List, [], ◌∷◌, Option, Some, None, refl, sym, ap, ◌∙◌}
use Rattle.std.specs.Prelude.{find, option_and_then, unwrap_or}
use Rattle.index_model.specs.Attributes.{language_value}
use Rattle.index_model.specs.Languages.{own_language}
use Rattle.index_model.specs.Program.{Walked, Program, items_of, root_of}
use Rattle.index_model.specs.Sections.{Section}
use Rattle.index_model.specs.Strings.{base_of}
use Rattle.index_model.specs.Walk.{Item}
use Rattle.gdb_entries.specs.declared.language.LanguageClass.{LanguageClass}
use Rattle.gdb_entries.specs.declared.language.LanguageClass.TheVariants.{Go, Other}
use Rattle.gdb_entries.specs.Classes.{class_of}
use Rattle.gdb_entries.specs.Owners.{is_go_compiler, producer_in, own_class}
use Rattle.gdb_units.specs.Given.{root_facts}
use Rattle.gdb_items.specs.declared.root.RootRead.{RootRead}
use Rattle.gdb_items.specs.Roots.{class_by, facts_by, IsRootOf}

-- without entries there is none
no_root : (w : Walked) → items_of w ≡ [] → root_of w ≡ None
no_root w none = ap (λ (ds : List Item). find (λ (d : Item). eqb d.depth 0) ds) none

-- ---- what is read

abbrev class_in : List Section → Walked → Option Item → LanguageClass
class_in ss w o = cond (is_go_compiler (producer_in ss w o)) Go (class_of (unwrap_or (option_and_then language_value o) 0))

facts_are : (w : Walked) → root_facts w ≡ facts_by (root_of w)
unfolding root_facts
facts_are w = refl

class_is : (p : Program) (w : Walked) → own_class p w ≡ class_in p.sections w (root_of w)
unfolding own_class own_language
class_is p w = refl

other_is : class_of 0 ≡ Other
unfolding class_of
other_is = refl

module _ (p : Program) (w : Walked) (r : RootRead) where
  by_root : (o : Option Item) → root_of w ≡ o → r.unit ≡ facts_by o → r.class ≡ class_in p.sections w o → IsRootOf p w r
  by_root o at unit class = record {
    unit = unit ∙ ap facts_by (sym at) ∙ sym (facts_are w);
    class = class ∙ ap (class_in p.sections w) (sym at) ∙ sym (class_is p w);
  }

  -- what the root says
  pub root_read : (ss : List Section) → p.sections ≡ ss → (d : Item) → root_of w ≡ Some d → (base : Option ℕ) → base ≡ base_of 0x72 w → r.unit ≡ facts_by (Some d) → r.class ≡ class_by ss base w.unit.wide d → IsRootOf p w r
  root_read ss same d at base own unit class =
      by_root (Some d) at unit (class ∙ ap (λ (b : Option ℕ). class_by ss b w.unit.wide d) own ∙ ap (λ (xs : List Section). class_by xs (base_of 0x72 w) w.unit.wide d) (sym same))

  -- what is known without one
  pub none_read : items_of w ≡ [] → r.unit ≡ facts_by None → r.class ≡ Other → IsRootOf p w r
  none_read none unit class = by_root None (no_root w none) unit (class ∙ sym other_is)
