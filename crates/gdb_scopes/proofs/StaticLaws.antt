-- Whether names are static.
use Rattle.std.proofs.Common.{◌≡◌, ℕ, Bool, true, false, cond, eqb, Some, sym, ap, ◌∙◌}
use Rattle.index_model.specs.Program.{Program, Located}
use Rattle.gdb_entries.specs.declared.language.LanguageClass.{LanguageClass}
use Rattle.gdb_entries.specs.Chains.{is_external}
use Rattle.gdb_entries.specs.Entries.{is_item_static, is_static_around, is_static_itself}
use Rattle.gdb_entries.specs.Rules.{entry_point, is_static}
use Rattle.gdb_entries.specs.Scopes.{around_by}

-- by what is told of an item's chain
pub itself_told : (p : Program) (class : LanguageClass) (d : Located) (tag : ℕ) (external : Bool) → tag ≡ d.item.tag → external ≡ is_external p d → is_static class tag external ≡ is_static_itself p class d
itself_told p class d tag external at is = ap (λ (t : ℕ). is_static class t external) at ∙ ap (λ (e : Bool). is_static class d.item.tag e) is

module _ (p : Program) (class : LanguageClass) (d : Located) where
  abbrev either : Bool → Bool
  either b = cond b (is_static_around p class (around_by p (Some class) d)) (is_static_itself p class d)

  -- those of an entry point are as those around it
  pub static_around : eqb d.item.tag entry_point ≡ true → is_static_around p class (around_by p (Some class) d) ≡ is_item_static p class d
  unfolding is_item_static
  static_around on = sym (ap either on)

  -- others are as the item itself
  pub static_itself : eqb d.item.tag entry_point ≡ false → is_static_itself p class d ≡ is_item_static p class d
  unfolding is_item_static
  static_itself off = sym (ap either off)
