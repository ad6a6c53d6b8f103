-- Parts of which those that aren't kept yet are taken.
use Rattle.std.proofs.Common.{◌≡◌, List, Option, Some, None, refl, ap, ◌∙◌}
use Rattle.std.specs.Prelude.{option_map}
use Rattle.std.specs.Option.{option_or}
use Rattle.ix_base.specs.declared.fault.Fault.{Fault}
use Rattle.index_model.specs.declared.entry.Entry.{Entry}
use Rattle.index_model.specs.Cache.{Cache}
use Rattle.index_model.specs.Outputs.{Summary}
use Rattle.index_model.specs.Parts.{Parts}

pub kept_or : {A B : Type 0} (f : A → B) (o p n : Option A) → n ≡ option_or o p → option_map f n ≡ option_or (option_map f o) (option_map f p)
kept_or {A} {B} f o p n is = ap (option_map f) is ∙ by o
  where
    by : (o : Option A) → option_map f (option_or o p) ≡ option_or (option_map f o) (option_map f p)
    by None = refl
    by (Some x) = refl

pub parts_same : (a b : Option Summary) (c d : Option (List Entry)) (e f : Option Cache) (g h : Option Fault) → a ≡ b → c ≡ d → e ≡ f → g ≡ h →
    ◌≡◌ {A = Parts} (record { summary = a; table = c; cache = e; fault = g }) (record { summary = b; table = d; cache = f; fault = h })
parts_same a b c d e f g h i j k l =
    ap (λ (x : Option Summary). record { summary = x; table = c; cache = e; fault = g }) i ∙
    (ap (λ (x : Option (List Entry)). record { summary = b; table = x; cache = e; fault = g }) j ∙
    (ap (λ (x : Option Cache). record { summary = b; table = d; cache = x; fault = g }) k ∙
    ap (λ (x : Option Fault). record { summary = b; table = d; cache = f; fault = x }) l))
