-- How a unit is read, by its number.
use Rattle.std.proofs.Common.{◌≡◌, ℕ, zero, suc, ◌+◌, ◌<◌, List, [], ◌∷◌, length, get_or, map, Option, Some, None, Ok, refl, sym, ap, ◌∙◌, arith}
use Rattle.std.specs.Prelude.{Contains, slice_get, option_and_then, option_map}
use Rattle.common_laws.proofs.Lists.{slice_of_map}
use Rattle.index_model.specs.Faults.{program_of}
use Rattle.index_model.specs.Program.{Program, Walked}
use Rattle.index_model.proofs.ShardRoots.{Numbered, program_numbered}
use Rattle.gdb_entries.specs.declared.language.LanguageClass.{LanguageClass}
use Rattle.gdb_entries.specs.Owners.{own_class, owner_of, class_read}
use Rattle.gdb_items.specs.declared.by_owner.Reading.{Reading}
use Rattle.gdb_items.specs.Readings.{reading_of}

number_at : (n : ℕ) (ws : List Walked) (k : ℕ) (w : Walked) → Numbered n ws → k < length ws → (get_or ws k w).number ≡ n + k
number_at n [] k w h lt = absurd (omega arith)
number_at n (v ∷ vs) zero w h lt = omega (arith, h.0)
number_at n (v ∷ vs) (suc k) w h lt = let later = number_at (n + 1) vs k w h.1 (omega (arith, lt)) in omega (arith, later)

-- what is told at the number of a unit is its reading
pub told_at : (f : List ℕ) (p : Program) → program_of f ≡ Ok p → (w : Walked) → Contains p.walks w → slice_get (map (reading_of p) p.walks) w.number ≡ Some (reading_of p w)
told_at f p is w (k, lt, at) =
    let number : w.number ≡ k = ap (λ (v : Walked). v.number) (sym at) ∙ number_at 0 p.walks k w (program_numbered f p is) lt ∙ (let none : 0 + k ≡ k = omega arith in none) in
    ap (λ (n : ℕ). slice_get (map (reading_of p) p.walks) n) number ∙ slice_of_map (reading_of p) p.walks k w lt ∙ ap (λ (v : Walked). Some (reading_of p v)) at

-- so is what is told at its number
pub reading_told : (f : List ℕ) (p : Program) → program_of f ≡ Ok p → (w : Walked) → Contains p.walks w → (unit : ℕ) → w.number ≡ unit → (readings : List (Option Reading)) → readings ≡ map (reading_of p) p.walks → option_and_then (λ (r : Option Reading). r) (slice_get readings unit) ≡ reading_of p w
reading_told f p is w wc unit number readings are =
    ap (λ (rs : List (Option Reading)). option_and_then (λ (r : Option Reading). r) (slice_get rs unit)) are ∙
    ap (λ (n : ℕ). option_and_then (λ (r : Option Reading). r) (slice_get (map (reading_of p) p.walks) n)) (sym number) ∙
    ap (λ (o : Option (Option Reading)). option_and_then (λ (r : Option Reading). r) o) (told_at f p is w wc)

abbrev pub class_in : Option Reading → Option LanguageClass
class_in r = option_map (λ x. x.class) r

-- by that it is read by its class
pub class_is : (p : Program) (w : Walked) → class_in (reading_of p w) ≡ class_read p w
unfolding reading_of class_read
class_is p w = by (owner_of p w)
  where
    by : (o : Option Walked) → class_in (option_map (λ (v : Walked). record { owner = v.number; class = own_class p v }) o) ≡ option_map (own_class p) o
    by None = refl
    by (Some v) = refl
