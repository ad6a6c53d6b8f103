-- Names of both releases of gdb.
use Rattle.std.proofs.Common.{◌≡◌, ℕ, cond, List, [], ◌∷◌, ap, ◌∙◌}
use Rattle.std.specs.Prelude.{bytes_eq}
use Rattle.cxx_spelling.specs.declared.release.Release.{Release}
use Rattle.cxx_spelling.specs.declared.release.Release.TheVariants.{Gdb13, Gdb16}
use Rattle.gdb_entries.specs.Entries.{by_both}
use Rattle.gdb_names.specs.declared.both.BothNames.{BothNames}
use Rattle.gdb_names.specs.Both.{text_by, AreBoth}

-- what holds for each release
each_release : (f g : Release → List ℕ) → f Gdb13 ≡ g Gdb13 → f Gdb16 ≡ g Gdb16 → (release : Release) → f release ≡ g release
each_release f g older newer Gdb13 = older
each_release f g older newer Gdb16 = newer

-- the same texts are listed alike
by_both_same : (f g : Release → List ℕ) → f Gdb13 ≡ g Gdb13 → f Gdb16 ≡ g Gdb16 → by_both f ≡ by_both g
by_both_same f g older newer =
    ap (λ (t : List ℕ). cond (bytes_eq t (f Gdb16)) (t ∷ []) (t ∷ f Gdb16 ∷ [])) older
    ∙ ap (λ (t : List ℕ). cond (bytes_eq (g Gdb13) t) (g Gdb13 ∷ []) (g Gdb13 ∷ t ∷ [])) newer

-- names that have some texts have those that are the same
pub are_same : (f g : Release → List ℕ) (names : BothNames) → ((release : Release) → f release ≡ g release) → AreBoth f names → AreBoth g names
are_same f g names same h =
    (each_release (λ release. text_by release names) g (h.0 Gdb13 ∙ same Gdb13) (h.0 Gdb16 ∙ same Gdb16), h.1 ∙ by_both_same f g (same Gdb13) (same Gdb16))
