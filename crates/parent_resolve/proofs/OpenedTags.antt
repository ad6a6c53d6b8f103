-- Each tag that opens its children to visits is one that an index may list.
use Rattle.std.proofs.Common.{◌≡◌, ℕ, Bool, true, false, eqb, ◌&&◌, ◌||◌, List, [], ◌∷◌, refl, sym, ap, ◌∙◌}
use Rattle.std.specs.List.{list_any}
use Rattle.std.proofs.lemmas.Bool.{false≢true, eqb-true, and_parts}
use Rattle.index_model.specs.Rules.{is_in_table, opens}
use Rattle.index_model.specs.Tags.{is_record_tag, namespace, enumeration, subprogram}

-- all these are
abbrev AreListed : List ℕ → Type 0
AreListed [] = Unit {0}
AreListed (m ∷ ms) = (is_in_table m ≡ true) × AreListed ms

same_tag : (m tag : ℕ) → is_in_table m ≡ true → eqb tag m ≡ true → is_in_table tag ≡ true
same_tag m tag listed is = ap is_in_table (eqb-true tag m is) ∙ listed

one_of : (ms : List ℕ) (tag : ℕ) → AreListed ms → list_any (λ m. eqb m tag) ms ≡ true → is_in_table tag ≡ true
one_of [] tag all is = absurd (false≢true is)
one_of (m ∷ ms) tag all is = by (one_of ms tag all.1) (eqb m tag) refl is
  where
    by : (list_any (λ m. eqb m tag) ms ≡ true → is_in_table tag ≡ true) → (b : Bool) → eqb m tag ≡ b → (b || list_any (λ m. eqb m tag) ms) ≡ true → is_in_table tag ≡ true
    by more true e h = ap is_in_table (sym (eqb-true m tag e)) ∙ all.0
    by more false e h = more h

pub opens_listed : (ada : Bool) (tag : ℕ) → opens ada tag ≡ true → is_in_table tag ≡ true
opens_listed ada tag h = by (eqb tag namespace) refl (is_record_tag tag) refl (eqb tag enumeration) refl (ada && eqb tag subprogram) refl h
  where
    by : (a : Bool) → eqb tag namespace ≡ a → (b : Bool) → is_record_tag tag ≡ b → (c : Bool) → eqb tag enumeration ≡ c → (d : Bool) → (ada && eqb tag subprogram) ≡ d → (((a || b) || c) || d) ≡ true → is_in_table tag ≡ true
    by true ea b eb c ec d ed is = same_tag namespace tag refl ea
    by false ea true eb c ec d ed is = one_of (0x02 ∷ 0x13 ∷ 0x17 ∷ 0x38 ∷ []) tag (refl, (refl, (refl, (refl, tt)))) eb
    by false ea false eb true ec d ed is = same_tag enumeration tag refl ec
    by false ea false eb false ec true ed is = same_tag subprogram tag refl (and_parts ada (eqb tag subprogram) ed).1
    by false ea false eb false ec false ed is = absurd (false≢true is)
