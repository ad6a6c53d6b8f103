-- A loop that reads one item after the other.
use Rattle.std.proofs.Common.{◌≡◌, ℕ, ◌+◌, List, [], ◌∷◌, ◌++◌, length, Result, Ok, Err, refl, sym, ap, ◌∙◌, append-nil, length-append, arith}
use Rattle.ix_base.specs.declared.fault.Fault.{Fault}
use Rattle.ix_base.specs.Reading.{Input}
use Rattle.index_model.specs.Tiling.{tiles}
use Rattle.index_model.proofs.TilingLaws.{Advances, tiles_item, tiles_fault, tiles_end}
use Rattle.file_image.specs.Front.{with_front}
use Rattle.file_image.proofs.Fronts.{one_in_front}

-- with nothing in front
pub no_front : {A : Type 0} (left : Result (List A) Fault) → with_front [] left ≡ left
no_front (Ok xs) = refl
no_front (Err f) = refl

module _ {A : Type 0} (read : ℕ → Input → Result (A × Input) Fault) (advances : Advances read) (front : List A) (i : Input) (total : Result (List A) Fault) (so_far : with_front front (tiles read (length front) i) ≡ total) where
  pub loop_item : (x : A) (next : Input) → (length i.rest ≡ 0 → ⊥) → read (length front) i ≡ Ok (x, next) → with_front (front ++ x ∷ []) (tiles read (length (front ++ x ∷ [])) next) ≡ total
  loop_item x next some is =
      let n : length (front ++ x ∷ []) ≡ length front + 1 = omega (arith, length-append front (x ∷ [])) in
      rw n (sym (one_in_front front x (tiles read (length front + 1) next)) ∙ ap (with_front front) (sym (tiles_item read advances (length front) i (x, next) some is)) ∙ so_far)

  pub loop_stop : (f : Fault) → (length i.rest ≡ 0 → ⊥) → read (length front) i ≡ Err f → total ≡ Err f
  loop_stop f some is = sym so_far ∙ ap (with_front front) (tiles_fault read advances (length front) i f some is)

  pub loop_end : length i.rest ≡ 0 → total ≡ Ok front
  loop_end none = sym so_far ∙ ap (with_front front) (tiles_end read advances (length front) i none) ∙ ap (λ (xs : List A). Ok xs) (append-nil front)
