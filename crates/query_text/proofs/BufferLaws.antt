-- The bytes of a buffer: a part from `start` to `searched`, and fresh bytes from there to `filled`.
use Rattle.std.proofs.Common.{◌≡◌, ℕ, ◌+◌, ◌-◌, ◌<◌, ◌≤◌, ◌++◌, List, length, take, drop, sym, ap, ◌∙◌, subst, arith}
use Rattle.std.proofs.Math.Seq.{take-add}
use Rattle.std.proofs.lemmas.List.{length-take, take-take, drop-take, drop-drop}

short : (n : ℕ) (l : List ℕ) → length (take n l) ≤ n
short n l = let e = length-take n l in omega (arith, e)

module _ (items : List ℕ) (start searched filled : ℕ) (part fresh : List ℕ) (is_part : take (searched - start) (drop start items) ≡ part) (is_fresh : take (filled - searched) (drop searched items) ≡ fresh) where
  fresh_fits : length fresh ≤ filled - searched
  fresh_fits = subst (λ (l : List ℕ). length l ≤ filled - searched) is_fresh (short (filled - searched) (drop searched items))

  -- what stands behind a line and its newline
  pub line_passed : (end : ℕ) → end < length fresh → take (filled - (searched + end + 1)) (drop (searched + end + 1) items) ≡ drop (end + 1) fresh
  line_passed end lt =
      let m = filled - (searched + end + 1) in
      let within = fresh_fits in
      sym (ap (λ (l : List ℕ). drop (end + 1) l) (sym is_fresh)
      ∙ ap (λ (n : ℕ). drop (end + 1) (take n (drop searched items))) {x = filled - searched} {y = (end + 1) + m} (omega (arith, within, lt))
      ∙ drop-take (end + 1) m (drop searched items)
      ∙ ap (λ (l : List ℕ). take m l) (drop-drop (end + 1) searched items)
      ∙ ap (λ (n : ℕ). take m (drop n items)) {x = searched + (end + 1)} {y = searched + end + 1} (omega arith))

  behind_part : start ≤ searched → drop (searched - start) (drop start items) ≡ drop searched items
  behind_part le = drop-drop (searched - start) start items ∙ ap (λ (n : ℕ). drop n items) {x = start + (searched - start)} {y = searched} (omega (arith, le))

  -- the part, and so many fresh bytes
  pub line_up : (held : List ℕ) (end : ℕ) → held ≡ items → start ≤ searched → end ≤ length fresh → take (searched + end - start) (drop start held) ≡ part ++ take end fresh
  line_up held end same le within =
      let fits = fresh_fits in
      ap (λ (l : List ℕ). take (searched + end - start) (drop start l)) same
      ∙ ap (λ (n : ℕ). take n (drop start items)) {x = searched + end - start} {y = (searched - start) + end} (omega (arith, le))
      ∙ take-add (searched - start) end (drop start items)
      ∙ ap (λ (l : List ℕ). l ++ take end (drop (searched - start) (drop start items))) is_part
      ∙ ap (λ (l : List ℕ). part ++ l) (ap (λ (l : List ℕ). take end l) (behind_part le) ∙ sym (take-take end (filled - searched) (drop searched items) (omega (arith, fits, within))) ∙ ap (λ (l : List ℕ). take end l) is_fresh)
