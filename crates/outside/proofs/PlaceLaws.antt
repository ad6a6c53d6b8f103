-- The front of a buffer after a copy.
use Rattle.std.proofs.Common.{◌≡◌, ℕ, ◌≤◌, ◌++◌, List, length, take, drop, sym, ap, ◌∙◌}
use Rattle.std.proofs.lemmas.List.{length-take-le}
use Rattle.std.proofs.Math.Seq.{take-append_seam}

-- what was copied to the front stands there
pub front_copied : (front copied into : List ℕ) (n : ℕ) → copied ≡ take n front → n ≤ length front → take n (copied ++ drop n into) ≡ take n front
front_copied front copied into n same here =
    let long : length copied ≡ n = ap length same ∙ length-take-le n front here in
    ap (λ k. take k (copied ++ drop n into)) (sym long) ∙ take-append_seam copied (drop n into) ∙ same
