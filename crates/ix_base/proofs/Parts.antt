-- The next bytes alone, as a prefix of all bytes.
use Rattle.std.proofs.Common.{◌≡◌, ℕ, ◌+◌, ◌-◌, ◌≤◌, true, leb, List, length, take, drop, Some, refl, arith, length-drop}
use Rattle.std.proofs.lemmas.List.{drop-take, drop-drop}
use Rattle.std.proofs.lemmas.Bool.{le-leb}
use Rattle.ix_base.specs.Reading.{part}

pub part_is : (bytes : List ℕ) (at n : ℕ) → at ≤ length bytes → n ≤ length bytes - at → part n (record { at = at; rest = drop at bytes }) ≡ Some (record { at = at; rest = drop at (take (at + n) bytes) }, record { at = at + n; rest = drop (at + n) bytes })
part_is bytes at n inside enough =
    let t : leb n (length (drop at bytes)) ≡ true = le-leb n (length (drop at bytes)) (omega (arith, length-drop at bytes)) in
    rw (t, drop-take at n bytes, drop-drop) refl
