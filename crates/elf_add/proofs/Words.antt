-- The ten fields of a section header, as they are appended.
use Rattle.std.proofs.Common.{◌≡◌, List, ◌++◌}
use Rattle.common_laws.proofs.Appended.{two_parts}

-- each list is the one before with a part behind
pub ten_parts : {A : Type 0} (o a b c d e f g h i j : List A) {o1 o2 o3 o4 o5 o6 o7 o8 o9 o10 : List A}
    → o1 ≡ o ++ a → o2 ≡ o1 ++ b → o3 ≡ o2 ++ c → o4 ≡ o3 ++ d → o5 ≡ o4 ++ e → o6 ≡ o5 ++ f → o7 ≡ o6 ++ g → o8 ≡ o7 ++ h → o9 ≡ o8 ++ i → o10 ≡ o9 ++ j
    → o10 ≡ o ++ (a ++ b ++ c ++ d ++ e ++ f ++ g ++ h ++ i ++ j)
ten_parts o a b c d e f g h i j p1 p2 p3 p4 p5 p6 p7 p8 p9 p10 =
    two_parts o _ j (two_parts o _ i (two_parts o _ h (two_parts o _ g (two_parts o _ f (two_parts o _ e (two_parts o _ d (two_parts o _ c (two_parts o a b p1 p2) p3) p4) p5) p6) p7) p8) p9) p10
