-- Calls that leave the files as they were.
use Rattle.std.proofs.Common.{Option, Some, None, refl, ◌∙◌}
use Rattle.outside.specs.Files.{Files, SameFiles}

-- files that nothing changed are the same
pub same_files-refl : (told : Option Files) → SameFiles told told
same_files-refl None = tt
same_files-refl (Some f) = λ name. refl

-- the same files twice are the same
pub same_files-trans : (a b c : Option Files) → SameFiles a b → SameFiles b c → SameFiles a c
same_files-trans None None None p q = tt
same_files-trans (Some f) (Some g) (Some h) p q = λ name. q name ∙ p name
same_files-trans None None (Some h) p q = q
same_files-trans None (Some g) c p q = absurd p
same_files-trans (Some f) None c p q = absurd p
same_files-trans (Some f) (Some g) None p q = q
