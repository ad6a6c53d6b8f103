-- A file that is read piece after piece, where the shelf tells its files.
use Rattle.std.proofs.Common.{◌≡◌, ℕ, ◌+◌, ◌<◌, ◌≤◌, List, [], ◌++◌, length, take, Option, Some, None, refl, sym, ap, ◌∙◌, arith, length-append, append-nil, length-take-le, length-take, ◌⊎◌, inl, inr}
use Rattle.std.proofs.lemmas.List.{take_all}
use Rattle.std.proofs.Math.Seq.{take-add}
use Rattle.outside.specs.Files.{Files, SameFiles, IsPieceOf, ReadsPiece}
use Rattle.command_base.specs.FilesRead.{Holds, HoldsMore, HoldsFirst, IsFirstOf}

module _ (so_far into_old into_new : List ℕ) (n : ℕ) where
  -- the first bytes of what is held, and those behind them
  more_of : (held : Option (List ℕ)) → n ≤ length into_new → IsPieceOf held (length so_far) into_old into_new n → IsFirstOf held so_far → IsFirstOf held (so_far ++ take n into_new)
  more_of None within piece first = absurd piece
  more_of (Some held) within piece first =
      let size : length (so_far ++ take n into_new) ≡ length so_far + n = omega (arith, length-append so_far (take n into_new), length-take-le n into_new within) in
      rw size (rw take-add (ap (λ (xs : List ℕ). xs ++ take n into_new) first ∙ ap (λ (xs : List ℕ). take (length so_far) held ++ xs) piece.same))

  pub first_more : (told : Option Files) (name : List ℕ) → n ≤ length into_new → ReadsPiece told name (length so_far) into_old into_new n → HoldsFirst told name so_far → HoldsFirst told name (so_far ++ take n into_new)
  first_more None name within piece first = tt
  first_more (Some f) name within piece first = more_of (f name) within piece first

  -- nothing more comes only at the file's end
  all_of : (held : Option (List ℕ)) → 0 < length into_old → n ≡ 0 → IsPieceOf held (length so_far) into_old into_new n → IsFirstOf held so_far → held ≡ Some (so_far ++ take n into_new)
  all_of None room none piece first = absurd piece
  all_of (Some held) room none piece first =
      let is : so_far ≡ held = first ∙ take_all (length so_far) held (past_end held room none piece.end) in
      rw (none, append-nil) (ap (λ (xs : List ℕ). Some xs) (sym is))
    where
      past_end : (held : List ℕ) → 0 < length into_old → n ≡ 0 → (n ≡ 0 → (length held ≤ length so_far) ⊎ (length into_old ≡ 0)) → length held ≤ length so_far
      past_end held room none end = elim (end none) [ inl le ↦ le | inr empty ↦ absurd (omega arith) ]

  pub all_held : (told : Option Files) (name : List ℕ) → 0 < length into_old → n ≡ 0 → ReadsPiece told name (length so_far) into_old into_new n → HoldsFirst told name so_far → Holds told name (so_far ++ take n into_new)
  all_held None name room none piece first = tt
  all_held (Some f) name room none piece first = all_of (f name) room none piece first

-- the same files hold the same
module _ (name bytes : List ℕ) where
  pub same_first : (a b : Option Files) → SameFiles a b → HoldsFirst b name bytes → HoldsFirst a name bytes
  same_first None None same first = tt
  same_first None (Some g) same first = absurd same
  same_first (Some f) None same first = absurd same
  same_first (Some f) (Some g) same first = rw (← same name) first

  pub same_first_on : (a b : Option Files) → SameFiles a b → HoldsFirst a name bytes → HoldsFirst b name bytes
  same_first_on None None same first = tt
  same_first_on None (Some g) same first = absurd same
  same_first_on (Some f) None same first = absurd same
  same_first_on (Some f) (Some g) same first = rw (same name) first

  pub same_whole : (a b : Option Files) → SameFiles a b → Holds b name bytes → Holds a name bytes
  same_whole None None same whole = tt
  same_whole None (Some g) same whole = absurd same
  same_whole (Some f) None same whole = absurd same
  same_whole (Some f) (Some g) same whole = rw (← same name) whole

-- the first limit + 1 bytes are more than the limit
above : (held : Option (List ℕ)) (bytes : List ℕ) (limit : ℕ) → limit < length bytes → IsFirstOf held bytes → (all : List ℕ) × (held ≡ Some all) × (limit < length all)
above None bytes limit lt first = absurd (omega (arith, ap length first))
above (Some held) bytes limit lt first = (held, refl, omega (arith, ap length first, length-take (length bytes) held))

pub holds_more : (told : Option Files) (name bytes : List ℕ) (limit : ℕ) → limit < length bytes → HoldsFirst told name bytes → HoldsMore told name limit
holds_more None name bytes limit lt first = tt
holds_more (Some f) name bytes limit lt first = above (f name) bytes limit lt first

-- nothing was read at the beginning
pub nothing_yet : (told : Option Files) (name bytes : List ℕ) → bytes ≡ [] → HoldsFirst told name bytes
nothing_yet None name bytes e = tt
nothing_yet (Some f) name bytes e = rw e (none_of (f name))
  where
    none_of : (held : Option (List ℕ)) → IsFirstOf held []
    none_of None = refl
    none_of (Some held) = refl

-- what holds more still does
pub same_more : (name : List ℕ) (limit : ℕ) (a b : Option Files) → SameFiles a b → HoldsMore b name limit → HoldsMore a name limit
same_more name limit None None same more = tt
same_more name limit None (Some g) same more = absurd same
same_more name limit (Some f) None same more = absurd same
same_more name limit (Some f) (Some g) same more = (more.0, sym (same name) ∙ more.1, more.2)
