-- Reading on: what was read so far stands in front of what is still read.
use Rattle.std.proofs.Common.{◌≡◌, ℕ, zero, suc, ◌≤◌, true, false, ◌==◌, List, [], ◌∷◌, ◌++◌, append_assoc, length, length-take, take, Option, Some, None, refl, ap, arith}
use Rattle.std.proofs.lemmas.List.{append-nil}
use Rattle.ix_base.specs.Reading.{◌>>=◌, Input, uleb}
use Rattle.index_model.specs.Abbreviations.{Spec, Abbrev, spec_at, specs_at, is_end, abbrev_with, abbrevs_at}

-- these attributes, and those that are still read
abbrev pub with_front : List Spec → Option (List Spec × Input) → Option (List Spec × Input)
with_front xs more = more >>= λ ys. Some (xs ++ ys.0, ys.1)

-- these abbreviations, and those that are still read
abbrev pub with_first : List Abbrev → Option (List Abbrev) → Option (List Abbrev)
with_first xs more = more >>= λ ys. Some (xs ++ ys)

-- ---- attributes

front_more : (xs : List Spec) (s : Spec) (more : Option (List Spec × Input)) → with_front xs (more >>= λ ys. Some (s ∷ ys.0, ys.1)) ≡ with_front (xs ++ s ∷ []) more
front_more xs s None = refl
front_more xs s (Some ys) = rw append_assoc refl

pub front_none : (more : Option (List Spec × Input)) → with_front [] more ≡ more
front_none None = refl
front_none (Some ys) = refl

pub specs_out : (i : Input) (xs : List Spec) → with_front xs (specs_at zero i) ≡ None
unfolding specs_at
specs_out i xs = refl

pub specs_cut : (n : ℕ) (i : Input) (xs : List Spec) → spec_at i ≡ None → with_front xs (specs_at (suc n) i) ≡ None
unfolding specs_at
specs_cut n i xs e = rw e refl

pub specs_end : (n : ℕ) (i left : Input) (s : Spec) (xs : List Spec) → spec_at i ≡ Some (s, left) → is_end s ≡ true → with_front xs (specs_at (suc n) i) ≡ Some (xs, left)
unfolding specs_at
specs_end n i left s xs e end = rw e (rw end (rw append-nil refl))

pub specs_more : (n : ℕ) (i left : Input) (s : Spec) (xs : List Spec) → spec_at i ≡ Some (s, left) → is_end s ≡ false → with_front xs (specs_at (suc n) i) ≡ with_front (xs ++ s ∷ []) (specs_at n left)
unfolding specs_at
specs_more n i left s xs e more = rw e (rw more (front_more xs s (specs_at n left)))

-- ---- abbreviations

first_more : (xs : List Abbrev) (a : Abbrev) (more : Option (List Abbrev)) → with_first xs (more >>= λ ys. Some (a ∷ ys)) ≡ with_first (xs ++ a ∷ []) more
first_more xs a None = refl
first_more xs a (Some ys) = rw append_assoc refl

pub first_none : (more : Option (List Abbrev)) → with_first [] more ≡ more
first_none None = refl
first_none (Some ys) = refl

pub abbrevs_out : (i : Input) (xs : List Abbrev) → with_first xs (abbrevs_at zero i) ≡ None
unfolding abbrevs_at
abbrevs_out i xs = refl

pub code_cut : (n : ℕ) (i : Input) (xs : List Abbrev) → uleb i ≡ None → with_first xs (abbrevs_at (suc n) i) ≡ None
unfolding abbrevs_at
code_cut n i xs e = rw e refl

pub abbrevs_end : (n : ℕ) (i left : Input) (xs : List Abbrev) → uleb i ≡ Some (0, left) → with_first xs (abbrevs_at (suc n) i) ≡ Some xs
unfolding abbrevs_at
abbrevs_end n i left xs e = rw e (rw append-nil refl)

pub abbrev_cut : (n : ℕ) (i left : Input) (code : ℕ) (xs : List Abbrev) → uleb i ≡ Some (code, left) → (code == 0) ≡ false → abbrev_with code left ≡ None → with_first xs (abbrevs_at (suc n) i) ≡ None
unfolding abbrevs_at
abbrev_cut n i left code xs e some cut = rw e (rw some (rw cut refl))

pub abbrevs_more : (n : ℕ) (i left behind : Input) (code : ℕ) (a : Abbrev) (xs : List Abbrev) → uleb i ≡ Some (code, left) → (code == 0) ≡ false → abbrev_with code left ≡ Some (a, behind) → with_first xs (abbrevs_at (suc n) i) ≡ with_first (xs ++ a ∷ []) (abbrevs_at n behind)
unfolding abbrevs_at
abbrevs_more n i left behind code a xs e some first = rw e (rw some (rw first (first_more xs a (abbrevs_at n behind))))

-- ---- numbers

-- a list is no longer than one that it begins
pub begins_within : {A : Type 0} (old new : List A) → take (length old) new ≡ old → length old ≤ length new
begins_within old new e = omega (arith, length-take (length old) new, ap length e)
