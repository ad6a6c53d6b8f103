-- Up to which place of a section each string is sound.
use Rattle.std.specs.Prelude.{◌≡◌, ◌+◌, ◌≤◌, ◌<◌, ℕ, List, length, slice_index, Result, Ok, Err}
use Rattle.ix_base.specs.declared.limits.TheConstants.{MAX_STRING}
use Rattle.index_model.specs.Strings.{string_at}
use Rattle.file_image.specs.declared.text_limits.TextLimits.{TextLimits as Limits}

-- only what is wrong of a meaning
abbrev pub tested : {A E : Type 0} → Result A E → Result (Unit {0}) E
tested (Ok x) = Ok tt
tested (Err e) = Err e

-- a sound string begins at each of the first n places
abbrev pub AreSound : List ℕ → ℕ → Type 0
AreSound bytes n = (at : ℕ) → at < n → tested (string_at bytes at) ≡ Ok tt

-- the same of both sections
pub record AreLimits (str line_str : List ℕ) (l : Limits) : Type 0 where
  pub str_ : AreSound str l.str
  pub line_str_ : AreSound line_str l.line_str

-- a zero that may end a string of the greatest length from a place on
pub record IsZeroNear (bytes : List ℕ) (at zero : ℕ) : Type 0 where
  pub behind : at ≤ zero
  pub within : zero < length bytes
  pub is : slice_index bytes zero ≡ 0
  pub near : zero ≤ at + MAX_STRING
