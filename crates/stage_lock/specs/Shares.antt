-- How a lock is shared out among its passes: a split halves a share, and a join adds two. All shares are the whole, so a pass with the whole is the only one.
use Rattle.std.specs.Prelude.{◌≡◌, ℕ, ◌+◌, ◌*◌, ◌-◌, ◌^◌, List, [], ◌∷◌}
use Rattle.stage_lock.specs.declared.known.Share.{Share}
use Rattle.stage_lock.specs.declared.known.Known.{Known}

-- the whole lock, the share of the first pass
abbrev pub whole_share : Share
whole_share = record { part = 1; halvings = 0 }

-- the share of a pass that was taken in by another
abbrev pub no_share : Share
no_share = record { part = 0; halvings = 0 }

abbrev pub half_of : Share → Share
half_of s = record { part = s.part; halvings = s.halvings + 1 }

abbrev pub sum_of : Share → Share → Share
sum_of s t = record { part = s.part * 2 ^ t.halvings + t.part * 2 ^ s.halvings; halvings = s.halvings + t.halvings }

abbrev pub IsWhole : Share → Type 0
IsWhole s = s.part ≡ 2 ^ s.halvings

-- how many of 2 ^ scale equal parts a share is, where it is so many
abbrev pub in_parts : ℕ → Share → ℕ
in_parts scale s = s.part * 2 ^ (scale - s.halvings)

-- and so all shares together
abbrev pub all_parts : {V X : Type 0} → ℕ → List (Known V X) → ℕ
all_parts scale [] = 0
all_parts scale (v ∷ vs) = in_parts scale v.share + all_parts scale vs
