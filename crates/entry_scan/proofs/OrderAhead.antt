-- What is ahead of a walk stands behind what it gave.
use Rattle.std.proofs.Common.{◌≡◌, ℕ, ◌<◌, ◌≤◌, false, eqb, List, [], ◌∷◌, length, Option, Some, None, Ok, refl, arith}
use Rattle.std.specs.Prelude.{Contains, find, ◌==◌}
use Rattle.ix_base.specs.declared.fault.Fault.{Fault}
use Rattle.std.proofs.lemmas.Bool.{ne_eqb}
use Rattle.common_laws.proofs.Members.{contains_here, contains_later}
use Rattle.ix_base.specs.Reading.{Input}
use Rattle.index_model.specs.declared.unit.Unit.{Unit as UnitHeader}
use Rattle.index_model.specs.Abbreviations.{Abbrev}
use Rattle.index_model.specs.Walk.{Item, Token, Null, Entry, Levels, Walk, token_or_fault}
use Rattle.index_model.specs.WalkLeft.{left}
use Rattle.entry_scan.specs.Ahead.{StandsBehind, place_behind, unless_stopped}
use Rattle.index_model.proofs.TokenReads.{IsToken, read_is, left_follow}
use Rattle.index_model.proofs.OrderLaws.{bounded}

-- a token ends where the bytes behind it begin
ends_at : (open_ : Levels) (i next : Input) (t : Token) → IsToken open_ i next t → place_behind t ≡ next.at
ends_at open_ i next (Null depth after) h = h.says.2
ends_at open_ i next (Entry d) h = h.says.2

module _ (u : UnitHeader) (table : List Abbrev) where
  -- what is left behind a token stands behind it
  pub left_behind : (open_ l : Levels) (i : Input) (t : Token × Input) → token_or_fault u table open_ i ≡ Ok t → StandsBehind (place_behind t.0) (left (token_or_fault u table) l t.1)
  left_behind open_ l i t is d c =
      let b = bounded l t.1 (left (token_or_fault u table) l t.1).tokens (left_follow u table (length t.1.rest) l t.1) d c in
      omega (arith, b.0, ends_at open_ i t.1 t.0 (read_is u table open_ i t is))

-- the same behind a fault, where nothing is
pub still_behind : (f : Option Fault) (w : Walk) (place : ℕ) → StandsBehind place w → StandsBehind place (unless_stopped f w)
still_behind None w place h d c = h d c
still_behind (Some f) w place h d c = absurd (omega (arith, c.1))

-- what is looked for isn't among entries that stand behind it
pub none_behind : (o place : ℕ) (ds : List Item) → ((d : Item) → Contains ds d → place ≤ d.at) → o < place → find (λ d. d.at == o) ds ≡ None
none_behind o place [] h lt = refl
none_behind o place (d ∷ ds) h lt =
    let off : eqb d.at o ≡ false = ne_eqb d.at o (λ (same : d.at ≡ o). omega (arith, h d (contains_here d ds), lt, same)) in
    rw off (none_behind o place ds (λ x c. h x (contains_later d ds x c)) lt)

pub none_here : (o : ℕ) (d : Item) (ds : List Item) → (d.at ≡ o → ⊥) → ((x : Item) → Contains ds x → d.after ≤ x.at) → o < d.after → find (λ x. x.at == o) (d ∷ ds) ≡ None
none_here o d ds other h lt = rw (ne_eqb d.at o other) (none_behind o d.after ds h lt)
