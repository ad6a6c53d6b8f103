-- One token of a walk, and those behind it.
use Rattle.std.proofs.Common.{◌≡◌, ℕ, List, ◌∷◌, Result, Ok, sym, ap, ◌∙◌}
use Rattle.std.specs.Prelude.{Contains}
use Rattle.common_laws.proofs.Members.{contains_here, contains_later}
use Rattle.ix_base.specs.declared.fault.Fault.{Fault}
use Rattle.index_model.specs.declared.unit.Unit.{Unit as UnitHeader}
use Rattle.index_model.specs.Meaning.{◌>>=◌}
use Rattle.index_model.specs.Sections.{Section}
use Rattle.index_model.specs.Walk.{Item, Token, Null, Entry, Walk, items, with_token}
use Rattle.shard_build.specs.Kept.{Behind, behind, behind_all}
use Rattle.shard_build.specs.Tokens.{OnEntry}

module _ (P : Item → Type 0) where
  abbrev OnItems : Walk → Type 0
  OnItems w = (d : Item) → Contains (items w) d → P d

  -- what holds of all entries holds of the first token
  pub on_first : (t : Token) (old new : Walk) → old ≡ with_token t new → OnItems old → OnEntry t P
  on_first (Null depth after) old new is h = tt
  on_first (Entry e) old new is h = let all = rw is at h in all e (contains_here e (items new))

  -- and of the others
  pub on_others : (t : Token) (old new : Walk) → old ≡ with_token t new → OnItems old → OnItems new
  on_others (Null depth after) old new is h = rw is at h
  on_others (Entry e) old new is h = let all = rw is at h in λ d c. all d (contains_later e (items new) d c)

-- behind a token comes what is behind the others
pub one_more : (ss : List Section) (u : ℕ × UnitHeader) (b c : Behind) (t : Token) (old new : Walk) → old ≡ with_token t new → behind ss u b t ≡ Ok c → behind_all ss u c new.tokens ≡ behind_all ss u b old.tokens
one_more ss u b c t old new is step =
    let tokens : old.tokens ≡ t ∷ new.tokens = ap (λ (w : Walk). w.tokens) is in
    let go : Result Behind Fault → Result Behind Fault = λ (r : Result Behind Fault). r >>= λ (x : Behind). behind_all ss u x new.tokens in
    sym (ap (behind_all ss u b) tokens ∙ ap go step)
