-- The bytes of the names, once sections are added.
use Rattle.std.proofs.Common.{◌≡◌, ℕ, ◌+◌, ◌<◌, ◌^◌, Bool, true, false, cond, eqb, List, [], ◌++◌, length, drop, unwrap_or, refl, sym, ap, ◌∙◌, arith}
use Rattle.std.proofs.lemmas.Bool.{eq-eqb, ne_eqb}
use Rattle.index_model.specs.Sections.{Section, content, header_at, names, names_index}
use Rattle.reach_model.specs.Added.{Addition, added, is_at, more_strings, names_start, new_names, shares, strings_index}
use Rattle.reach_model.specs.AddedSections.{IsClearOfTheHeader, more_at}
use Rattle.reach_model.proofs.Accepted.{Accepted}
use Rattle.added_alike.proofs.Bytes.{drop_behind}
use Rattle.added_alike.proofs.Fields.{names_index_added}
use Rattle.added_alike.proofs.Grown.{names_grown}
use Rattle.reach_model.proofs.Kept.{names_are, names_are_somewhere}

module _ (file : List ℕ) (sections : List Section) (addition : Addition) where
  abbrev text : List ℕ
  text = unwrap_or addition.strings []

  abbrev fresh : List ℕ
  fresh = new_names file sections addition

  -- the names stand behind what else is new in their section
  more_by : (b : Bool) → is_at (names_index file) (strings_index file sections addition) ≡ b → more_at file sections addition (names_index file) ≡ cond b text [] ++ fresh
  unfolding more_at more_strings
  more_by true e = rw e refl
  more_by false e = rw (e, eq-eqb (names_index file) (names_index file) refl) refl

  size_by : (b : Bool) → length (cond b text []) ≡ cond b (length text) 0
  size_by true = refl
  size_by false = refl

  abbrev front : List ℕ
  front = cond (shares file sections addition) text []

  start_is : names_start file sections addition ≡ length (names file) + length front
  unfolding names_start
  start_is = ap (λ (n : ℕ). length (names file) + n) (sym (size_by (shares file sections addition)))

  module _ (ok : Accepted file sections) (fit : length (added file sections addition) < 2 ^ 64) (clear : IsClearOfTheHeader file) (small : names_index file < 2 ^ 32) where
    abbrev then_ : List ℕ
    then_ = added file sections addition

    at_index : (f : List ℕ) (i : ℕ) → names_index f ≡ i → (i ≡ 0 → ⊥) → names f ≡ content f (header_at f i)
    at_index f i is some = ap (λ (k : ℕ). cond (eqb k 0) [] (content f (header_at f k))) is ∙ ap (λ (b : Bool). cond b [] (content f (header_at f i))) (ne_eqb i 0 some)

    -- the names have more behind them
    pub names_then : names then_ ≡ names file ++ more_at file sections addition (names_index file)
    names_then =
        at_index then_ (names_index file) (names_index_added file sections addition ok fit small) (names_are_somewhere file sections ok)
        ∙ (names_grown file sections addition ok fit clear).content
        ∙ ap (λ (w : List ℕ). w ++ more_at file sections addition (names_index file)) (sym (names_are file sections ok))

    -- the names of the added sections stand where they begin
    pub new_names_there : drop (names_start file sections addition) (names then_) ≡ fresh
    new_names_there =
        ap (drop (names_start file sections addition)) (names_then ∙ ap (λ (w : List ℕ). names file ++ w) (more_by (shares file sections addition) refl))
        ∙ drop_behind (names_start file sections addition) (length front) (names file) (front ++ fresh) (sym start_is)
        ∙ drop_behind (length front) 0 front fresh (omega arith)
