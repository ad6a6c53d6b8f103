-- Abbreviation tables are read as before where more bytes follow.
use Rattle.std.proofs.Common.{◌≡◌, ℕ, zero, suc, ◌≤◌, pos, Bool, true, false, cond, not, leb, eqb, List, [], ◌∷◌, ◌++◌, length, drop, None, refl, ap, ◌∙◌, arith, length-append}
use Rattle.std.proofs.lemmas.Bool.{leb-true, le-leb}
use Rattle.std.proofs.lemmas.List.{drop-append-le}
use Rattle.ix_base.specs.Reading.{Input, number, uleb, sleb}
use Rattle.index_model.specs.Abbreviations.{Abbrev, spec_at, is_end, specs_at, abbrev_with, abbrevs_at, table}
use Rattle.grown_alike.proofs.Kept.{SomeStays, none_stays, some_stays, either_stays, some_then}
use Rattle.grown_alike.proofs.Behind.{grown, onwards, number_stays}
use Rattle.grown_alike.proofs.Lebs.{uleb_stays, sleb_stays}

module _ (more : List ℕ) where
  -- an attribute
  spec_stays : (i : Input) → SomeStays (onwards more) (spec_at i) (spec_at (grown more i))
  unfolding spec_at
  spec_stays i =
      some_then (onwards more) (onwards more) (uleb i) (uleb (grown more i)) _ _ (uleb_stays more i) (λ attribute _.
      some_then (onwards more) (onwards more) (uleb attribute.1) (uleb (grown more attribute.1)) _ _ (uleb_stays more attribute.1) (λ form _.
      either_stays (onwards more) (eqb form.0 0x21) _ _ _ _
      (some_then (onwards more) (onwards more) (sleb form.1) (sleb (grown more form.1)) _ _ (sleb_stays more form.1) (λ c _.
      some_stays (onwards more) (record { attribute = attribute.0; form = form.0; constant = c.0 }, c.1)))
      (some_stays (onwards more) (record { attribute = attribute.0; form = form.0; constant = pos 0 }, form.1))))

  -- the attributes of an abbreviation, with as much room for them or more
  specs_stay : (n k : ℕ) → n ≤ k → (i : Input) → SomeStays (onwards more) (specs_at n i) (specs_at k (grown more i))
  unfolding specs_at
  specs_stay zero k le i = none_stays (onwards more) (specs_at k (grown more i))
  specs_stay (suc n) zero le i = absurd (omega (arith, le))
  specs_stay (suc n) (suc k) le i =
      some_then (onwards more) (onwards more) (spec_at i) (spec_at (grown more i)) _ _ (spec_stays i) (λ first _.
      either_stays (onwards more) (is_end first.0) _ _ _ _
      (some_stays (onwards more) ([], first.1))
      (some_then (onwards more) (onwards more) (specs_at n first.1) (specs_at k (grown more first.1)) _ _ (specs_stay n k (omega (arith, le)) first.1) (λ others _.
      some_stays (onwards more) (first.0 ∷ others.0, others.1))))

  -- there is more room where more bytes follow
  room : (bytes : List ℕ) → length bytes ≤ length (bytes ++ more)
  room bytes = omega (arith, length-append bytes more)

  -- an abbreviation
  abbrev_stays : (code : ℕ) (i : Input) → SomeStays (onwards more) (abbrev_with code i) (abbrev_with code (grown more i))
  unfolding abbrev_with
  abbrev_stays code i =
      some_then (onwards more) (onwards more) (uleb i) (uleb (grown more i)) _ _ (uleb_stays more i) (λ tag _.
      some_then (onwards more) (onwards more) (number 1 tag.1) (number 1 (grown more tag.1)) _ _ (number_stays 1 more tag.1) (λ children _.
      some_then (onwards more) (onwards more) (specs_at (length children.1.rest) children.1) (specs_at (length (children.1.rest ++ more)) (grown more children.1)) _ _ (specs_stay (length children.1.rest) (length (children.1.rest ++ more)) (room children.1.rest) children.1) (λ specs _.
      some_stays (onwards more) (record { code = code; tag = tag.0; children = not (eqb children.0 0); specs = specs.0 }, specs.1))))

  -- all abbreviations of a table, up to its end
  abbrevs_stay : (n k : ℕ) → n ≤ k → (i : Input) → SomeStays (λ (t : List Abbrev). t) (abbrevs_at n i) (abbrevs_at k (grown more i))
  unfolding abbrevs_at
  abbrevs_stay zero k le i = none_stays (λ (t : List Abbrev). t) (abbrevs_at k (grown more i))
  abbrevs_stay (suc n) zero le i = absurd (omega (arith, le))
  abbrevs_stay (suc n) (suc k) le i =
      some_then (onwards more) (λ (t : List Abbrev). t) (uleb i) (uleb (grown more i)) _ _ (uleb_stays more i) (λ code _.
      either_stays (λ (t : List Abbrev). t) (eqb code.0 0) _ _ _ _
      (some_stays (λ (t : List Abbrev). t) [])
      (some_then (onwards more) (λ (t : List Abbrev). t) (abbrev_with code.0 code.1) (abbrev_with code.0 (grown more code.1)) _ _ (abbrev_stays code.0 code.1) (λ first _.
      some_then (λ (t : List Abbrev). t) (λ (t : List Abbrev). t) (abbrevs_at n first.1) (abbrevs_at k (grown more first.1)) _ _ (abbrevs_stay n k (omega (arith, le)) first.1) (λ others _.
      some_stays (λ (t : List Abbrev). t) (first.0 ∷ others)))))

  -- the table at a place of a section that grows
  pub table_stays : (bytes : List ℕ) (place : ℕ) → SomeStays (λ (t : List Abbrev). t) (table bytes place) (table (bytes ++ more) place)
  table_stays bytes place = by (leb place (length bytes)) refl
    where
      by : (b : Bool) → leb place (length bytes) ≡ b → SomeStays (λ (t : List Abbrev). t) (cond b (abbrevs_at (length bytes) (record { at = place; rest = drop place bytes })) None) (table (bytes ++ more) place)
      by false e = none_stays (λ (t : List Abbrev). t) (table (bytes ++ more) place)
      by true e =
          let le = leb-true place (length bytes) e in
          let there : leb place (length (bytes ++ more)) ≡ true = le-leb place (length (bytes ++ more)) (omega (arith, le, room bytes)) in
          record { on = λ t is. rw there (ap (λ (rest : List ℕ). abbrevs_at (length (bytes ++ more)) (record { at = place; rest = rest })) (drop-append-le place bytes more le) ∙ (abbrevs_stay (length bytes) (length (bytes ++ more)) (room bytes) (record { at = place; rest = drop place bytes })).on t is) }
