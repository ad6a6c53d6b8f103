-- The entries that are left of a list.
use Rattle.std.proofs.Common.{◌≡◌, ℕ, suc, ◌+◌, ◌<◌, ◌≤◌, Bool, true, false, cond, eqb, List, [], ◌∷◌, length, Option, Some, None, Result, Ok, Err, refl, arith, ap, sym, subst, ◌∙◌}
use Rattle.std.specs.Prelude.{IsOk, is_ok}
use Rattle.ix_base.specs.declared.fault.Fault.{Fault}
use Rattle.ix_base.specs.Reading.{Input, past, uleb}
use Rattle.index_model.specs.declared.index_code.TheConstants.{NAMES_ENTRY_POOL}
use Rattle.index_model.specs.Meaning.{◌>>=◌, fault, some_or}
use Rattle.index_model.specs.NameAbbreviations.{Abbreviation}
use Rattle.index_model.specs.NameIndexRead.{NameHit, entries_at, entry_with}
use Rattle.index_model.specs.NameTables.{Tables}
use Rattle.debugnames_read.specs.Abbreviations.{abbreviations_in}
use Rattle.debugnames_read.specs.Entries.{entry_at}
use Rattle.debugnames_read.specs.Hits.{entries_left, IsList}
use Rattle.debugnames_read.specs.Results.{list_in}
use Rattle.debugnames_read.proofs.Fuel.{entry_on, entry_shrinks, same_entries, uleb_takes}
use Rattle.debugnames_read.proofs.Readings.{entries_end, entries_list, entries_ok, entries_wrong}

module _ (t : Tables) where
  abbrev abbrevs : List Abbreviation
  abbrevs = abbreviations_in t.abbreviations

  abbrev of_entry : Fault → Option (NameHit × Input) → Result (Option (NameHit × Input)) Fault
  of_entry wrong r = some_or r wrong >>= λ first. Ok (Some first)

  abbrev of_code : Fault → Bool → Result (Option (NameHit × Input)) Fault → Result (Option (NameHit × Input)) Fault
  of_code wrong b r = cond b (Ok None) r

  abbrev read_to : NameHit → Input → Result (Option (NameHit × Input)) Fault
  read_to h j = Ok (Some (h, j))

  same_pair : (x : NameHit × Input) (h : NameHit) (j : Input) → read_to x.0 x.1 ≡ read_to h j → x.1 ≡ j
  same_pair x h j e = let some : (x.0, x.1) ≡ (h, j) = cc in ap (λ (p : NameHit × Input). p.1) some

  -- an entry takes a byte
  pub entry_takes : (i j : Input) (h : NameHit) → entry_at t abbrevs i ≡ read_to h j → length j.rest < length i.rest
  unfolding entry_at
  entry_takes i j h e = by (uleb i) refl e
    where
      by_entry : (k : Input) (r : Option (NameHit × Input)) → length k.rest < length i.rest → ((m : Input) (x : NameHit) → r ≡ Some (x, m) → length m.rest ≤ length k.rest) → of_entry (fault NAMES_ENTRY_POOL i.at) r ≡ read_to h j → length j.rest < length i.rest
      by_entry k None lt shrinks e = absurd cc
      by_entry k (Some x) lt shrinks e = omega (arith, lt, shrinks x.1 x.0 refl, ap (λ (m : Input). length m.rest) (same_pair x h j e))

      by_code : (b : Bool) (code : ℕ) (k : Input) → uleb i ≡ Some (code, k) → of_code (fault NAMES_ENTRY_POOL i.at) b (of_entry (fault NAMES_ENTRY_POOL i.at) (entry_with t abbrevs code k)) ≡ read_to h j → length j.rest < length i.rest
      by_code true code k u e = absurd cc
      by_code false code k u e = by_entry k (entry_with t abbrevs code k) (uleb_takes i k code u) (entry_shrinks t abbrevs code k) e

      by : (r : Option (ℕ × Input)) → uleb i ≡ r → (some_or r (fault NAMES_ENTRY_POOL i.at) >>= λ code. of_code (fault NAMES_ENTRY_POOL i.at) (eqb code.0 0) (of_entry (fault NAMES_ENTRY_POOL i.at) (entry_with t abbrevs code.0 code.1))) ≡ read_to h j → length j.rest < length i.rest
      by None u e = absurd cc
      by (Some code) u e = by_code (eqb code.0 0) code.0 code.1 u e

  -- an entry passes bytes
  pub entry_passes : (i j : Input) (h : NameHit) → entry_at t abbrevs i ≡ read_to h j → (n : ℕ) × (j ≡ past n i)
  unfolding entry_at
  entry_passes i j h e = by (uleb i) refl e
    where
      by_entry : (r : Option (NameHit × Input)) → ((m : Input) (x : NameHit) → r ≡ Some (x, m) → (n : ℕ) × (m ≡ past n i)) → of_entry (fault NAMES_ENTRY_POOL i.at) r ≡ read_to h j → (n : ℕ) × (j ≡ past n i)
      by_entry None passes e = absurd cc
      by_entry (Some x) passes e =
          let p = passes x.1 x.0 refl in
          (p.0, sym (same_pair x h j e) ∙ p.1)

      by_code : (b : Bool) (code : ℕ) (k : Input) → uleb i ≡ Some (code, k) → of_code (fault NAMES_ENTRY_POOL i.at) b (of_entry (fault NAMES_ENTRY_POOL i.at) (entry_with t abbrevs code k)) ≡ read_to h j → (n : ℕ) × (j ≡ past n i)
      by_code true code k u e = absurd cc
      by_code false code k u e = by_entry (entry_with t abbrevs code k) (λ m x is. entry_on t abbrevs code i k m x u is) e

      by : (r : Option (ℕ × Input)) → uleb i ≡ r → (some_or r (fault NAMES_ENTRY_POOL i.at) >>= λ code. of_code (fault NAMES_ENTRY_POOL i.at) (eqb code.0 0) (of_entry (fault NAMES_ENTRY_POOL i.at) (entry_with t abbrevs code.0 code.1))) ≡ read_to h j → (n : ℕ) × (j ≡ past n i)
      by None u e = absurd cc
      by (Some code) u e = by_code (eqb code.0 0) code.0 code.1 u e

  abbrev all_at : ℕ → Input → Result (List NameHit) Fault
  all_at most i = entries_at t abbrevs most i

  one_more : (i : Input) → length i.rest + 1 ≡ suc (length i.rest)
  one_more i = omega arith

  at_suc : (i : Input) → all_at (length i.rest + 1) i ≡ all_at (suc (length i.rest)) i
  at_suc i = ap (λ (n : ℕ). all_at n i) (one_more i)

  pub record Next (o : Option Input) (h : NameHit) (j : Input) : Type 0 where
    pub list : entries_left t o ≡ h ∷ entries_left t (Some j)
    pub ok : IsList t (Some j)

  pub next_one : (o : Option Input) (i j : Input) (h : NameHit) → o ≡ Some i → IsList t o → entry_at t abbrevs i ≡ read_to h j → Next o h j
  next_one o i j h e ok read =
      let right : IsOk (all_at (suc (length i.rest)) i) = ap is_ok (sym (at_suc i)) ∙ subst (IsList t) e ok in
      let less = entry_takes i j h read in
      let same : all_at (length j.rest + 1) j ≡ all_at (length i.rest) j = same_entries t abbrevs (length j.rest + 1) (length i.rest) j (omega arith) less in
      record {
        list = ap (entries_left t) e ∙ ap list_in (at_suc i) ∙ entries_list t abbrevs (length i.rest) i h j read right ∙ ap (λ (r : Result (List NameHit) Fault). h ∷ list_in r) (sym same);
        ok = ap is_ok same ∙ entries_ok t abbrevs (length i.rest) i h j read right;
      }

  pub next_end : (o : Option Input) (i : Input) → o ≡ Some i → entry_at t abbrevs i ≡ Ok None → entries_left t o ≡ []
  next_end o i e end = ap (entries_left t) e ∙ ap list_in (at_suc i) ∙ ap list_in (entries_end t abbrevs (length i.rest) i end)

  pub next_wrong : (o : Option Input) (i : Input) (d : Fault) → o ≡ Some i → IsList t o → entry_at t abbrevs i ≡ Err d → ⊥
  next_wrong o i d e ok wrong =
      let right : IsOk (all_at (suc (length i.rest)) i) = ap is_ok (sym (at_suc i)) ∙ subst (IsList t) e ok in
      clash (ap is_ok (sym (entries_wrong t abbrevs (length i.rest) i d wrong)) ∙ right)
    where
      clash : false ≡ true → ⊥
      clash x = cc
