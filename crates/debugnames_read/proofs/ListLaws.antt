-- The lists that were checked.
use Rattle.std.proofs.Common.{◌≡◌, ◌⊎◌, inl, inr, ℕ, suc, ◌+◌, ◌-◌, ◌<◌, ◌≤◌, Bool, true, false, cond, leb, List, length, length-drop, Some, None, Result, Ok, Err, refl, arith, ap, sym, subst, ◌∙◌}
use Rattle.std.proofs.lemmas.Bool.{leb-true}
use Rattle.std.specs.Prelude.{IsOk, is_ok}
use Rattle.ix_base.specs.declared.fault.Fault.{Fault}
use Rattle.ix_base.specs.Moves.{MovesOn}
use Rattle.ix_base.specs.Reading.{Input, past, ◌>>=◌ as ◌>>=?◌}
use Rattle.index_model.specs.Layout.{nth}
use Rattle.index_model.specs.Meaning.{wrong_in}
use Rattle.index_model.specs.NameAbbreviations.{Abbreviation}
use Rattle.index_model.specs.NameIndexRead.{NameHit, entries_at}
use Rattle.index_model.specs.NameTables.{Tables}
use Rattle.debugnames_read.specs.declared.checked.Checked.{Checked}
use Rattle.debugnames_read.specs.Abbreviations.{abbreviations_in}
use Rattle.debugnames_read.specs.Checked.{is_checked}
use Rattle.debugnames_read.specs.Entries.{entry_at}
use Rattle.debugnames_read.specs.Lists.{list_from, AreSound, IsIn}
use Rattle.debugnames_read.specs.Names.{list_at}
use Rattle.debugnames_read.proofs.Fuel.{past_past, same_entries}
use Rattle.debugnames_read.proofs.LeftLaws.{entry_passes, entry_takes}
use Rattle.debugnames_read.proofs.Readings.{entries_back, entries_end}

pub none_wrong : {A : Type 0} (r : Result A Fault) → IsOk r → wrong_in r ≡ None
none_wrong (Ok x) e = refl
none_wrong (Err d) e = absurd cc

module _ (t : Tables) where
  abbrev abbrevs : List Abbreviation
  abbrevs = abbreviations_in t.abbreviations

  abbrev bytes : ℕ
  bytes = length t.pool.rest

  -- each place that was checked has no fault from there on, where it isn't passed yet or the rest of the list that is read has none
  abbrev pub IsSoundBehind : Checked → Input → Type 0
  IsSoundBehind c i = (k : ℕ) → is_checked c k ≡ true → (i.at ≤ t.pool.at + k → IsOk (list_from t (past k t.pool))) × (IsOk (list_from t i) → IsOk (list_from t (past k t.pool)))

  -- no place but this one was added
  abbrev pub Adds : Checked → Checked → ℕ → Type 0
  Adds old new place = (k : ℕ) → is_checked new k ≡ true → (k ≡ place) ⊎ (is_checked old k ≡ true)

  pub at_first : (c : Checked) (i : Input) → AreSound t c → IsSoundBehind c i
  at_first c i sound k e = (λ le. sound k e, λ ok. sound k e)

  pub at_last : (c : Checked) (i : Input) → IsSoundBehind c i → IsOk (list_from t i) → AreSound t c
  at_last c i behind ok k e = (behind k e).1 ok

  -- the entries of a name begin in the pool
  pub list_inside : (k : ℕ) (i : Input) → list_at t k ≡ Some i → IsIn t.pool i
  list_inside k i e = by (leb from bytes) refl e
    where
      from : ℕ
      from = nth t.entries.numbers k

      by : (b : Bool) → leb from bytes ≡ b → (cond b (Some (record {}, past from t.pool)) None >>=? λ (x : record {} × Input). Some x.1) ≡ Some i → IsIn t.pool i
      by true le x = let same : past from t.pool ≡ i = cc in record { passed = from; within = leb-true from bytes le; is = sym same }
      by false le x = absurd cc

  module _ (i : Input) (inside : IsIn t.pool i) where
    place_at : i.at ≡ t.pool.at + inside.passed
    place_at = ap (λ (j : Input). j.at) inside.is

    pub not_before : t.pool.at ≤ i.at
    not_before = omega (arith, place_at)

    left : length i.rest ≡ bytes - inside.passed
    left = ap (λ (j : Input). length j.rest) inside.is ∙ length-drop inside.passed t.pool.rest

    one_more : bytes + 1 ≡ suc bytes
    one_more = omega arith

    from_suc : list_from t i ≡ entries_at t abbrevs (suc bytes) i
    from_suc = ap (λ (n : ℕ). entries_at t abbrevs n i) one_more

    -- however many entries are allowed, where that is more than the bytes that are left
    pub same_list : (most : ℕ) → length i.rest < most → entries_at t abbrevs most i ≡ list_from t i
    same_list most lt = same_entries t abbrevs most (bytes + 1) i lt (omega (arith, left))

    pub ended : entry_at t abbrevs i ≡ Ok None → IsOk (list_from t i)
    ended e = ap is_ok (from_suc ∙ entries_end t abbrevs bytes i e)

    module _ (place : ℕ) (at : place ≡ i.at - t.pool.at) where
      passed_is : inside.passed ≡ place
      passed_is = omega (arith, at, place_at)

      here : past place t.pool ≡ i
      here = ap (λ (n : ℕ). past n t.pool) (sym passed_is) ∙ sym inside.is

      pub was_checked : (c : Checked) → IsSoundBehind c i → is_checked c place ≡ true → IsOk (list_from t i)
      was_checked c behind e = subst (λ (j : Input). IsOk (list_from t j)) here ((behind place e).0 (omega (arith, at, not_before)))

      module _ (old new : Checked) (adds : Adds old new place) (behind : IsSoundBehind old i) where
        pub sound_if : IsOk (list_from t i) → AreSound t new
        sound_if ok k e = by (adds k e)
          where
            by : (k ≡ place) ⊎ (is_checked old k ≡ true) → IsOk (list_from t (past k t.pool))
            by (inl is) = subst (λ (j : Input). IsOk (list_from t j)) (sym (ap (λ (n : ℕ). past n t.pool) is ∙ here)) ok
            by (inr was) = (behind k was).1 ok

        -- one entry on
        module _ (h : NameHit) (j : Input) (read : entry_at t abbrevs i ≡ Ok (Some (h, j))) (moves : MovesOn i j) where
          less : length j.rest < length i.rest
          less = entry_takes t i j h read

          on : (n : ℕ) × (j ≡ past n i)
          on = entry_passes t i j h read

          on_at : j.at ≡ i.at + on.0
          on_at = ap (λ (k : Input). k.at) on.1

          on_left : length j.rest ≡ length i.rest - on.0
          on_left = ap (λ (k : Input). length k.rest) on.1 ∙ length-drop on.0 i.rest

          pub next_inside : IsIn t.pool j
          next_inside = record {
            passed = inside.passed + on.0;
            within = omega (arith, moves.end, on_at, on_left, left, inside.within);
            is = on.1 ∙ ap (past on.0) inside.is ∙ past_past inside.passed on.0 t.pool;
          }

          back : IsOk (list_from t j) → IsOk (list_from t i)
          back ok =
              let few : IsOk (entries_at t abbrevs bytes j) = ap is_ok (same_entries t abbrevs bytes (bytes + 1) j (omega (arith, less, left)) (omega (arith, less, left))) ∙ ok in
              ap is_ok from_suc ∙ entries_back t abbrevs bytes i h j read few

          pub next_sound : IsSoundBehind new j
          next_sound k e = (by (adds k e), λ ok. sound_if (back ok) k e)
            where
              by : (k ≡ place) ⊎ (is_checked old k ≡ true) → j.at ≤ t.pool.at + k → IsOk (list_from t (past k t.pool))
              by (inl is) le = absurd (omega (arith, is, le, at, on_at, on_left, less, not_before))
              by (inr was) le = (behind k was).0 (omega (arith, le, on_at))
