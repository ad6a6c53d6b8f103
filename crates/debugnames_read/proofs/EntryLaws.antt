-- An entry by what was read of it.
use Rattle.std.proofs.Common.{◌≡◌, ℕ, List, Option, Some, None, option_map, refl, ap, sym, ◌∙◌}
use Rattle.std.specs.Prelude.{find, ◌==◌}
use Rattle.ix_base.specs.Moves.{Reads}
use Rattle.ix_base.specs.Reading.{Input, ◌>>=◌}
use Rattle.index_model.specs.NameAbbreviations.{Abbreviation, Attribute, values}
use Rattle.index_model.specs.NameIndexRead.{NameHit, entry_with, hit}
use Rattle.index_model.specs.NameTables.{Tables}
use Rattle.index_model.proofs.Meanings.{bind_some}
use Rattle.debugnames_read.specs.declared.entry.NameHit.{NameHit as ReadHit}
use Rattle.debugnames_read.specs.Entries.{hit_by, hit_seen}
use Rattle.debugnames_read.specs.Values.{Kept, first_values, kept_of}

same_some : {A : Type 0} (x y : A) → Some x ≡ Some y → x ≡ y
same_some x y e = cc

module _ (t : Tables) (abbrevs : List Abbreviation) (code : ℕ) (i j : Input) (a : Abbreviation) (kept : Kept) where
  abbrev kept_at : List Attribute × Input → Option (Kept × Input)
  kept_at vs = Some (kept_of vs.0, vs.1)

  abbrev hit_at : Input → Option NameHit → Option (NameHit × Input)
  hit_at k r = r >>= λ h. Some (h, k)

  same_hit : (tag : ℕ) (vs : List Attribute) → hit t tag vs ≡ hit_by t tag (kept_of vs)
  unfolding hit hit_by
  same_hit tag vs = refl

  module _ (found : Some a ≡ find (λ (x : Abbreviation). x.code == code) abbrevs) (read : first_values t.wide a.specs i ≡ Some (kept, j)) where
    entry_by : entry_with t abbrevs code i ≡ hit_at j (hit_by t a.tag kept)
    unfolding entry_with
    entry_by =
        let vs = bind_some (values t.wide a.specs i) kept_at (kept, j) read in
        let pair = same_some (kept_of vs.0.0, vs.0.1) (kept, j) vs.2 in
        let is : kept_of vs.0.0 ≡ kept = ap (λ (p : Kept × Input). p.0) pair in
        let place : vs.0.1 ≡ j = ap (λ (p : Kept × Input). p.1) pair in
        rw (← found, vs.1, same_hit a.tag vs.0.0, is, place) refl

    pub reads_hit : (r : Option ReadHit) → option_map hit_seen r ≡ hit_by t a.tag kept → Reads hit_seen (entry_with t abbrevs code) i j r
    reads_hit None e = entry_by ∙ ap (hit_at j) (sym e)
    reads_hit (Some h) e = entry_by ∙ ap (hit_at j) (sym e)
