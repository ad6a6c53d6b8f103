-- The values of an entry are read one after the other.
use Rattle.std.proofs.Common.{◌≡◌, ◌+◌, ◌<◌, ◌≤◌, ℕ, Bool, List, ◌∷◌, length, drop, get_or, Ok, Err, refl, add-one}
use Rattle.std.proofs.Math.Seq.{drop-cons}
use Rattle.std.proofs.lemmas.List.{drop_all}
use Rattle.ix_base.specs.Reading.{Input}
use Rattle.index_model.specs.Forms.{Value}
use Rattle.index_model.specs.Sections.{Section}
use Rattle.reach_model.specs.declared.line_table.Format.{Format}
use Rattle.reach_model.specs.LineTables.{FileEntry, new_entry, value_in, with_content}

module _ (ss : List Section) (wide : Bool) (fs : List Format) (k : ℕ) (d : Format) (lt : k < length fs) (e : FileEntry) (i : Input) where
  -- the formats that are left
  left : drop k fs ≡ get_or fs k d ∷ drop (k + 1) fs
  left = rw (add-one, drop-cons fs k d) refl

  pub value_cut : (code : ℕ) → value_in wide (get_or fs k d).form i ≡ Err code → new_entry ss wide (drop k fs) e i ≡ Err code
  unfolding new_entry
  value_cut code cut = rw (left, cut) refl

  pub value_wrong : (v : Value) (next : Input) (code : ℕ) → value_in wide (get_or fs k d).form i ≡ Ok (v, next) → with_content ss (get_or fs k d).content v e ≡ Err code →
      new_entry ss wide (drop k fs) e i ≡ Err code
  unfolding new_entry
  value_wrong v next code read wrong = rw (left, read, wrong) refl

  pub value_more : (v : Value) (next : Input) (more : FileEntry) → value_in wide (get_or fs k d).form i ≡ Ok (v, next) → with_content ss (get_or fs k d).content v e ≡ Ok more →
      new_entry ss wide (drop k fs) e i ≡ new_entry ss wide (drop (k + 1) fs) more next
  unfolding new_entry
  value_more v next more read has = rw (left, read, has) refl

-- behind all formats
pub all_values : (ss : List Section) (wide : Bool) (fs : List Format) (k : ℕ) (e : FileEntry) (i : Input) → length fs ≤ k → new_entry ss wide (drop k fs) e i ≡ Ok (e, i)
unfolding new_entry
all_values ss wide fs k e i le = rw (drop_all k fs le) refl
