-- The files of a table are given one after the other.
use Rattle.std.proofs.Common.{◌≡◌, ◌+◌, ◌-◌, ℕ, suc, Bool, true, false, nat_lt, List, [], ◌∷◌, Option, Some, None, Result, Ok, Err, refl, arith}
use Rattle.std.proofs.lemmas.Bool.{ltb-false, ltb-true}
use Rattle.ix_base.specs.Reading.{Input}
use Rattle.index_model.specs.Meaning.{◌>>=◌, at_place}
use Rattle.index_model.specs.Sections.{Section}
use Rattle.reach_model.specs.LineTables.{FileEntry, FileName, before, file_at, new_entry, one_more, so_many, up_to_end}
use Rattle.line_files.specs.declared.files.FileTableKind.{FileTableKind}
use Rattle.line_files.specs.declared.files.FileTableKind.TheVariants.{UpToEnd, ByFormats}
use Rattle.line_files.specs.Ahead.{entries_left, entry_by, some_entry, with_numbers}

-- the first of the files is that of the first entry
first_file : (k : ℕ) (e : FileEntry) (r : Result (List FileEntry × Input) ℕ) → with_numbers k (before e r) ≡ (with_numbers (k + 1) r >>= λ fs. Ok (file_at (k, e) ∷ fs))
first_file k e (Ok x) = refl
first_file k e (Err code) = refl

-- the place of a fault goes through the first file
pub at_place-cons : (p : ℕ) (f : FileName) (r : Result (List FileName) ℕ) → at_place p (r >>= λ fs. Ok (f ∷ fs)) ≡ (at_place p r >>= λ fs. Ok (f ∷ fs))
at_place-cons p f (Ok fs) = refl
at_place-cons p f (Err code) = refl

-- an entry and those behind it, or the end
abbrev step : Result (Option FileEntry × Input) ℕ → (Input → Result (List FileEntry × Input) ℕ) → Result (List FileEntry × Input) ℕ
step r later = r >>= λ x. one_more x later

module _ (ss : List Section) (wide : Bool) where
  -- where one more may come
  one_left : (kind : FileTableKind) (n : ℕ) (i : Input) → entries_left kind ss wide (suc n) i ≡ step (entry_by kind ss wide true i) (entries_left kind ss wide n)
  unfolding up_to_end so_many
  one_left UpToEnd n i = refl
  one_left (ByFormats fs) n i = by (new_entry ss wide fs.items (record { name = []; dir = 0 }) i)
    where
      by : (r : Result (FileEntry × Input) ℕ) → (r >>= λ x. before x.0 (entries_left (ByFormats fs) ss wide n x.1)) ≡ step (some_entry r) (entries_left (ByFormats fs) ss wide n)
      by (Ok x) = refl
      by (Err code) = refl

  -- where none may come
  none_left : (kind : FileTableKind) (i : Input) (later : Input → Result (List FileEntry × Input) ℕ) → entries_left kind ss wide 0 i ≡ step (entry_by kind ss wide false i) later
  unfolding up_to_end so_many
  none_left UpToEnd i later = refl
  none_left (ByFormats fs) i later = refl

  -- what is left by the next entry
  left_by : (kind : FileTableKind) (next end : ℕ) (i : Input) → entries_left kind ss wide (end - next) i ≡ step (entry_by kind ss wide (nat_lt next end) i) (entries_left kind ss wide (end - (next + 1)))
  left_by kind next end i = by (nat_lt next end) refl
    where
      by : (b : Bool) → nat_lt next end ≡ b → entries_left kind ss wide (end - next) i ≡ step (entry_by kind ss wide b i) (entries_left kind ss wide (end - (next + 1)))
      by true is =
          let lt = ltb-true next end is in
          let more : end - next ≡ suc (end - (next + 1)) = omega arith in
          rw more (one_left kind (end - (next + 1)) i)
      by false is =
          let le = ltb-false next end is in
          let out : end - next ≡ 0 = omega arith in
          rw out (none_left kind i (entries_left kind ss wide (end - (next + 1))))

  module _ (kind : FileTableKind) (next end : ℕ) (i : Input) where
    -- the next entry is wrong
    pub left_stops : (code : ℕ) → entry_by kind ss wide (nat_lt next end) i ≡ Err code → with_numbers next (entries_left kind ss wide (end - next) i) ≡ Err code
    left_stops code e = rw (left_by kind next end i, e) refl

    -- there is none
    pub left_ends : (rest : Input) → entry_by kind ss wide (nat_lt next end) i ≡ Ok (None, rest) → with_numbers next (entries_left kind ss wide (end - next) i) ≡ Ok []
    left_ends rest e = rw (left_by kind next end i, e) refl

    -- the next file, and those behind it
    pub left_goes_on : (entry : FileEntry) (rest : Input) → entry_by kind ss wide (nat_lt next end) i ≡ Ok (Some entry, rest) →
        with_numbers next (entries_left kind ss wide (end - next) i) ≡ (with_numbers (next + 1) (entries_left kind ss wide (end - (next + 1)) rest) >>= λ fs. Ok (file_at (next, entry) ∷ fs))
    left_goes_on entry rest e = rw (left_by kind next end i, e) (first_file next entry (entries_left kind ss wide (end - (next + 1)) rest))
