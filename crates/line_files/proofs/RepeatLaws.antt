-- The files of a table that was read before are added once more.
use Rattle.std.proofs.Common.{◌≡◌, ◌+◌, ◌-◌, ◌<◌, ◌≤◌, ℕ, List, [], ◌∷◌, ◌++◌, length, map, take, drop, filter, get_or, Result, Ok, Err, refl, sym, ap, ◌∙◌, arith, append_assoc, length-append, length-drop}
use Rattle.std.proofs.Math.Seq.{drop-append_seam}
use Rattle.std.proofs.lemmas.List.{get_or-drop, get_or_append_left, map-append, take_more}
use Rattle.ix_base.specs.declared.fault.Fault.{Fault}
use Rattle.index_model.specs.Meaning.{at_place}
use Rattle.index_model.specs.Sections.{Section}
use Rattle.file_image.specs.Front.{with_front}
use Rattle.reach_model.specs.LineTables.{FileHit, FileName, files_at, hits_in, is_match}
use Rattle.line_files.specs.declared.run.Last.{Last}
use Rattle.line_files.specs.Runs.{in_unit, matches, AreOfTable}

-- these files
abbrev pub all_of : List FileHit → Result (List FileHit) Fault
all_of hs = Ok hs

-- the files so far, of those from the first on up to an index
abbrev so_far : List FileHit → ℕ → ℕ → ℕ → List FileHit
so_far old unit first index = old ++ map (in_unit unit) (take (index - first) (drop first old))

module _ (old now : List FileHit) (unit first index : ℕ) (low : first ≤ index) (high : index < length old) (is : now ≡ so_far old unit first index) where
  -- the index is one of a file
  pub index_within : index < length now
  index_within = omega (arith, high, ap (λ (hs : List FileHit). length hs) is, length-append old (map (in_unit unit) (take (index - first) (drop first old))))

  -- one file more
  pub one_repeated : (d : FileHit) → now ++ in_unit unit (get_or now index d) ∷ [] ≡ so_far old unit first (index + 1)
  one_repeated d =
      let there : get_or now index d ≡ get_or old index d = ap (λ (hs : List FileHit). get_or hs index d) is ∙ get_or_append_left old (map (in_unit unit) (take (index - first) (drop first old))) d index high in
      let place : first + (index - first) ≡ index = omega (arith, low) in
      let next : index + 1 - first ≡ index - first + 1 = omega (arith, low) in
      let within : index - first < length (drop first old) = omega (arith, low, high, length-drop first old) in
      let same : get_or (drop first old) (index - first) d ≡ get_or now index d = get_or-drop first old (index - first) d ∙ ap (λ (k : ℕ). get_or old k d) place ∙ sym there in
      let front = take (index - first) (drop first old) in
      let more : take (index + 1 - first) (drop first old) ≡ front ++ get_or now index d ∷ [] =
      ap (λ (k : ℕ). take k (drop first old)) next ∙ take_more (drop first old) (index - first) d within ∙ ap (λ (h : FileHit). front ++ h ∷ []) same in
      ap (λ (hs : List FileHit). hs ++ in_unit unit (get_or now index d) ∷ []) is
      ∙ append_assoc old (map (in_unit unit) front) (in_unit unit (get_or now index d) ∷ [])
      ∙ ap (λ (hs : List FileHit). old ++ hs) (sym (map-append (in_unit unit) front (get_or now index d ∷ [])))
      ∙ ap (λ (hs : List FileHit). old ++ map (in_unit unit) hs) (sym more)

-- the same for another unit
in_other_unit : (number unit : ℕ) (name : List ℕ) (files : List FileName) → map (in_unit unit) (hits_in number name files) ≡ hits_in unit name files
in_other_unit number unit name files = by (filter (λ f. is_match name f.name) files)
  where
    by : (fs : List FileName) → map (in_unit unit) (map (λ f. record { unit = number; file = f }) fs) ≡ map (λ f. record { unit = unit; file = f }) fs
    by [] = refl
    by (f ∷ fs) = ap (λ (hs : List FileHit). record { unit = unit; file = f } ∷ hs) (by fs)

module _ (ss : List Section) (name : List ℕ) (old : List FileHit) (unit start place : ℕ) where
  -- what a unit adds whose table is at the place
  abbrev pub with_table : Result (List FileHit) Fault
  with_table = with_front old (matches unit name (at_place start (files_at ss place)))

  -- that of the table that was read last
  pub table_repeated : (l : Last) → AreOfTable ss name old l → l.place ≡ place → with_table ≡ Ok (old ++ map (in_unit unit) (drop l.first old))
  table_repeated l known same =
      let read : files_at ss place ≡ Ok known.files = ap (files_at ss) (sym same) ∙ known.read in
      rw read (ap (λ (hs : List FileHit). all_of (old ++ hs)) (sym (in_other_unit known.number unit name known.files) ∙ ap (map (in_unit unit)) (sym known.are)))

  -- behind it the table is known
  pub table_known : (new : List FileHit) → with_table ≡ Ok new → AreOfTable ss name new (record { place = place; first = length old })
  table_known new is = by (files_at ss place) refl is
    where
      by : (r : Result (List FileName) ℕ) → files_at ss place ≡ r → with_front old (matches unit name (at_place start r)) ≡ Ok new → AreOfTable ss name new (record { place = place; first = length old })
      by (Ok files) read h =
          let all : old ++ hits_in unit name files ≡ new = cc in
          record {
            number = unit;
            files = files;
            read = read;
            within = omega (arith, ap (λ (hs : List FileHit). length hs) all, length-append old (hits_in unit name files));
            are = ap (λ (hs : List FileHit). drop (length old) hs) (sym all) ∙ drop-append_seam old (hits_in unit name files);
          }
      by (Err code) read h = absurd cc
