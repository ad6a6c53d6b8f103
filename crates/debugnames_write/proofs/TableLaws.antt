-- The table of abbreviations, row by row.
use Rattle.std.proofs.Common.{◌≡◌, ℕ, zero, suc, ◌+◌, ◌<◌, ◌≤◌, cond, List, [], ◌∷◌, ◌++◌, length, get_or, take, map, refl, sym, ap, ◌∙◌, arith, length-append, append_assoc}
use Rattle.std.specs.Prelude.{flat_map}
use Rattle.std.specs.List.{enumerate_from}
use Rattle.std.proofs.lemmas.List.{take_all, get_or_default}
use Rattle.index_model.specs.Layout.{ended}
use Rattle.index_model.specs.NameIndex.{Row as IndexRow, uleb_bytes, abbreviation_bytes, abbreviation_table}
use Rattle.debugnames_write.specs.declared.item.Row.{Row}
use Rattle.debugnames_write.specs.Rows.{row_seen}
use Rattle.debugnames_write.proofs.Lists.{enumerate_more}
use Rattle.std.proofs.lemmas.List.Concat.{flat_map-append}
use Rattle.std.proofs.lemmas.List.{append-nil}

-- an abbreviation, by its row and the row's place
abbrev pub row_bytes : ℕ × Row → List ℕ
row_bytes r = abbreviation_bytes (r.0 + 1) (row_seen r.1)

abbrev seen_bytes : ℕ × IndexRow → List ℕ
seen_bytes r = abbreviation_bytes (r.0 + 1) r.1

seen : (k : ℕ) (rows : List Row) → flat_map row_bytes (enumerate_from k rows) ≡ flat_map (λ (r : ℕ × IndexRow). abbreviation_bytes (r.0 + 1) r.1) (enumerate_from k (map row_seen rows))
seen k [] = refl
seen k (r ∷ rows) = ap (λ (w : List ℕ). row_bytes (k, r) ++ w) (seen (k + 1) rows)

pub table_is : (rows : List Row) → abbreviation_table (map row_seen rows) ≡ flat_map row_bytes (enumerate_from 0 rows) ++ 0 ∷ []
table_is rows = ap ended (sym (seen 0 rows))

pub table_size : (rows : List Row) → length (abbreviation_table (map row_seen rows)) ≡ length (flat_map row_bytes (enumerate_from 0 rows)) + 1
table_size rows = ap (λ (w : List ℕ). length w) (table_is rows) ∙ length-append (flat_map row_bytes (enumerate_from 0 rows)) (0 ∷ [])

pub row_size : (code : ℕ) (row : IndexRow) → length (abbreviation_bytes code row) ≡ length (uleb_bytes code) + length (uleb_bytes row.0) + 6
row_size code row =
    length-append (uleb_bytes code ++ uleb_bytes row.0) ((cond row.1 2 1) ∷ 0x0F ∷ 3 ∷ 0x13 ∷ 0 ∷ 0 ∷ [])
    ∙ ap (λ (n : ℕ). n + 6) (length-append (uleb_bytes code) (uleb_bytes row.0))

module _ (rows : List Row) (i : ℕ) (r : Row) (lt : i < length rows) (is : r ≡ get_or rows i r) where
  -- one row more
  pub table_more : flat_map row_bytes (enumerate_from 0 (take (i + 1) rows)) ≡ flat_map row_bytes (enumerate_from 0 (take i rows)) ++ row_bytes (i, r)
  table_more = ap (flat_map row_bytes) (enumerate_more rows i r lt is) ∙ flat_map-append row_bytes (enumerate_from 0 (take i rows)) ((i, r) ∷ []) ∙ ap (λ (w : List ℕ). flat_map row_bytes (enumerate_from 0 (take i rows)) ++ w) (append-nil (row_bytes (i, r)))

  pub table_up : length (flat_map row_bytes (enumerate_from 0 (take (i + 1) rows))) ≤ length (flat_map row_bytes (enumerate_from 0 rows))
  table_up = up 0 rows (i + 1)
    where
      up : (n : ℕ) (rs : List Row) (k : ℕ) → length (flat_map row_bytes (enumerate_from n (take k rs))) ≤ length (flat_map row_bytes (enumerate_from n rs))
      up n rs zero = omega arith
      up n [] (suc k) = omega arith
      up n (x ∷ rs) (suc k) =
          let rest = up (n + 1) rs k in
          omega (arith, rest, length-append (row_bytes (n, x)) (flat_map row_bytes (enumerate_from (n + 1) (take k rs))), length-append (row_bytes (n, x)) (flat_map row_bytes (enumerate_from (n + 1) rs)))

-- ---- the loops

module _ (rows : List Row) (i : ℕ) (d : Row) (lt : i < length rows) where
  is_row : get_or rows i d ≡ get_or rows i (get_or rows i d)
  is_row = get_or_default rows i d (get_or rows i d) lt

  on : length (flat_map row_bytes (enumerate_from 0 (take (i + 1) rows))) ≡ length (flat_map row_bytes (enumerate_from 0 (take i rows))) + (length (uleb_bytes (i + 1)) + length (uleb_bytes (get_or rows i d).tag) + 6)
  on = ap (λ (w : List ℕ). length w) (table_more rows i (get_or rows i d) lt is_row) ∙ length-append (flat_map row_bytes (enumerate_from 0 (take i rows))) (row_bytes (i, get_or rows i d))
      ∙ ap (λ (n : ℕ). length (flat_map row_bytes (enumerate_from 0 (take i rows))) + n) (row_size (i + 1) (row_seen (get_or rows i d)))

  pub size_on : (size code tag next : ℕ) → size ≡ length (flat_map row_bytes (enumerate_from 0 (take i rows))) + 1 → code ≡ length (uleb_bytes (i + 1)) → tag ≡ length (uleb_bytes (get_or rows i d).tag) → next ≡ size + (code + tag + 6)
      → next ≡ length (flat_map row_bytes (enumerate_from 0 (take (i + 1) rows))) + 1
  size_on size code tag next is is_code is_tag sum = omega (arith, on)

  pub size_passes : (size code tag most : ℕ) → size ≡ length (flat_map row_bytes (enumerate_from 0 (take i rows))) + 1 → code ≡ length (uleb_bytes (i + 1)) → tag ≡ length (uleb_bytes (get_or rows i d).tag) → most < size + (code + tag + 6)
      → most < length (abbreviation_table (map row_seen rows))
  size_passes size code tag most is is_code is_tag pass =
      let up = table_up rows i (get_or rows i d) lt is_row in
      omega (arith, on, up, table_size rows)

  pub push_on : (old out new : List ℕ) → out ≡ old ++ flat_map row_bytes (enumerate_from 0 (take i rows)) → new ≡ out ++ abbreviation_bytes (i + 1) (row_seen (get_or rows i d)) → new ≡ old ++ flat_map row_bytes (enumerate_from 0 (take (i + 1) rows))
  push_on old out new is pushed =
      pushed ∙ ap (λ (w : List ℕ). w ++ row_bytes (i, get_or rows i d)) is ∙ append_assoc old (flat_map row_bytes (enumerate_from 0 (take i rows))) (row_bytes (i, get_or rows i d))
      ∙ ap (λ (w : List ℕ). old ++ w) (sym (table_more rows i (get_or rows i d) lt is_row))

pub size_whole : (rows : List Row) (i size : ℕ) → length rows ≤ i → size ≡ length (flat_map row_bytes (enumerate_from 0 (take i rows))) + 1 → size ≡ length (abbreviation_table (map row_seen rows))
size_whole rows i size le is =
    let whole : length (flat_map row_bytes (enumerate_from 0 (take i rows))) ≡ length (flat_map row_bytes (enumerate_from 0 rows)) = ap (λ (w : List Row). length (flat_map row_bytes (enumerate_from 0 w))) (take_all i rows le) in
    omega (arith, table_size rows)

pub push_whole : (rows : List Row) (i : ℕ) (old out new : List ℕ) → length rows ≤ i → out ≡ old ++ flat_map row_bytes (enumerate_from 0 (take i rows)) → new ≡ out ++ 0 ∷ [] → new ≡ old ++ abbreviation_table (map row_seen rows)
push_whole rows i old out new le is pushed =
    pushed ∙ ap (λ (w : List ℕ). w ++ 0 ∷ []) (is ∙ ap (λ (w : List Row). old ++ flat_map row_bytes (enumerate_from 0 w)) (take_all i rows le))
    ∙ append_assoc old (flat_map row_bytes (enumerate_from 0 rows)) (0 ∷ []) ∙ ap (λ (w : List ℕ). old ++ w) (sym (table_is rows))
