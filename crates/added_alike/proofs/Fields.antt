-- The ELF header of a program with sections added, and its section headers.
use Rattle.std.proofs.Common.{◌≡◌, ℕ, ◌+◌, ◌*◌, ◌<◌, ◌≤◌, ◌^◌, eqb, List, length, take, drop, refl, ap, ◌∙◌, arith}
use Rattle.std.proofs.lemmas.Bool.{ne_eqb}
use Rattle.index_model.specs.Sections.{Header, Section, bytes_from, field, header, header_at, names_index, section_count, table_at}
use Rattle.reach_model.specs.Added.{Addition, added, count_beside, count_field, first_header, headers_at, index_beside, index_field, new_count, old_header}
use Rattle.added_alike.proofs.Bytes.{from_begins, same_field}
use Rattle.added_alike.proofs.HeaderFields.{link_first, size_first}
use Rattle.reach_model.proofs.Accepted.{Accepted}
use Rattle.added_alike.proofs.Fronts.{before_patched, count_patched, drop-patched, index_patched, length-patched, size_patched, table_patched}
use Rattle.added_alike.proofs.Numbers.{count_beside_fits, count_is_short, count_reads, index_beside_fits, index_is_short, index_reads}
use Rattle.added_alike.proofs.Whole.{length-own, length-whole, long, own_bytes, table_is_late, whole, whole_begins, whole_header}

module _ (file : List ℕ) (sections : List Section) (addition : Addition) (ok : Accepted file sections) (fits : length (added file sections addition) < 2 ^ 64) where
  abbrev then_ : List ℕ
  then_ = added file sections addition

  abbrev bytes : List ℕ
  bytes = whole file sections addition

  abbrev table : ℕ
  table = headers_at file sections addition

  abbrev count : ℕ
  count = count_field (new_count file sections addition)

  abbrev index : ℕ
  index = index_field (names_index file)

  enough : 64 ≤ length bytes
  enough = long file sections addition ok

  pub length-added : length then_ ≡ length bytes
  unfolding added
  length-added = length-patched table count index bytes enough

  pub drop-added : (p : ℕ) → 64 ≤ p → drop p then_ ≡ drop p bytes
  unfolding added
  drop-added p le = drop-patched table count index bytes enough p le

  -- the first bytes are those of the program
  pub front_added : (p n : ℕ) → p + n ≤ 40 → bytes_from p n then_ ≡ bytes_from p n file
  unfolding added
  front_added p n le = before_patched table count index bytes enough p n le ∙ from_begins p n (whole_begins file sections addition) (omega (arith, ok.long))

  pub front_field : (n p : ℕ) → p + n ≤ 40 → field n p then_ ≡ field n p file
  front_field n p le = same_field n p then_ file (front_added p n le)

  pub header_size_added : field 2 58 then_ ≡ field 2 58 file
  unfolding added
  header_size_added = size_patched table count index bytes enough ∙ same_field 2 58 bytes file (from_begins 58 2 (whole_begins file sections addition) (omega (arith, ok.long)))

  -- ---- the table of section headers

  pub table_fits : table < 2 ^ 64
  table_fits = omega (arith, length-added, length-whole file sections addition ok)

  pub count_fits : new_count file sections addition < 2 ^ 64
  count_fits = omega (arith, length-added, length-whole file sections addition ok)

  pub table_added : table_at then_ ≡ table
  unfolding added
  table_added = table_patched table count index bytes enough table_fits

  pub table_late : 64 ≤ table
  table_late = omega (arith, ok.long, table_is_late file sections addition ok)

  count_there : field 2 60 then_ ≡ count
  unfolding added
  count_there = count_patched table count index bytes enough (count_is_short (new_count file sections addition))

  index_there : field 2 62 then_ ≡ index
  unfolding added
  index_there = index_patched table count index bytes enough (index_is_short (names_index file))

  -- the header at an index that the program has
  pub old_header_added : (i : ℕ) → i < section_count file → header_at then_ i ≡ header (old_header file sections addition i)
  unfolding header_at
  old_header_added i lt =
      ap (λ (t : ℕ). header (bytes_from (t + 64 * i) 64 then_)) table_added
      ∙ ap (λ (w : List ℕ). header (take 64 w)) (drop-added (table + 64 * i) (omega (arith, table_late)))
      ∙ ap header (whole_header file sections addition ok i lt)

  first_is : (i : ℕ) → i ≡ 0 → old_header file sections addition i ≡ first_header (new_count file sections addition) (names_index file) (own_bytes file sections addition i)
  unfolding old_header
  first_is i e = rw (ap (λ (k : ℕ). eqb k 0) e) refl

  some_sections : 0 < section_count file
  some_sections = omega (arith, ok.names_index)

  header_0 : header_at then_ 0 ≡ header (first_header (new_count file sections addition) (names_index file) (own_bytes file sections addition 0))
  header_0 = old_header_added 0 some_sections ∙ ap header (first_is 0 refl)

  size_0 : (header_at then_ 0).size ≡ count_beside (new_count file sections addition)
  size_0 = ap (λ (h : Header). h.size) header_0 ∙ size_first (own_bytes file sections addition 0) (length-own file sections addition ok 0 some_sections) (new_count file sections addition) (names_index file) (count_beside_fits (new_count file sections addition) count_fits)

  by_count : (f : List ℕ) (n : ℕ) → (table_at f ≡ 0 → ⊥) → field 2 60 f ≡ count_field n → (header_at f 0).size ≡ count_beside n → 0 < n → section_count f ≡ n
  unfolding section_count
  by_count f n table there beside some = rw (ne_eqb (table_at f) 0 table, there, beside) (count_reads n some)

  -- there are as many sections as there were, and those that are added
  pub count_added : section_count then_ ≡ new_count file sections addition
  count_added = by_count then_ (new_count file sections addition) (λ e. omega (arith, e, table_added, table_late)) count_there size_0 (omega (arith, some_sections))

  module _ (small : names_index file < 2 ^ 32) where
    link_0 : (header_at then_ 0).link ≡ index_beside (names_index file)
    link_0 = ap (λ (h : Header). h.link) header_0 ∙ link_first (own_bytes file sections addition 0) (length-own file sections addition ok 0 some_sections) (new_count file sections addition) (names_index file) (index_beside_fits (names_index file) small)

    by_index : (f : List ℕ) (i : ℕ) → field 2 62 f ≡ index_field i → (header_at f 0).link ≡ index_beside i → names_index f ≡ i
    unfolding names_index
    by_index f i there beside = rw (there, beside) (index_reads i)

    -- the names stand in the same section
    pub names_index_added : names_index then_ ≡ names_index file
    names_index_added = by_index then_ (names_index file) index_there link_0
