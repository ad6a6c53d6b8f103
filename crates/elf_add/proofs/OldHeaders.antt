-- One header more behind those of the sections before.
use Rattle.std.proofs.Common.{◌≡◌, ℕ, zero, suc, ◌+◌, ◌*◌, ◌-◌, List, [], ◌∷◌, ◌++◌, take, drop, refl, sym, ap, ◌∙◌, arith, add-one, zero-add}
use Rattle.std.specs.Prelude.{flat_map}
use Rattle.std.specs.List.{range_with_len}
use Rattle.std.proofs.lemmas.List.{append-nil}
use Rattle.std.proofs.lemmas.Grind.{flat_map-append}
use Rattle.common_laws.proofs.Appended.{two_parts}
use Rattle.index_model.specs.Layout.{below}
use Rattle.index_model.specs.Sections.{bytes_from, table_at}
use Rattle.elf_add.specs.declared.old_headers.Changes.{Changes}
use Rattle.elf_add.specs.Headers.{header_then}

range_more : (a n : ℕ) → range_with_len a (suc n) ≡ range_with_len a n ++ (a + n) ∷ []
range_more a zero = ap (λ n. n ∷ []) (omega arith)
range_more a (suc n) =
    let end : a + 1 + n ≡ a + suc n = omega arith in
    ap (λ ns. a ∷ ns) (range_more (a + 1) n ∙ ap (λ m. range_with_len (a + 1) n ++ m ∷ []) end)

below_more : (n : ℕ) → below (n + 1) ≡ below n ++ n ∷ []
below_more n = ap below (add-one n) ∙ range_more 0 n ∙ ap (λ m. below n ++ m ∷ []) (zero-add n)

one_more : (f : ℕ → List ℕ) (i : ℕ) → flat_map f (below (i + 1)) ≡ flat_map f (below i) ++ f i
one_more f i = ap (flat_map f) (below_more i) ∙ flat_map-append f (below i) (i ∷ []) ∙ ap (λ xs. flat_map f (below i) ++ xs) (append-nil (f i))

-- the header of the file's section at an index, by what changes
abbrev pub header_in : List ℕ → Changes → ℕ → List ℕ
header_in file changes i = header_then (bytes_from (table_at file + 64 * i) 64 file) changes i

-- the header that stands at a place of the table was changed, and appended
pub next_header : (file : List ℕ) (changes : Changes) (table i : ℕ) (first bytes more header : List ℕ) → table ≡ table_at file
    → header ≡ header_then (take (table + 64 * i + 64 - (table + 64 * i)) (drop (table + 64 * i) file)) changes i
    → bytes ≡ first ++ flat_map (header_in file changes) (below i)
    → more ≡ bytes ++ header
    → more ≡ first ++ flat_map (header_in file changes) (below (i + 1))
next_header file changes table i first bytes more header at is h one =
    let size : table + 64 * i + 64 - (table + 64 * i) ≡ 64 = omega arith in
    let same : header ≡ header_in file changes i = is ∙ rw (size, at) refl in
    two_parts first (flat_map (header_in file changes) (below i)) (header_in file changes i) h (one ∙ ap (λ xs. bytes ++ xs) same)
    ∙ ap (λ xs. first ++ xs) (sym (one_more (header_in file changes) i))
