-- How many bytes the names and the vectors up to one have.
use Rattle.std.proofs.Common.{◌≡◌, ℕ, ◌+◌, ◌*◌, ◌<◌, ◌≤◌, List, [], length, get_or, take, sym, ap, ◌∙◌, arith}
use Rattle.std.specs.Prelude.{sum_by}
use Rattle.std.proofs.lemmas.List.Folds.{fold-map}
use Rattle.std.proofs.lemmas.List.Sums.{sum_by_more, sum_by_more_le}
use denote.Ref.{Bor}
use Rattle.gdbindex_write.specs.declared.symbols.Symbol.{Symbol}
use Rattle.gdbindex_write.specs.Pools.{vectors_seen}
use Rattle.gdbindex_write.specs.Sizes.{names_size, vectors_size}
use Rattle.gdbindex_write.specs.Symbols.{names_of}

-- what stands for an item past the end
abbrev pub no_vector : Bor (List ℕ)
no_vector = record { ref_ptr = (0, 0); now = [] }

abbrev pub no_symbol : Symbol
no_symbol = record { name = record { ref_ptr = (0, 0); now = [] }; start = 0; end = 0 }

abbrev name_part : Symbol → ℕ
name_part s = length s.name.now + 1

abbrev vector_part : Bor (List ℕ) → ℕ
vector_part v = 4 + 4 * length v.now

names_are : (xs : List Symbol) → names_size (names_of xs) ≡ sum_by name_part xs
names_are xs = fold-map (λ (a : ℕ) (n : List ℕ). a + (length n + 1)) (λ (s : Symbol). s.name.now) 0 xs

vectors_are : (xs : List (Bor (List ℕ))) → vectors_size (vectors_seen xs) ≡ sum_by vector_part xs
vectors_are xs = fold-map (λ (a : ℕ) (v : List ℕ). a + (4 + 4 * length v)) (λ (v : Bor (List ℕ)). v.now) 0 xs

module _ (xs : List Symbol) (i : ℕ) (lt : i < length xs) where
  pub names_more : names_size (names_of (take (i + 1) xs)) ≡ names_size (names_of (take i xs)) + (length (get_or xs i no_symbol).name.now + 1)
  names_more = names_are (take (i + 1) xs) ∙ sum_by_more name_part xs i no_symbol lt ∙ ap (λ (n : ℕ). n + name_part (get_or xs i no_symbol)) (sym (names_are (take i xs)))

  pub names_fit : names_size (names_of (take i xs)) + (length (get_or xs i no_symbol).name.now + 1) ≤ names_size (names_of xs)
  names_fit = omega (arith, names_are xs, names_are (take i xs), sum_by_more_le name_part xs i no_symbol lt)

module _ (xs : List (Bor (List ℕ))) (i : ℕ) (lt : i < length xs) where
  pub vectors_more : vectors_size (vectors_seen (take (i + 1) xs)) ≡ vectors_size (vectors_seen (take i xs)) + (4 + 4 * length (get_or xs i no_vector).now)
  vectors_more = vectors_are (take (i + 1) xs) ∙ sum_by_more vector_part xs i no_vector lt ∙ ap (λ (n : ℕ). n + vector_part (get_or xs i no_vector)) (sym (vectors_are (take i xs)))

  pub vectors_fit : vectors_size (vectors_seen (take i xs)) + (4 + 4 * length (get_or xs i no_vector).now) ≤ vectors_size (vectors_seen xs)
  vectors_fit = omega (arith, vectors_are xs, vectors_are (take i xs), sum_by_more_le vector_part xs i no_vector lt)
