-- The ranks of texts in byte order.
use Rattle.std.specs.Prelude.{◌≡◌, ℕ, ◌-◌, ◌<◌, ◌≤◌, List, length, slice_index}
use Rattle.query_engine.specs.Pairs.{Pair, number_at, text_at, ComesBefore}
use Rattle.query_engine.specs.Marks.{text_with, IsNumberOf}

-- each text comes before the next ones
abbrev pub Ascend : List (List ℕ) → Type 0
Ascend ts = (i j : ℕ) → i < j → j < length ts → ComesBefore (text_with ts i) (text_with ts j)

-- the numbers of pairs are below their number, and pairs with one number have one text
pub record AreNumbersOf (ps : List Pair) : Type 0 where
  pub below : (j : ℕ) → j < length ps → number_at ps j < length ps
  pub same : (i j : ℕ) → i < length ps → j < length ps → number_at ps i ≡ number_at ps j → text_at ps i ≡ text_at ps j

-- the pair at an index has the text of the one before it
pub record GoesOnAt (ps : List Pair) (k : ℕ) : Type 0 where
  pub some : 0 < k
  pub same : text_at ps k ≡ text_at ps (k - 1)

-- of the first pairs the distinct texts in byte order, and the rank of each number's text among them
pub record AreRanksIn (ps : List Pair) (distinct : List (List ℕ)) (ranks : List ℕ) (n : ℕ) : Type 0 where
  pub ascending : Ascend distinct
  pub each : (j : ℕ) → j < n → IsNumberOf distinct (text_at ps j) (slice_index ranks (number_at ps j))
  pub used : (k : ℕ) → k < length distinct → (j : ℕ) × (j < n) × (text_at ps j ≡ text_with distinct k)

-- the distinct texts in byte order, and the rank of each text among them by its number
pub record AreRanksOf (ts distinct : List (List ℕ)) (ranks : List ℕ) : Type 0 where
  pub ascending : Ascend distinct
  pub size : length ts ≤ length ranks
  pub each : (n : ℕ) → n < length ts → IsNumberOf distinct (text_with ts n) (slice_index ranks n)
  pub used : (k : ℕ) → k < length distinct → (n : ℕ) × (n < length ts) × (slice_index ranks n ≡ k)
