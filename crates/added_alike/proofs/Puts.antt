-- Bytes with a number put at a place.
use Rattle.std.proofs.Common.{◌≡◌, ℕ, ◌+◌, ◌-◌, ◌<◌, ◌≤◌, ◌^◌, List, ◌++◌, length, take, drop, sym, ap, ◌∙◌, arith}
use Rattle.std.proofs.lemmas.List.{append_assoc, length-append, length-drop, length-take-le, drop-drop, drop_at, take-append-drop}
use Rattle.byteorder.specs.Endian.{little_bytes}
use Rattle.index_model.specs.Sections.{bytes_from, field}
use Rattle.reach_model.specs.Added.{put}
use Rattle.added_alike.proofs.Bytes.{drop_behind, field_there, from_front, length-little_bytes, same_field}

module _ (n q v : ℕ) (bytes : List ℕ) (within : q + n ≤ length bytes) where
  front_size : length (take q bytes) ≡ q
  front_size = length-take-le q bytes (omega arith)

  pub length-put : length (put n q v bytes) ≡ length bytes
  unfolding put
  length-put = omega (arith, length-append (take q bytes ++ little_bytes n v) (drop (q + n) bytes), length-append (take q bytes) (little_bytes n v), front_size, length-little_bytes n v, length-drop (q + n) bytes)

  -- the number is there
  pub put_there : v < 256 ^ n → field n q (put n q v bytes) ≡ v
  unfolding put
  put_there lt =
      field_there n q v ((take q bytes ++ little_bytes n v) ++ drop (q + n) bytes) (drop (q + n) bytes) lt
      (ap (drop q) (append_assoc (take q bytes) (little_bytes n v) (drop (q + n) bytes)) ∙ drop_at (take q bytes) (little_bytes n v ++ drop (q + n) bytes) q front_size)

  -- bytes behind it stay
  pub drop-put : (p : ℕ) → q + n ≤ p → drop p (put n q v bytes) ≡ drop p bytes
  unfolding put
  drop-put p le =
      let front : length (take q bytes ++ little_bytes n v) ≡ q + n = omega (arith, length-append (take q bytes) (little_bytes n v), front_size, length-little_bytes n v) in
      let e : q + n + (p - (q + n)) ≡ p = omega arith in
      drop_behind p (p - (q + n)) (take q bytes ++ little_bytes n v) (drop (q + n) bytes) (omega (arith, front)) ∙ drop-drop (p - (q + n)) (q + n) bytes ∙ ap (λ (k : ℕ). drop k bytes) e

  -- bytes before it stay
  pub before_put : (p m : ℕ) → p + m ≤ q → bytes_from p m (put n q v bytes) ≡ bytes_from p m bytes
  unfolding put
  before_put p m le =
      ap (bytes_from p m) (append_assoc (take q bytes) (little_bytes n v) (drop (q + n) bytes))
      ∙ from_front p m (take q bytes) (little_bytes n v ++ drop (q + n) bytes) (omega (arith, front_size))
      ∙ sym (from_front p m (take q bytes) (drop q bytes) (omega (arith, front_size)))
      ∙ ap (bytes_from p m) (take-append-drop q bytes)

  pub field_behind_put : (m p : ℕ) → q + n ≤ p → field m p (put n q v bytes) ≡ field m p bytes
  field_behind_put m p le = same_field m p (put n q v bytes) bytes (ap (take m) (drop-put p le))

  pub field_before_put : (m p : ℕ) → p + m ≤ q → field m p (put n q v bytes) ≡ field m p bytes
  field_before_put m p le = same_field m p (put n q v bytes) bytes (before_put p m le)
