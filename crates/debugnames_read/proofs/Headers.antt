-- The front of an index, step by step.
use Rattle.std.proofs.Common.{◌≡◌, ℕ, ◌+◌, Bool, true, false, eqb, List, length, Option, Some, None, Result, Ok, Err, refl, arith, ap, ◌∙◌}
use Rattle.std.proofs.lemmas.Bool.{eq-eqb, ne_eqb}
use Rattle.ix_base.specs.declared.fault.Fault.{Fault}
use Rattle.ix_base.specs.Reading.{Input, Length, initial_length, input, number, ◌>>=◌ as ◌>>=?◌}
use Rattle.index_model.specs.declared.index_code.TheConstants.{NAMES_LENGTH, NAMES_VERSION, NAMES_COUNTS}
use Rattle.index_model.specs.Meaning.{◌>>=◌, ◌>>◌, fault, holds_or, some_or}
use Rattle.index_model.specs.NameHeader.{tables}
use Rattle.index_model.specs.NameTables.{Tables, counts, tables_behind}
use Rattle.debugnames_read.specs.Tables.{length_at, tables_at, version_at}

-- ---- the length

module _ (i : Input) where
  pub length_cut : initial_length i ≡ None → length_at i ≡ Err (fault NAMES_LENGTH i.at)
  unfolding length_at
  length_cut e = rw e refl

  module _ (l : Length) (j : Input) (read : initial_length i ≡ Some (l, j)) (end : j.at + length j.rest ≡ i.at + length i.rest) where
    pub length_wrong : (l.length ≡ length j.rest → ⊥) → length_at i ≡ Err (fault NAMES_LENGTH i.at)
    unfolding length_at
    length_wrong ne = rw (read, ne_eqb (j.at + l.length) (i.at + length i.rest) (λ e. ne (omega (arith, e, end)))) refl

    pub length_right : l.length ≡ length j.rest → length_at i ≡ Ok (l.wide, j)
    unfolding length_at
    length_right e = rw (read, eq-eqb (j.at + l.length) (i.at + length i.rest) (omega (arith, e, end))) refl

-- ---- length, version, counts and tables

module _ (bytes : List ℕ) where
  abbrev counts_wrong : Input → Fault
  counts_wrong i = fault NAMES_COUNTS (i.at + 4)

  abbrev on_version : Bool → Input → Input → Result Tables Fault
  on_version wide first i = some_or (tables_at wide i) (counts_wrong first)

  abbrev on_length : Bool → Input → Result Tables Fault
  on_length wide i = version_at i >>= λ v. on_version wide i v.1

  abbrev on_padding : Bool → Input → Option (ℕ × Input) → Result Tables Fault
  on_padding wide first r = some_or r (counts_wrong first) >>= λ padding. some_or (counts padding.1 >>=? λ c. tables_behind wide c.0 c.1) (counts_wrong first)

  abbrev on_test : Bool → Input → Bool → Input → Result Tables Fault
  on_test wide first test i = holds_or test (fault NAMES_VERSION first.at) >> on_padding wide first (number 2 i)

  abbrev on_number : Bool → Input → Option (ℕ × Input) → Result Tables Fault
  on_number wide first r = some_or r (fault NAMES_VERSION first.at) >>= λ version. on_test wide first (eqb version.0 5) version.1

  abbrev version_by : Input → Option (ℕ × Input) → Result (record {} × Input) Fault
  version_by first r = some_or r (fault NAMES_VERSION first.at) >>= λ version. holds_or (eqb version.0 5) (fault NAMES_VERSION first.at) >> Ok (record {}, version.1)

  abbrev version_if : Input → Bool → Input → Result (record {} × Input) Fault
  version_if first test i = holds_or test (fault NAMES_VERSION first.at) >> Ok (record {}, i)

  abbrev tables_by : Bool → Option (ℕ × Input) → Option Tables
  tables_by wide r = r >>=? λ padding. counts padding.1 >>=? λ c. tables_behind wide c.0 c.1

  by_padding : (wide : Bool) (first : Input) (r : Option (ℕ × Input)) → on_padding wide first r ≡ some_or (tables_by wide r) (counts_wrong first)
  by_padding wide first None = refl
  by_padding wide first (Some padding) = refl

  by_test : (wide : Bool) (first : Input) (b : Bool) (i : Input) → on_test wide first b i ≡ (version_if first b i >>= λ v. on_version wide first v.1)
  unfolding tables_at
  by_test wide first true i = by_padding wide first (number 2 i)
  by_test wide first false i = refl

  by_number : (wide : Bool) (first : Input) (r : Option (ℕ × Input)) → on_number wide first r ≡ (version_by first r >>= λ v. on_version wide first v.1)
  by_number wide first None = refl
  by_number wide first (Some v) = by_test wide first (eqb v.0 5) v.1

  by_version : (wide : Bool) (i : Input) → on_number wide i (number 2 i) ≡ on_length wide i
  unfolding version_at
  by_version wide i = by_number wide i (number 2 i)

  abbrev length_if : Bool → Length → Input → Result (Bool × Input) Fault
  length_if test l j = holds_or test (fault NAMES_LENGTH 0) >> Ok (l.wide, j)

  abbrev length_by : ℕ → Option (Length × Input) → Result (Bool × Input) Fault
  length_by end r = some_or r (fault NAMES_LENGTH 0) >>= λ len. length_if (eqb (len.1.at + len.0.length) end) len.0 len.1

  abbrev all_by : ℕ → Option (Length × Input) → Result Tables Fault
  all_by end r = some_or r (fault NAMES_LENGTH 0) >>= λ len. holds_or (eqb (len.1.at + len.0.length) end) (fault NAMES_LENGTH 0) >> on_number len.0.wide len.1 (number 2 len.1)

  by_if : (b : Bool) (l : Length) (j : Input) → (holds_or b (fault NAMES_LENGTH 0) >> on_number l.wide j (number 2 j)) ≡ (length_if b l j >>= λ x. on_length x.0 x.1)
  by_if true l j = by_version l.wide j
  by_if false l j = refl

  by_length : (end : ℕ) (r : Option (Length × Input)) → all_by end r ≡ (length_by end r >>= λ x. on_length x.0 x.1)
  by_length end None = refl
  by_length end (Some len) = by_if (eqb (len.1.at + len.0.length) end) len.0 len.1

  tables_steps : tables bytes ≡ (length_at (input bytes 0) >>= λ x. on_length x.0 x.1)
  unfolding tables length_at
  tables_steps =
      let e : length bytes ≡ 0 + length bytes = omega arith in
      by_length (length bytes) (initial_length (input bytes 0)) ∙ ap (λ (end : ℕ). length_by end (initial_length (input bytes 0)) >>= λ x. on_length x.0 x.1) e

  pub at_length : (d : Fault) → length_at (input bytes 0) ≡ Err d → tables bytes ≡ Err d
  at_length d e = tables_steps ∙ rw e refl

  module _ (wide : Bool) (i : Input) (read : length_at (input bytes 0) ≡ Ok (wide, i)) where
    pub at_version : (d : Fault) → version_at i ≡ Err d → tables bytes ≡ Err d
    at_version d e = tables_steps ∙ rw (read, e) refl

    pub at_tables : (v : record {}) (j : Input) → version_at i ≡ Ok (v, j) → tables bytes ≡ some_or (tables_at wide j) (fault NAMES_COUNTS (i.at + 4))
    at_tables v j e = tables_steps ∙ rw (read, e) refl
