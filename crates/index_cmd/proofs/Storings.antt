-- An index, or a program with its index, is stored behind a shelf that holds the same.
use Rattle.std.proofs.Common.{◌⊎◌, inl, inr, ℕ, List, Option}
use Rattle.index_forms.specs.Forms.{kind_of}
use Rattle.index_forms.specs.declared.form.IndexForm.{IndexForm}
use Rattle.index_model.specs.Cache.{Cache, GdbBytes, NameBytes, DoesNotFit}
use Rattle.outside.specs.Files.{Files, SameFiles, Stored, StoredOrPrefix}
use Rattle.cached_command.proofs.FilesLaws.{left_since, stored_since}
use Rattle.store_commands.specs.Stores.{Keeps, KeepsPart, strings_name}
use Rattle.store_commands.specs.Adds.{ForProgram, OfAdded}

module _ (name : List ℕ) (a b c : Option Files) (same : SameFiles a b) where
  pub keeps_from : (x : Cache) → Keeps b c name x → Keeps a c name x
  keeps_from (GdbBytes bytes) h = stored_since name bytes a b c same h
  keeps_from (NameBytes names strings) h = (h.0, stored_since name names a b h.0 same h.1, h.2)
  keeps_from DoesNotFit h = h

  part_of_both : (names strings : List ℕ) → StoredOrPrefix b c name names ⊎ ((mid : Option Files) × Stored b mid name names × StoredOrPrefix mid c (strings_name name) strings) → StoredOrPrefix a c name names ⊎ ((mid : Option Files) × Stored a mid name names × StoredOrPrefix mid c (strings_name name) strings)
  part_of_both names strings (inl h) = inl (left_since name names a b c same h)
  part_of_both names strings (inr h) = inr (h.0, stored_since name names a b h.0 same h.1, h.2)

  pub keeps_part_from : (x : Cache) → KeepsPart b c name x → KeepsPart a c name x
  keeps_part_from (GdbBytes bytes) h = left_since name bytes a b c same h
  keeps_part_from (NameBytes names strings) h = part_of_both names strings h
  keeps_part_from DoesNotFit h = h

-- what holds of the program with its index, by what holds of all bytes
pub of_added : (file : List ℕ) (form : IndexForm) (P Q : List ℕ → Type 0) → ((bytes : List ℕ) → P bytes → Q bytes) → ForProgram file form (OfAdded (kind_of form) P) → ForProgram file form (OfAdded (kind_of form) Q)
of_added file form P Q f h = record { built = h.built; accepted = h.accepted; holds = (h.holds.0, (h.holds.1.0, h.holds.1.1, f _ h.holds.1.2)) }
