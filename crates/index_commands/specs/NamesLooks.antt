-- What a look-up in a `.debug_names` writes.
use Rattle.std.specs.Prelude.{◌≡◌, ◌⊎◌, ℕ, List, Ok, Err}
use Rattle.ix_base.specs.declared.fault.Fault.{Fault}
use Rattle.index_model.specs.NameIndexRead.{NameIndex, name_index, name_index_hits}
use Rattle.index_model.specs.LookTexts.{text_of_hits, text_of_index_fault}
use Rattle.name_quotes.specs.Quotes.{spelled}
use Rattle.index_commands.specs.declared.names.NamesLook.{NamesLook}
use Rattle.command_base.specs.declared.status.Status.{Status}
use Rattle.command_base.specs.declared.status.Status.TheVariants.{Answered, IndexRefused}

-- the text is that of the entries of the name in the index in these bytes, with these strings from the base on, which have no fault
pub record IsNamesAnswerOf (bytes strings : List ℕ) (look : NamesLook) (name text : List ℕ) : Type 0 where
  pub index : NameIndex
  pub accepted : name_index bytes strings look.base ≡ Ok index
  pub text_is : text ≡ text_of_hits (spelled look.spelling name) (name_index_hits index name)

-- the text is that of the first fault of the index in these bytes
pub record IsNamesRefusalOf (bytes strings : List ℕ) (look : NamesLook) (text : List ℕ) : Type 0 where
  pub fault : Fault
  pub first : name_index bytes strings look.base ≡ Err fault
  pub text_is : text ≡ text_of_index_fault fault

-- what the text of a result says, by its status
abbrev pub SaysNames : List ℕ → List ℕ → NamesLook → List ℕ → Status → List ℕ → Type 0
SaysNames bytes strings look name Answered text = IsNamesAnswerOf bytes strings look name text
SaysNames bytes strings look name IndexRefused text = IsNamesRefusalOf bytes strings look text
SaysNames bytes strings look name other text = ⊥

-- the status is that of the meaning of the index in these bytes, whose names stand in strings from a base on, or want of memory
pub record IsNamesMeant (bytes strings : List ℕ) (look : NamesLook) (status : ℕ) : Type 0 where
  pub answered : (index : NameIndex) → name_index bytes strings look.base ≡ Ok index → (status ≡ 0) ⊎ (status ≡ 7)
  pub refused : (f : Fault) → name_index bytes strings look.base ≡ Err f → (status ≡ 8) ⊎ (status ≡ 7)
