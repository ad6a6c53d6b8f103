-- What a look-up in a `.gdb_index` writes.
use Rattle.std.specs.Prelude.{◌≡◌, ◌⊎◌, ℕ, List, Option, Some, None, Ok, Err}
use Rattle.ix_base.specs.declared.fault.Fault.{Fault}
use Rattle.index_model.specs.Answers.{InUnit, MainIs}
use Rattle.index_model.specs.GdbIndexRead.{GdbIndex, gdb_index, gdb_index_hits, number_at, main_name}
use Rattle.name_quotes.specs.declared.quote.Spelling.{Spelling}
use Rattle.name_quotes.specs.Quotes.{spelled}
use Rattle.query_text.specs.Questions.{Question}
use Rattle.query_text.specs.Spelled.{answer_in}
use Rattle.index_model.specs.Queries.{Query, AskName, AskSimple, AskAddress, AskMain, AskCache}
use Rattle.index_model.specs.Texts.{text_of_answer}
use Rattle.index_model.specs.LookTexts.{text_of_elements, text_of_index_fault}
use Rattle.command_base.specs.declared.status.Status.{Status}
use Rattle.command_base.specs.declared.status.Status.TheVariants.{Answered, IndexRefused}

-- a `.gdb_index` answers names, addresses and main
abbrev pub offer_gdb : Query → Option Query
offer_gdb (AskSimple n) = None
offer_gdb AskCache = None
offer_gdb q = Some q

-- the text of the answer of an index, to a query of a name, an address or main
abbrev pub gdb_text_in : Spelling → GdbIndex → Query → Option (List ℕ)
gdb_text_in spelling i (AskName n) = Some (text_of_elements (spelled spelling n) (gdb_index_hits i n))
gdb_text_in spelling i (AskSimple n) = None
gdb_text_in spelling i (AskAddress a) = Some (text_of_answer (answer_in spelling (InUnit (number_at i a))))
gdb_text_in spelling i AskMain = Some (text_of_answer (answer_in spelling (MainIs (main_name i))))
gdb_text_in spelling i AskCache = None

abbrev pub gdb_text : GdbIndex → Question → Option (List ℕ)
gdb_text i q = gdb_text_in q.spelling i q.query

-- the text is that of the answer of the index in these bytes, which have no fault
pub record IsGdbAnswerOf (bytes : List ℕ) (q : Question) (text : List ℕ) : Type 0 where
  pub index : GdbIndex
  pub accepted : gdb_index bytes ≡ Ok index
  pub text_is : gdb_text index q ≡ Some text

-- the text is that of the first fault of the index in these bytes
pub record IsGdbRefusalOf (bytes text : List ℕ) : Type 0 where
  pub fault : Fault
  pub first : gdb_index bytes ≡ Err fault
  pub text_is : text ≡ text_of_index_fault fault

-- what the text of a result says, by its status: of an index, and of the bytes of one
abbrev pub SaysLook : GdbIndex → Question → Status → List ℕ → Type 0
SaysLook index q Answered text = gdb_text index q ≡ Some text
SaysLook index q other text = ⊥

abbrev pub SaysGdb : List ℕ → Question → Status → List ℕ → Type 0
SaysGdb bytes q Answered text = IsGdbAnswerOf bytes q text
SaysGdb bytes q IndexRefused text = IsGdbRefusalOf bytes text
SaysGdb bytes q other text = ⊥

-- the status is that of the meaning of the index in these bytes, or want of memory
pub record IsLookMeant (bytes : List ℕ) (status : ℕ) : Type 0 where
  pub answered : (index : GdbIndex) → gdb_index bytes ≡ Ok index → (status ≡ 0) ⊎ (status ≡ 7)
  pub refused : (f : Fault) → gdb_index bytes ≡ Err f → (status ≡ 8) ⊎ (status ≡ 7)
