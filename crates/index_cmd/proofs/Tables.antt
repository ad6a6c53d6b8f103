-- Where nothing failed, a command that asks a table of a program comes to what the table means, or to want of memory.
use Rattle.std.proofs.Common.{◌≡◌, inl, inr, ℕ, List, Option, Some, Result, Ok, Err, refl, sym, ap, subst, ◌∙◌}
use Rattle.ix_base.specs.declared.fault.Fault.{Fault}
use Rattle.index_model.specs.Faults.{Built, built_of, first_fault}
use Rattle.index_model.proofs.Meanings.{same_ok}
use Rattle.outside.specs.Files.{Files}
use Rattle.command_base.specs.Replies.{IsRefusalOf, line_of}
use Rattle.command_base.specs.Statuses.{status_code}
use Rattle.command_base.specs.Tables.{IsTableMeant}
use Rattle.command_base.specs.declared.status.Status.{Status}
use Rattle.command_base.specs.declared.status.Status.TheVariants.{TableRefused}
use Rattle.command_base.specs.declared.status.RefusedTable.{RefusedTable}
use Rattle.command_base.specs.declared.status.RefusedTable.TheVariants.{Addresses, Lines}
use Rattle.aranges_command.specs.Comparisons.{sets_of}
use Rattle.files_command.specs.Listings.{found_by}
use Rattle.index_cmd.specs.Replies.{Causes, IsAnswer, IsIndexRefusal, IsRefusal, IsTableRefusal}
use Rattle.index_cmd.specs.Requests.{Request, OfAranges, OfFiles}
use Rattle.index_cmd.proofs.Outcomes.{Plain, answers, refuses, index_refuses, table_refuses, plain_lines, plain_fails, same_bytes, accepted_built, none_some}

module _ {X : Type 0} (files : Files) (reads stores writes : Type 0) (old new : Option (List ℕ)) (file bytes : List ℕ) (holds : files file ≡ Some bytes) (no_write : writes → ⊥) (read : Built → Result X Fault) where
  -- the file holds bytes without a fault, of which the table is read as this
  abbrev Reads : Result X Fault → Type 0
  Reads result = (own : List ℕ) × (files file ≡ Some own) × ((b : Built) × (built_of own ≡ Ok b) × (read b ≡ result))

  -- these bytes have one table
  one_table : (r : Result X Fault) → Reads r → (b : Built) → built_of bytes ≡ Ok b → read b ≡ r
  one_table r is b accepted =
      let same = same_bytes (files file) is.0 bytes is.1 holds in
      subst (λ (x : Built). read x ≡ r) (same_ok is.2.0 b (sym is.2.1 ∙ ap built_of same ∙ accepted)) is.2.2

  no_fault : (r : Result X Fault) → Reads r → (f : Fault) → first_fault bytes ≡ Some f → ⊥
  no_fault r is f first = none_some f (sym (accepted_built is.0 is.2.0 is.2.1) ∙ ap first_fault (same_bytes (files file) is.0 bytes is.1 holds) ∙ first)

  not_both : (x : X) (f : Fault) (r : Result X Fault) → r ≡ Ok x → r ≡ Err f → ⊥
  not_both x f r a b = let e : Ok x ≡ Err f = sym a ∙ b in cc e

  module _ (request : Option Request) (line : (status : Status) (text : List ℕ) → line_of status ≡ Some text → Causes request (Some files) reads stores writes status → status_code status ≡ 7) (refusal : ℕ) where
    pub table_meant : ((text : List ℕ) → IsAnswer request (Some files) text → (own : List ℕ) × (files file ≡ Some own) × ((b : Built) × (built_of own ≡ Ok b) × ((x : X) × (read b ≡ Ok x)))) → ((text : List ℕ) → IsRefusal request (Some files) text → (own : List ℕ) × (files file ≡ Some own) × IsRefusalOf own text) →
        ((table : RefusedTable) (text : List ℕ) → IsTableRefusal request table (Some files) text → (status_code (TableRefused table) ≡ refusal) × ((f : Fault) × Reads (Err f))) → ((text : List ℕ) → IsIndexRefusal request (Some files) text → ⊥) → (status : Status) → Plain request (Some files) reads stores writes old new status → IsTableMeant bytes read refusal (status_code status)
    table_meant said wrong table index status (answers w) =
        let a = said w.0 w.1 in
        let is : Reads (Ok a.2.2.0) = (a.0, a.1, (a.2.0, a.2.1, a.2.2.1)) in
        record {
          answered = λ _. inl refl;
          table_refused = λ c. absurd (not_both a.2.2.0 c.holds.0 _ (one_table _ is c.built c.accepted) c.holds.1);
          refused = λ f first. absurd (no_fault _ is f first);
        }
    table_meant said wrong table index status (table_refuses kind w) =
        let a = table kind w.0 w.1 in
        record {
          answered = λ c. absurd (not_both c.holds.0 a.1.0 _ c.holds.1 (one_table _ a.1.1 c.built c.accepted));
          table_refused = λ _. inl a.0;
          refused = λ f first. absurd (no_fault _ a.1.1 f first);
        }
    table_meant said wrong table index status (refuses w) =
        let a = wrong w.0 w.1 in
        let faulty : first_fault bytes ≡ Some a.2.fault = ap first_fault (sym (same_bytes (files file) a.0 bytes a.1 holds)) ∙ a.2.first in
        record {
          answered = λ c. absurd (none_some a.2.fault (sym (accepted_built bytes c.built c.accepted) ∙ faulty));
          table_refused = λ c. absurd (none_some a.2.fault (sym (accepted_built bytes c.built c.accepted) ∙ faulty));
          refused = λ f first. inl refl;
        }
    table_meant said wrong table index status (index_refuses w) = absurd (index w.0 w.1)
    table_meant said wrong table index status (plain_lines text is c) = let e = line status text is c in record { answered = λ _. inr e; table_refused = λ _. inr e; refused = λ f first. inr e }
    table_meant said wrong table index status (plain_fails f) = absurd (no_write f)

-- the fault of an address table, and that of a line table
pub by_aranges : (files : Files) (file : List ℕ) (table : RefusedTable) (text : List ℕ) → IsTableRefusal (Some (OfAranges file)) table (Some files) text → (status_code (TableRefused table) ≡ 14) × ((f : Fault) × ((own : List ℕ) × (files file ≡ Some own) × ((b : Built) × (built_of own ≡ Ok b) × (sets_of b ≡ Err f))))
by_aranges files file Addresses text h = (refl, (h.3.holds.0, (h.0, h.1, (h.3.built, h.3.accepted, h.3.holds.1))))
by_aranges files file Lines text h = absurd h

pub by_lines : (files : Files) (file name : List ℕ) (table : RefusedTable) (text : List ℕ) → IsTableRefusal (Some (OfFiles file name)) table (Some files) text → (status_code (TableRefused table) ≡ 15) × ((f : Fault) × ((own : List ℕ) × (files file ≡ Some own) × ((b : Built) × (built_of own ≡ Ok b) × (found_by name b ≡ Err f))))
by_lines files file name Lines text h = (refl, (h.3.holds.0, (h.0, h.1, (h.3.built, h.3.accepted, h.3.holds.1))))
by_lines files file name Addresses text h = absurd h
