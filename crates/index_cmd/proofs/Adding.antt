-- What becomes of a program to which its index is to be added: one thing alone.
use Rattle.std.proofs.Common.{◌≡◌, inl, inr, ℕ, true, false, List, Some, None, refl, sym, ap, subst, ◌∙◌}
use Rattle.std.specs.Prelude.{⊤}
use Rattle.ix_base.specs.declared.fault.Fault.{Fault}
use Rattle.index_forms.specs.Forms.{kind_of}
use Rattle.index_forms.specs.declared.form.IndexForm.{IndexForm}
use Rattle.index_model.specs.Sections.{Section}
use Rattle.index_model.specs.Cache.{Cache}
use Rattle.gdb_index.specs.Indexes.{index_in}
use Rattle.index_model.specs.Faults.{Built, first_fault}
use Rattle.index_model.proofs.Meanings.{same_ok}
use Rattle.reach_model.specs.AddedIndex.{addition_of}
use Rattle.store_commands.specs.Adds.{ForProgram, HasIndex, HasNoRoom, HasTooLarge, IsAddMeant, OfAdded}
use Rattle.index_cmd.proofs.Outcomes.{accepted_built, none_some}

-- no test gives both
two_ways : true ≡ false → ⊥
two_ways e = cc e

module _ (file : List ℕ) (form : IndexForm) where
  -- of one program no two things hold that exclude each other
  not_both : (P Q : List ℕ → List Section → Cache → Type 0) → ((ss : List Section) (cache : Cache) → P file ss cache → Q file ss cache → ⊥) → ForProgram file form P → ForProgram file form Q → ⊥
  not_both P Q apart p q =
      let same : q.built ≡ p.built = same_ok q.built p.built (sym q.accepted ∙ p.accepted) in
      apart p.built.program.sections (index_in form p.built) p.holds (subst (λ (b : Built). Q file b.program.sections (index_in form b)) same q.holds)

  -- a program with a fault is none
  no_fault : (P : List ℕ → List Section → Cache → Type 0) (f : Fault) → ForProgram file form P → first_fault file ≡ Some f → ⊥
  no_fault P f p first = none_some f (sym (accepted_built file p.built p.accepted) ∙ first)

  indexed_crowded : ForProgram file form (HasIndex (kind_of form)) → ForProgram file form (HasNoRoom (kind_of form)) → ⊥
  indexed_crowded p q = not_both (HasIndex (kind_of form)) (HasNoRoom (kind_of form)) (λ ss cache a b. two_ways (sym a ∙ b.0)) p q

  indexed_large : ForProgram file form (HasIndex (kind_of form)) → ForProgram file form (HasTooLarge (kind_of form)) → ⊥
  indexed_large p q = not_both (HasIndex (kind_of form)) (HasTooLarge (kind_of form)) (λ ss cache a b. two_ways (sym a ∙ b.0.0)) p q

  crowded_large : ForProgram file form (HasNoRoom (kind_of form)) → ForProgram file form (HasTooLarge (kind_of form)) → ⊥
  crowded_large p q = not_both (HasNoRoom (kind_of form)) (HasTooLarge (kind_of form)) (λ ss cache a b. two_ways (sym a.1 ∙ b.0.1)) p q

  module _ (P : List ℕ → Type 0) where
    indexed_added : ForProgram file form (HasIndex (kind_of form)) → ForProgram file form (OfAdded (kind_of form) P) → ⊥
    indexed_added p q = not_both (HasIndex (kind_of form)) (OfAdded (kind_of form) P) (λ ss cache a b. two_ways (sym a ∙ b.0.0)) p q

    crowded_added : ForProgram file form (HasNoRoom (kind_of form)) → ForProgram file form (OfAdded (kind_of form) P) → ⊥
    crowded_added p q = not_both (HasNoRoom (kind_of form)) (OfAdded (kind_of form) P) (λ ss cache a b. two_ways (sym a.1 ∙ b.0.1)) p q

    large_added : ForProgram file form (HasTooLarge (kind_of form)) → ForProgram file form (OfAdded (kind_of form) P) → ⊥
    large_added p q = not_both (HasTooLarge (kind_of form)) (OfAdded (kind_of form) P) (λ ss cache a b. let e : None ≡ Some b.1.0 = ap addition_of (sym a.1) ∙ b.1.1 in cc e) p q

  -- ---- the status that is meant

  pub short_of_memory : IsAddMeant file form 7
  short_of_memory = record { indexed = λ q. inr refl; crowded = λ q. inr refl; too_large = λ q. inr refl; stored = λ q. inr refl; refused = λ f first. inr refl }

  pub when_indexed : ForProgram file form (HasIndex (kind_of form)) → IsAddMeant file form 12
  when_indexed p = record {
    indexed = λ q. inl refl;
    crowded = λ q. absurd (indexed_crowded p q);
    too_large = λ q. absurd (indexed_large p q);
    stored = λ q. absurd (indexed_added (λ bytes. ⊤) p q);
    refused = λ f first. absurd (no_fault (HasIndex (kind_of form)) f p first);
  }

  pub when_crowded : ForProgram file form (HasNoRoom (kind_of form)) → IsAddMeant file form 13
  when_crowded p = record {
    indexed = λ q. absurd (indexed_crowded q p);
    crowded = λ q. inl refl;
    too_large = λ q. absurd (crowded_large p q);
    stored = λ q. absurd (crowded_added (λ bytes. ⊤) p q);
    refused = λ f first. absurd (no_fault (HasNoRoom (kind_of form)) f p first);
  }

  pub when_too_large : ForProgram file form (HasTooLarge (kind_of form)) → IsAddMeant file form 9
  when_too_large p = record {
    indexed = λ q. absurd (indexed_large q p);
    crowded = λ q. absurd (crowded_large q p);
    too_large = λ q. inl refl;
    stored = λ q. absurd (large_added (λ bytes. ⊤) p q);
    refused = λ f first. absurd (no_fault (HasTooLarge (kind_of form)) f p first);
  }

  pub when_stored : (P : List ℕ → Type 0) → ForProgram file form (OfAdded (kind_of form) P) → IsAddMeant file form 0
  when_stored P p = record {
    indexed = λ q. absurd (indexed_added P q p);
    crowded = λ q. absurd (crowded_added P q p);
    too_large = λ q. absurd (large_added P q p);
    stored = λ q. inl refl;
    refused = λ f first. absurd (no_fault (OfAdded (kind_of form) P) f p first);
  }

  pub when_refused : (f : Fault) → first_fault file ≡ Some f → IsAddMeant file form 1
  when_refused f is = record {
    indexed = λ q. absurd (no_fault (HasIndex (kind_of form)) f q is);
    crowded = λ q. absurd (no_fault (HasNoRoom (kind_of form)) f q is);
    too_large = λ q. absurd (no_fault (HasTooLarge (kind_of form)) f q is);
    stored = λ q. absurd (no_fault (OfAdded (kind_of form) (λ bytes. ⊤)) f q is);
    refused = λ g first. inl refl;
  }
