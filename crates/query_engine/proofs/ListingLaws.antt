-- A name more with its entries.
use Rattle.std.proofs.Common.{◌≡◌, ℕ, Bool, List, [], ◌∷◌, ◌++◌, length, sym, ap, ◌∙◌, arith}
use Rattle.std.specs.Prelude.{flat_map}
use Rattle.std.proofs.lemmas.List.{map-append}
use Rattle.std.proofs.lemmas.List.Elements.{All-push}
use Rattle.index_model.specs.declared.entry.Entry.{Entry}
use Rattle.index_model.specs.Answers.{places}
use Rattle.query_engine.specs.declared.listing.ListedName.{ListedName}
use Rattle.query_engine.specs.declared.listing.ListedNames.{ListedNames}
use Rattle.query_engine.specs.Listed.{names_of, AddsName, HaveEntriesBy, IsEmpty}
use Rattle.query_engine.proofs.OrderLaws.{flat_push}

pub names_added : (name ps : List ℕ) (old new : ListedNames) → AddsName name ps old new → names_of new.names.items ≡ names_of old.names.items ++ name ∷ []
names_added name ps old new a =
    ap names_of a.names ∙ map-append (λ (n : ListedName). n.name.now) old.names.items (a.own ∷ [])
    ∙ ap (λ (w : List ℕ). names_of old.names.items ++ w ∷ []) a.name_is

module _ (test : List ℕ → Entry → Bool) (es : List Entry) where
  abbrev under : List ℕ → List ℕ
  under t = places (test t) es

  abbrev IsCounted : ListedName → Type 0
  IsCounted n = n.count ≡ length (places (test n.name.now) es)

  pub entries_added : (name : List ℕ) (old new : ListedNames) → HaveEntriesBy test es old → AddsName name (places (test name) es) old new → HaveEntriesBy test es new
  entries_added name old new h a = record {
    counts = rw a.names (All-push IsCounted old.names.items a.own h.counts (a.count_is ∙ ap (λ (w : List ℕ). length (under w)) (sym a.name_is)));
    are = a.places ∙ ap (λ (w : List ℕ). w ++ under name) h.are ∙ sym (flat_push under (names_of old.names.items) name)
        ∙ ap (flat_map under) (sym (names_added name (under name) old new a));
  }

  pub entries_none : (l : ListedNames) → IsEmpty l → HaveEntriesBy test es l
  entries_none l e = record {
    counts = rw e.names (λ k d lt. absurd (omega arith));
    are = e.places ∙ sym (ap (λ (w : List ListedName). flat_map under (names_of w)) e.names);
  }
