-- What jobs made, slot by slot.
use Rattle.std.proofs.Common.{◌≡◌, ◌<◌, ◌+◌, ℕ, List, [], ◌∷◌, ◌++◌, length, get_or, filter_map, drop, Option, Some, None, refl, ap, ◌∙◌, arith, sym, append_assoc}
use Rattle.std.specs.Prelude.{slice_get, slice_set}
use Rattle.std.specs.Option.{option_to_list}
use Rattle.std.specs.List.{cons_option}
use Rattle.std.proofs.lemmas.List.{at_drop_more, drop-set-lt}
use Rattle.index_model.specs.declared.entry.Entry.{Entry}
use Rattle.ix_base.specs.Reading.{◌>>=◌ as ◌>>=?◌}
use Rattle.index_model.specs.MachineEvents.{made_in}
use Rattle.index_model.specs.Outputs.{Made}
use Rattle.stage_core.specs.declared.output.Output.{Output}
use Rattle.stage_core.specs.Slots.{slot_seen, made_of_slots, made_as}
use Rattle.stage_core.specs.Inputs.{run_in}

-- ---- the next slot

taken : {A B : Type 0} (f : A → Option B) (o : Option A) (xs : List A) → filter_map f (cons_option o xs) ≡ cons_option (o >>=? f) (filter_map f xs)
taken f None xs = refl
taken f (Some x) xs = refl

pub next_made : {B : Type 0} (f : Made → Option B) (slots : List (Option Output)) (i : ℕ) (slot : Option Output) → i < length slots → slot ≡ get_or slots i slot → filter_map f (made_of_slots (drop i slots)) ≡ cons_option (made_as f slot) (filter_map f (made_of_slots (drop (i + 1) slots)))
next_made f slots i slot lt is =
    let F : List (Option Output) → List _ = λ xs. filter_map f (made_of_slots xs) in
    at_drop_more F slots i slot lt ∙ (ap (λ (x : Option Output). F (x ∷ drop (i + 1) slots)) (sym is) ∙ taken f (made_in (slot_seen slot)) (made_of_slots (drop (i + 1) slots)))

-- ---- the only slot

pub only_made : (slots : List (Option Output)) (slot : Option Output) → length slots ≡ 1 → slot ≡ get_or slots 0 slot → slice_get (made_of_slots slots) 0 ≡ made_in (slot_seen slot)
only_made [] slot one is = absurd (omega (arith, one))
only_made (x ∷ []) slot one is = first (made_in (slot_seen x)) ∙ ap (λ (x : Option Output). made_in (slot_seen x)) (sym is)
  where
    first : {A : Type 0} (o : Option A) → slice_get (cons_option o []) 0 ≡ o
    first None = refl
    first (Some x) = refl
only_made (x ∷ y ∷ rest) slot one is = absurd (omega (arith, one))

-- ---- slots that are emptied

listed : {A : Type 0} (o : Option A) (xs : List A) → cons_option o xs ≡ option_to_list o ++ xs
listed None xs = refl
listed (Some x) xs = refl

-- what the next slot holds is added
pub shared_more : {B : Type 0} (f : Made → Option B) (slots : List (Option Output)) (i : ℕ) (slot : Option Output) (old new : List B) (o : Option B) → i < length slots → slot ≡ get_or slots i slot → o ≡ made_as f slot →
    new ≡ old ++ option_to_list o → new ++ filter_map f (made_of_slots (drop (i + 1) slots)) ≡ old ++ filter_map f (made_of_slots (drop i slots))
shared_more f slots i slot old new o lt is made added =
    let rest = filter_map f (made_of_slots (drop (i + 1) slots)) in
    let next : filter_map f (made_of_slots (drop i slots)) ≡ option_to_list o ++ rest =
    next_made f slots i slot lt is ∙ (listed (made_as f slot) rest ∙ ap (λ o. option_to_list o ++ rest) (sym made)) in
    rw (added, next, append_assoc) refl

pub moved_more : (slots : List (Option Output)) (i : ℕ) (slot empty : Option Output) (runs : List (List Entry)) (o : Option (List Entry)) → i < length slots → slot ≡ get_or slots i slot → o ≡ made_as run_in slot →
    (runs ++ option_to_list o) ++ filter_map run_in (made_of_slots (drop (i + 1) (slice_set slots i empty))) ≡ runs ++ filter_map run_in (made_of_slots (drop i slots))
moved_more slots i slot empty runs o lt is made =
    let rest : List (List Entry) = filter_map run_in (made_of_slots (drop (i + 1) slots)) in
    let next : filter_map run_in (made_of_slots (drop i slots)) ≡ option_to_list o ++ rest =
    next_made run_in slots i slot lt is ∙ (listed (made_as run_in slot) rest ∙ ap (λ (o : Option (List Entry)). option_to_list o ++ rest) (sym made)) in
    let later : drop (i + 1) (slice_set slots i empty) ≡ drop (i + 1) slots = drop-set-lt (i + 1) slots i empty (omega arith) in
    rw (later, next, append_assoc) refl
