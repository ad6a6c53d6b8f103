-- Pieces of halves, and of the whole.
use Rattle.std.proofs.Common.{◌≡◌, ℕ, List, [], ◌++◌, take, drop, Option, refl, ap, sym, subst, ◌∙◌}
use Rattle.std.proofs.lemmas.List.{take-append-drop}
use Rattle.index_model.specs.declared.range.UnitRange.{UnitRange}
use Rattle.index_model.specs.Ranges.{unit_at}
use Rattle.index_model.specs.Pieces.{IsPieces, pieces}
use Rattle.index_model.proofs.PieceLaws.{pieces_are, pieces_unique}
use Rattle.address_map.proofs.UnitAt.{or_else, unit_at-append}

-- pieces of pieces of two lists are pieces of both
pub joined_halves : (xs ys ps qs both : List UnitRange) → IsPieces xs ps → IsPieces ys qs → IsPieces (ps ++ qs) both → IsPieces (xs ++ ys) both
joined_halves xs ys ps qs both first second laid = record {
  apart = laid.apart;
  same = λ a. laid.same a ∙ unit_at-append ps qs a ∙ ap (λ (o : Option ℕ). or_else o (unit_at qs a)) (first.same a) ∙ ap (or_else (unit_at xs a)) (second.same a) ∙ sym (unit_at-append xs ys a);
}

pub of_halves : (ranges : List UnitRange) (k : ℕ) (ps qs both : List UnitRange) → IsPieces (take k ranges) ps → IsPieces (drop k ranges) qs → IsPieces (ps ++ qs) both → IsPieces ranges both
of_halves ranges k ps qs both first second laid =
    subst (λ (xs : List UnitRange). IsPieces xs both) (take-append-drop k ranges) (joined_halves (take k ranges) (drop k ranges) ps qs both first second laid)

pub no_ranges : IsPieces [] []
no_ranges = record { apart = tt; same = λ a. refl }

-- there are no other pieces than those that the definition computes
pub are_the_pieces : (ranges ps : List UnitRange) → IsPieces ranges ps → ps ≡ pieces ranges
are_the_pieces ranges ps is =
    let own = pieces_are ranges in
    pieces_unique ps (pieces ranges) is.apart own.apart (λ a. is.same a ∙ sym (own.same a))
