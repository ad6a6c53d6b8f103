use Rattle.std.proofs.Common.{ap, ◌∙◌, sym, Some, length}
use Rattle.std.specs.Option.{option_map}
use Rattle.outside.specs.Counts.{one_more}
use Rattle.outside.specs.MemShelves.{shelf_calls}
use Rattle.outside.proofs.ShelfLaws.{piece_count-some, piece_count-none, piece_count-planned}
use Rattle.outside.proofs.mem_shelf.MemShelfShelf.read_at.Goals as goal
use Rattle.outside.proofs.mem_shelf.MemShelfShelf.read_at.Goals.{in_default-via-in-Some+else-not-fails, in_default-via-in_default}

pub returns-in-Some-clause-answer : goal.returns-in-Some-clause-answer
returns-in-Some-clause-answer c =
    let calls = shelf_calls c.args.self.now in
    piece_count-some calls.failing_reads (one_more calls.reads) _ c.as_slice.result.now _ _ _ _ _ _
    c.deref.ensures.value c.saturating_add-self.ensures c.contains-fails.ensures.value c.if-not-fails.true
    (ap (option_map (λ v. v.items)) (sym c.in-Some.ensures.value) ∙ ap Some (sym c.as_slice.ensures.value))
    c.copy_piece.ensures.count

pub returns-in_default-clause-answer : goal.returns-in_default-clause-answer
returns-in_default-clause-answer c =
    let calls = shelf_calls c.args.self.now in
    elim c.in_default.branch [
      | in_default-via-in-Some+else-not-fails w ↦
          piece_count-planned calls.failing_reads (one_more calls.reads) _ w.in-Some.bytes.now.items _ _ _ _ _
          c.deref.ensures.value c.saturating_add-self.ensures c.contains-fails.ensures.value w.if-not-fails.false
          (ap (option_map (λ v. v.items)) (sym w.in-Some.ensures.value))
      | in_default-via-in_default w ↦
          piece_count-none calls.failing_reads (one_more calls.reads) _ c.args.at (length c.args.into.now) (ap (option_map (λ v. v.items)) (sym w.in_default.ensures.value))
    ]
