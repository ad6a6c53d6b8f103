use Rattle.std.proofs.Common.{◌≡◌, ℕ, length, subst, arith}
use Rattle.outside.specs.Files.{ReadsPiece}
use Rattle.command_base.proofs.FileReads.{first_more, all_held}
use Rattle.cached_command.proofs.kept.read_on.Goals as goal

pub returns-clause-first : goal.returns-clause-first
returns-clause-first g c = λ first.
    let at : c.len.result ≡ length c.args.bytes.now.items = omega arith in
    let piece = subst (λ (k : ℕ). ReadsPiece (g.F.Shelf.files c.args.shelf.now) c.args.name.now k c.args.piece.now c.read_kept.new.into c.in-Ok.count) at c.in-Ok.ensures.piece in
    rw c.in_ok-extend_from_slice.ensures.items (first_more c.args.bytes.now.items c.args.piece.now c.read_kept.new.into c.in-Ok.count (g.F.Shelf.files c.args.shelf.now) c.args.name.now (omega (arith, c.in-Ok.ensures.within)) piece first)

pub returns-clause-end : goal.returns-clause-end
returns-clause-end g c = λ none first.
    let at : c.len.result ≡ length c.args.bytes.now.items = omega arith in
    let piece = subst (λ (k : ℕ). ReadsPiece (g.F.Shelf.files c.args.shelf.now) c.args.name.now k c.args.piece.now c.read_kept.new.into c.in-Ok.count) at c.in-Ok.ensures.piece in
    rw c.in_ok-extend_from_slice.ensures.items (all_held c.args.bytes.now.items c.args.piece.now c.read_kept.new.into c.in-Ok.count (g.F.Shelf.files c.args.shelf.now) c.args.name.now c.requires none piece first)
