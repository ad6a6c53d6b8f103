-- Marks that a reader gains, one after the other.
use Rattle.std.proofs.Common.{◌≡◌, ℕ, ◌++◌, List, [], ◌∷◌, Bool, true, false, refl, sym, ap, ◌∙◌, subst, ⊎_elim, append_assoc, append-nil}
use Rattle.std.specs.Prelude.{◌⊎◌}
use Rattle.index_model.specs.Outputs.{Subject}
use Rattle.index_model.specs.Parts.{parts}
use Rattle.index_model.specs.Queries.{Query}
use Rattle.index_board.specs.Kept.{Keeps}
use Rattle.index_board.specs.LookUps.{ByKept, InTurn, OneMark}
use Rattle.index_board.specs.Marks.{AreMarks, floor_after}
use Rattle.index_board.specs.Readers.{Reader}
use Rattle.index_board.proofs.KeepLaws.{keeps_all, keeps_filled, keeps_more}
use Rattle.index_board.proofs.MarkLaws.{floor_after_more, marks_more}
use Rattle.query_text.specs.Gains.{Gains}

-- no mark
pub gains_none : (r : Reader) → Gains r r []
gains_none r = record { board = refl; share = refl; marks_made = sym (append-nil r.pass.marks); floor = refl; each = tt; kept = keeps_all r.kept }

-- marks, and then more
pub gains_more : (a b c : Reader) (ms ns : List ℕ) → Gains a b ms → Gains b c ns → Gains a c (ms ++ ns)
gains_more a b c ms ns p q =
    let here : AreMarks b.board.subject (floor_after a.pass.floor ms) ns = subst (λ (f : ℕ). AreMarks b.board.subject f ns) p.floor q.each in
    let each : AreMarks a.board.subject (floor_after a.pass.floor ms) ns = subst (λ (s : Subject). AreMarks s (floor_after a.pass.floor ms) ns) (ap (λ l. l.subject) p.board) here in
    record {
      board = q.board ∙ p.board;
      share = q.share ∙ p.share;
      marks_made = q.marks_made ∙ ap (λ (l : List ℕ). l ++ ns) p.marks_made ∙ append_assoc a.pass.marks ms ns;
      floor = q.floor ∙ ap (λ (f : ℕ). floor_after f ns) p.floor ∙ sym (floor_after_more a.pass.floor ms ns);
      each = marks_more a.board.subject a.pass.floor ms ns p.each each;
      kept = keeps_more a.kept b.kept c.kept p.kept q.kept;
    }

-- a look-up within a turn leaves the share
share_in_turn : (old : Reader) (q : Query) (s : ℕ) (shared : Bool) (new : Reader) → InTurn old q s shared new → new.pass.share ≡ old.pass.share
share_in_turn old q s shared new t = ap (λ p. p.share) t.turn.pass

-- and the parts that were kept
kept_in_turn : (old : Reader) (q : Query) (s : ℕ) (shared : Bool) (new : Reader) → InTurn old q s shared new → Keeps old.kept new.kept
kept_in_turn old q s true new t = subst (Keeps old.kept) (sym t.parts_kept) (keeps_filled old.kept (parts t.machine.state))
kept_in_turn old q s false new t = subst (Keeps old.kept) (sym t.parts_kept) (keeps_all old.kept)

-- exactly one mark was made
one_gain : (old : Reader) (s : ℕ) (new : Reader) (Way : Type 0) → OneMark old s new Way → new.pass.share ≡ old.pass.share → Keeps old.kept new.kept → Gains old new (s ∷ [])
one_gain old s new Way m share kept = record {
  board = m.board;
  share = share;
  marks_made = m.marks;
  floor = m.floor;
  each = (m.mark.reach, m.mark.range, m.mark.fits, tt);
  kept = kept;
}

-- the mark of a look-up within a turn that was refused memory
pub gains_in_turn : (old : Reader) (q : Query) (s : ℕ) (new : Reader) → OneMark old s new (InTurn old q s false new) → Gains old new (s ∷ [])
gains_in_turn old q s new m = one_gain old s new (InTurn old q s false new) m (share_in_turn old q s false new m.way) (kept_in_turn old q s false new m.way)

-- the mark of a look-up
pub gains_one : (old : Reader) (q : Query) (s : ℕ) (new : Reader) → OneMark old s new (ByKept old q s new ⊎ InTurn old q s true new) → Gains old new (s ∷ [])
gains_one old q s new m =
    one_gain old s new (ByKept old q s new ⊎ InTurn old q s true new) m (⊎_elim (λ (k : ByKept old q s new). ap (λ (r : Reader). r.pass.share) k.reader) (λ (t : InTurn old q s true new). share_in_turn old q s true new t) m.way)
    (⊎_elim (λ (k : ByKept old q s new). subst (λ (r : Reader). Keeps old.kept r.kept) (sym k.reader) (keeps_all old.kept)) (λ (t : InTurn old q s true new). kept_in_turn old q s true new t) m.way)
