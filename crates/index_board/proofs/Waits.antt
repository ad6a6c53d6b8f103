-- A reader that makes marks, one after the other.
use Rattle.std.proofs.Common.{◌≡◌, ◌++◌, ◌∷◌, [], ℕ, List, ap, sym, subst, ◌∙◌, append_assoc, append-nil}
use Rattle.index_model.proofs.StageLaws.{closure}
use Rattle.index_board.specs.Marks.{AreMarks, IsMark, floor_after, marked}
use Rattle.index_board.specs.Readers.{Reader}
use Rattle.index_board.proofs.MarkLaws.{floor_after_more, marks_lead, marks_more}

-- the reader once it has made these marks, and has this floor
abbrev gone : Reader → List ℕ → ℕ → Reader
gone r gained floor = record r { pass = record r.pass { marks = r.pass.marks ++ gained; floor = floor } }

-- some marks lead from one reader to the other
abbrev pub Goes : Reader → Reader → Type 0
Goes r n = (gained : List ℕ) × AreMarks r.board.subject r.pass.floor gained × (n ≡ gone r gained (floor_after r.pass.floor gained))

module _ (r : Reader) where
  pub stays : Goes r r
  stays = ([], tt, ap (λ (marks : List ℕ). record r { pass = record r.pass { marks = marks; floor = r.pass.floor } }) (sym (append-nil r.pass.marks)))

  module _ (l : Reader) (goes : Goes r l) (s : ℕ) (mark : IsMark l s) where
    -- the mark, by what the first reader knows
    here : IsMark (gone r goes.0 (floor_after r.pass.floor goes.0)) s
    here = subst (λ (x : Reader). IsMark x s) goes.2 mark

    -- the marks so far, and this one
    pub each_mark : AreMarks r.board.subject r.pass.floor (goes.0 ++ s ∷ [])
    each_mark = marks_more r.board.subject r.pass.floor goes.0 (s ∷ []) goes.1 (here.reach, here.range, here.fits, tt)

    one_more : marked l s ≡ gone r (goes.0 ++ s ∷ []) s
    one_more =
        ap (λ (x : Reader). marked x s) goes.2
        ∙ ap (λ (marks : List ℕ). record r { pass = record r.pass { marks = marks; floor = s } }) (append_assoc r.pass.marks goes.0 (s ∷ []))

    -- the reader, with the floor that the marks lead to
    at_floor : gone r (goes.0 ++ s ∷ []) s ≡ gone r (goes.0 ++ s ∷ []) (floor_after r.pass.floor (goes.0 ++ s ∷ []))
    at_floor = ap (gone r (goes.0 ++ s ∷ [])) (sym (floor_after_more r.pass.floor goes.0 (s ∷ [])))

    pub goes_on : (n : Reader) → n ≡ marked l s → Goes r n
    goes_on n is = (goes.0 ++ s ∷ [], each_mark, is ∙ one_more ∙ at_floor)

    -- the marks that are told at the end
    pub marks_made : (n : Reader) → n ≡ marked l s → (gained : List ℕ) × AreMarks r.board.subject r.pass.floor (gained ++ s ∷ []) × (n ≡ gone r (gained ++ s ∷ []) s)
    marks_made n is = (goes.0, each_mark, is ∙ one_more)

    pub last_mark : IsMark r s
    last_mark = record {
      reach = closure.onwards r.pass.floor (floor_after r.pass.floor goes.0) s (marks_lead r.board.subject r.pass.floor goes.0 goes.1) here.reach;
      range = here.range;
      fits = here.fits;
    }
