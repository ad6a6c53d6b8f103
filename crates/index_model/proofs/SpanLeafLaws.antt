-- What leaves of spans say stays as it is while spans are added aside.
use Rattle.std.specs.Prelude.{◌≡◌, ℕ, zero, suc, true, false, List, [], ◌∷◌, ◌++◌, length, map, All, slice_get, slice_index_or, slice_set, Some, None}
use Rattle.std.proofs.Common.{arith, refl, length-append}
use Rattle.std.proofs.lemmas.List.{map-append, get_or_append_left}
use Rattle.std.proofs.lemmas.Option.{slice_get-get_or}
use Rattle.std.proofs.Math.Seq.{get_or-append_seam}
use Rattle.index_model.specs.declared.shard.Span.{Span}
use Rattle.index_model.specs.declared.span_leaf.SpanLeaf.{SpanLeaf}
use Rattle.index_model.specs.Searches.{ended_at}
use Rattle.index_model.specs.SpanLeaves.{span_alone, span_in, IsSpanInside}

-- a span that lies aside is the one with its index
pub of_aside : (whole : List Span) (l : SpanLeaf) (d : Span) → l.aside ≡ true → IsSpanInside whole l → slice_get whole l.entry ≡ Some (slice_index_or whole l.entry d)
of_aside whole l d e inside = slice_get-get_or whole l.entry d (inside e)

-- a leaf that stands by itself
alone_says : (whole : List Span) (l : SpanLeaf) → l.aside ≡ false → span_in whole l ≡ span_alone l
unfolding span_in
alone_says whole l e = rw e refl

-- a leaf of a span that lies aside
aside_says : (whole : List Span) (l : SpanLeaf) (s : Span) → l.aside ≡ true → slice_get whole l.entry ≡ Some s → span_in whole l ≡ s
unfolding span_in
aside_says whole l s e there = rw (e, there) refl

-- a leaf says the same when a span is added aside
one_grows : (whole : List Span) (s : Span) (l : SpanLeaf) → IsSpanInside whole l → span_in (whole ++ s ∷ []) l ≡ span_in whole l
one_grows whole s l inside = elim (l.aside) as (λ b. l.aside ≡ b → span_in (whole ++ s ∷ []) l ≡ span_in whole l) [
  | false ↦ λ e.
      let before = alone_says whole l e in
      let after = alone_says (whole ++ s ∷ []) l e in
      cc
  | true ↦ λ e.
      let d = slice_index_or whole l.entry s in
      let same = get_or_append_left whole (s ∷ []) s l.entry (inside e) in
      let there = slice_get-get_or (whole ++ s ∷ []) l.entry s (omega (arith, inside e, length-append whole (s ∷ []))) in
      let before = aside_says whole l d e (slice_get-get_or whole l.entry s (inside e)) in
      let after = aside_says (whole ++ s ∷ []) l d e (cc) in
      cc
] refl

-- all do
grows : (whole : List Span) (s : Span) (ls : List SpanLeaf) → All (IsSpanInside whole) ls → map (span_in (whole ++ s ∷ [])) ls ≡ map (span_in whole) ls
grows whole s [] h = refl
grows whole s (l ∷ ls) h =
    let first = one_grows whole s l (h 0 l (omega arith)) in
    let others = grows whole s ls (λ k d lt. h (suc k) d (omega arith)) in
    cc

-- the span that was added last lies behind the others
last_says : (whole : List Span) (s : Span) (l : SpanLeaf) → l.aside ≡ true → l.entry ≡ length whole → span_in (whole ++ s ∷ []) l ≡ s
last_says whole s l aside last =
    let there = slice_get-get_or (whole ++ s ∷ []) l.entry s (omega (arith, last, length-append whole (s ∷ []))) in
    let seam = get_or-append_seam whole s [] s in
    aside_says (whole ++ s ∷ []) l s aside (cc)

-- a leaf that stands by itself is added
pub added_alone : (whole : List Span) (ls : List SpanLeaf) (l : SpanLeaf) (s : Span) → l.aside ≡ false → span_alone l ≡ s → map (span_in whole) (ls ++ l ∷ []) ≡ map (span_in whole) ls ++ s ∷ []
added_alone whole ls l s alone says =
    let parts = map-append (span_in whole) ls (l ∷ []) in
    let last = alone_says whole l alone in
    cc

-- a span is added aside, with its leaf
pub added_aside : (whole : List Span) (s : Span) (ls : List SpanLeaf) (l : SpanLeaf) → All (IsSpanInside whole) ls → l.aside ≡ true → l.entry ≡ length whole → map (span_in (whole ++ s ∷ [])) (ls ++ l ∷ []) ≡ map (span_in whole) ls ++ s ∷ []
added_aside whole s ls l h aside last =
    let parts = map-append (span_in (whole ++ s ∷ [])) ls (l ∷ []) in
    let same = grows whole s ls h in
    let says = last_says whole s l aside last in
    cc

-- ---- ends

-- where there is no span, none ends
pub ended_none : (ss : List Span) (k after : ℕ) → slice_get ss k ≡ None → ended_at ss k after ≡ ss
ended_none [] k after e = refl
ended_none (s ∷ ss) zero after e = absurd (cc)
ended_none (s ∷ ss) (suc k) after e = let others = ended_none ss k after e in cc

-- a span with another end takes the place of the one at the index
replaced : (f g : SpanLeaf → Span) (ls : List SpanLeaf) (k after : ℕ) (l : SpanLeaf) (s : Span) → map g ls ≡ map f ls → slice_get (map f ls) k ≡ Some s → g l ≡ record s { to = after } → map g (slice_set ls k l) ≡ ended_at (map f ls) k after
replaced f g [] k after l s same there says = absurd (cc)
replaced f g (x ∷ ls) zero after l s same there says = cc
replaced f g (x ∷ ls) (suc k) after l s same there says =
    let others = replaced f g ls k after l s (cc) there says in
    cc

-- a leaf that stands by itself takes the place of another
pub ended_alone : (whole : List Span) (ls : List SpanLeaf) (k after : ℕ) (l : SpanLeaf) (s : Span) → slice_get (map (span_in whole) ls) k ≡ Some s → l.aside ≡ false → span_alone l ≡ record s { to = after } → map (span_in whole) (slice_set ls k l) ≡ ended_at (map (span_in whole) ls) k after
ended_alone whole ls k after l s there alone says =
    let own = alone_says whole l alone in
    replaced (span_in whole) (span_in whole) ls k after l s refl there (cc)

-- a leaf of a span that was added aside takes the place of another
pub ended_aside : (whole : List Span) (ls : List SpanLeaf) (k after : ℕ) (l : SpanLeaf) (s t : Span) → All (IsSpanInside whole) ls → slice_get (map (span_in whole) ls) k ≡ Some s → l.aside ≡ true → l.entry ≡ length whole → t ≡ record s { to = after } → map (span_in (whole ++ t ∷ [])) (slice_set ls k l) ≡ ended_at (map (span_in whole) ls) k after
ended_aside whole ls k after l s t h there aside last is =
    let own = last_says whole t l aside last in
    replaced (span_in whole) (span_in (whole ++ t ∷ [])) ls k after l s (grows whole t ls h) there (cc)
