-- Lists of ranges, entry by entry.
use Rattle.std.proofs.Common.{◌≡◌, ℕ, zero, suc, ◌+◌, ◌<◌, ◌≤◌, Bool, true, false, cond, List, [], ◌∷◌, ◌++◌, append_assoc, length, drop, filter, min, length-drop, Some, None, Result, Ok, Err, refl, ap, sym, ◌∙◌, arith, ⊎_elim}
use Rattle.std.proofs.lemmas.List.{drop_all}
use Rattle.std.proofs.lemmas.Bool.{cases_lt, eq-eqb, ne_eqb}
use Rattle.ix_base.specs.declared.code.TheConstants.{BAD_RANGE}
use Rattle.ix_base.specs.Reading.{Input}
use Rattle.index_model.specs.declared.range.Range.{Range}
use Rattle.index_model.specs.Meaning.{◌>>=◌}
use Rattle.index_model.specs.Sections.{Section}
use Rattle.index_model.specs.Forms.{Offset, RangeIndex}
use Rattle.index_model.specs.Program.{Walked}
use Rattle.index_model.specs.RangeLists.{ListEntry, End, Base, Bounds, Offsets, EntryReader, with_entry, list_from, list_at, pair_at, kind_at, list_offset, list_of, top}
use Rattle.index_model.specs.Ranges.{is_kept}
use Rattle.range_lists.specs.declared.list_entry.ListFormat.{ListFormat}
use Rattle.range_lists.specs.declared.list_entry.ListFormat.TheVariants.{Pairs, Kinds}
use Rattle.range_lists.specs.Lists.{reader_for, lists_in, kept, range_in, base_behind, capped}
use Rattle.range_lists.proofs.Entries.{Takes, entry_takes}

-- these ranges, and those of the meaning
abbrev pub before : {E : Type 0} → List Range → Result (List Range) E → Result (List Range) E
before front ranges = ranges >>= λ rs. Ok (front ++ rs)

abbrev given : List Range → Result (List Range) ℕ
given rs = Ok rs

-- a range before others
one_more : (r : Range) (more : Result (List Range) ℕ) → kept (more >>= λ rs. Ok (r ∷ rs)) ≡ before (filter is_kept (r ∷ [])) (kept more)
one_more r (Ok rs) = by (is_kept r)
  where
    by : (b : Bool) → given (cond b (r ∷ filter is_kept rs) (filter is_kept rs)) ≡ given (cond b (r ∷ []) [] ++ filter is_kept rs)
    by true = refl
    by false = refl
one_more r (Err e) = refl

none_more : (more : Result (List Range) ℕ) → more ≡ before [] more
none_more (Ok rs) = refl
none_more (Err e) = refl

-- an entry behind which the list goes on
goes_on : (e : ListEntry) (base next : ℕ) (later : ℕ → Result (List Range) ℕ) → base_behind e base ≡ Some next → kept (with_entry e base later) ≡ before (range_in e base) (kept (later next))
goes_on End base next later is = absurd cc
goes_on (Base b) base next later is = let same : b ≡ next = cc in ap (λ (k : ℕ). kept (later k)) same ∙ none_more (kept (later next))
goes_on (Bounds low end) base next later is = let same : base ≡ next = cc in one_more (record { low = low; end = end }) (later base) ∙ ap (λ (k : ℕ). before (range_in (Bounds low end) base) (kept (later k))) same
goes_on (Offsets low end) base next later is = let same : base ≡ next = cc in one_more (record { low = base + low; end = base + end }) (later base) ∙ ap (λ (k : ℕ). before (range_in (Offsets low end) base) (kept (later k))) same

ends : (e : ListEntry) (base : ℕ) (later : ℕ → Result (List Range) ℕ) → base_behind e base ≡ None → with_entry e base later ≡ Ok []
ends End base later is = refl
ends (Base b) base later is = absurd cc
ends (Bounds low end) base later is = absurd cc
ends (Offsets low end) base later is = absurd cc

pub before_both : {E : Type 0} (xs ys : List Range) (more : Result (List Range) E) → before xs (before ys more) ≡ before (xs ++ ys) more
before_both {E = E} xs ys (Ok rs) = ap {B = Result (List Range) E} (λ (us : List Range). Ok us) (sym (append_assoc xs ys rs))
before_both xs ys (Err e) = refl

module _ (read : EntryReader) (n base : ℕ) (i : Input) where
  pub list_more : (e : ListEntry) (left : Input) (next : ℕ) → read i ≡ Ok (e, left) → base_behind e base ≡ Some next → kept (list_from (suc n) read base i) ≡ before (range_in e base) (kept (list_from n read next left))
  unfolding list_from
  list_more e left next is on =
      ap (λ (r : Result (ListEntry × Input) ℕ). kept (r >>= λ e. with_entry e.0 base (λ b. list_from n read b e.1))) is ∙
      goes_on e base next (λ b. list_from n read b left) on

  pub list_ends : (e : ListEntry) (left : Input) → read i ≡ Ok (e, left) → base_behind e base ≡ None → kept (list_from (suc n) read base i) ≡ Ok []
  unfolding list_from
  list_ends e left is off =
      ap (λ (r : Result (ListEntry × Input) ℕ). kept (r >>= λ e. with_entry e.0 base (λ b. list_from n read b e.1))) is ∙
      ap kept (ends e base (λ b. list_from n read b left) off)

  pub list_cut : (code : ℕ) → read i ≡ Err code → kept (list_from (suc n) read base i) ≡ Err code
  unfolding list_from
  list_cut code is = ap (λ (r : Result (ListEntry × Input) ℕ). kept (r >>= λ e. with_entry e.0 base (λ b. list_from n read b e.1))) is

-- ---- places

left_less : (i j : Input) → Takes i j → length j.rest < length i.rest
left_less i j t = omega (arith, t.1, t.2.there, ap (λ (k : Input). length k.rest) t.2.on, length-drop t.0 i.rest)

from_nothing : (format : ListFormat) (ss : List Section) (w : Walked) (n base place : ℕ) → list_from n (reader_for format ss w) base (record { at = place; rest = [] }) ≡ Err BAD_RANGE
unfolding list_from pair_at kind_at
from_nothing Pairs ss w zero base place = refl
from_nothing Pairs ss w (suc n) base place = refl
from_nothing Kinds ss w zero base place = refl
from_nothing Kinds ss w (suc n) base place = refl

pub list_out : (format : ListFormat) (ss : List Section) (w : Walked) (n base : ℕ) (i : Input) → length i.rest ≡ 0 → list_from n (reader_for format ss w) base i ≡ Err BAD_RANGE
list_out format ss w n base i none = ap (λ (rest : List ℕ). list_from n (reader_for format ss w) base (record { at = i.at; rest = rest })) (empty i.rest none) ∙ from_nothing format ss w n base i.at
  where
    empty : (bs : List ℕ) → length bs ≡ 0 → bs ≡ []
    empty [] e = refl
    empty (b ∷ bs) e = absurd (omega (arith, e))

-- however many entries are allowed, where that is no less than the bytes that are left
pub same_from : (format : ListFormat) (ss : List Section) (w : Walked) (m n base : ℕ) (i : Input) → length i.rest ≤ m → length i.rest ≤ n → list_from m (reader_for format ss w) base i ≡ list_from n (reader_for format ss w) base i
unfolding list_from
same_from format ss w zero n base i few other = sym (list_out format ss w n base i (omega (arith, few)))
same_from format ss w (suc m) zero base i few other = list_out format ss w (suc m) base i (omega (arith, other))
same_from format ss w (suc m) (suc n) base i few other = by (λ b j less more. same_from format ss w m n b j less more) (reader_for format ss w i) refl
  where
    by : ((b : ℕ) (j : Input) → length j.rest ≤ m → length j.rest ≤ n → list_from m (reader_for format ss w) b j ≡ list_from n (reader_for format ss w) b j) → (r : Result (ListEntry × Input) ℕ) → reader_for format ss w i ≡ r → (r >>= λ e. with_entry e.0 base (λ b. list_from m (reader_for format ss w) b e.1)) ≡ (r >>= λ e. with_entry e.0 base (λ b. list_from n (reader_for format ss w) b e.1))
    by later (Err code) is = refl
    by later (Ok e) is =
        let less : length e.1.rest < length i.rest = left_less i e.1 (entry_takes format ss w i e is) in
        ap (with_entry e.0 base) (λ k b. later b e.1 (omega (arith, less, few)) (omega (arith, less, other)) k)

pub list_past : (format : ListFormat) (ss : List Section) (w : Walked) (base : ℕ) (bytes : List ℕ) (place : ℕ) → length bytes < place → list_at (reader_for format ss w) base bytes place ≡ Err BAD_RANGE
unfolding list_at
list_past format ss w base bytes place past =
    let none : drop place bytes ≡ [] = drop_all place bytes (omega (arith, past)) in
    ap (λ (rest : List ℕ). list_from (length bytes) (reader_for format ss w) base (record { at = place; rest = rest })) none ∙ from_nothing format ss w (length bytes) base place

-- a place that is too high is past the section, like the greatest
pub list_capped : (format : ListFormat) (ss : List Section) (w : Walked) (base : ℕ) (bytes : List ℕ) (place : ℕ) → length bytes < top → list_at (reader_for format ss w) base bytes (min place top) ≡ list_at (reader_for format ss w) base bytes place
list_capped format ss w base bytes place small = ⊎_elim
    (λ (high : top < place).
    list_past format ss w base bytes (min place top) (omega (arith, high, small)) ∙ sym (list_past format ss w base bytes place (omega (arith, high, small))))
    (λ (low : place ≤ top). let same : min place top ≡ place = omega (arith, low) in ap (λ (k : ℕ). list_at (reader_for format ss w) base bytes k) same)
    (cases_lt top place)

-- ---- the list of a value

module _ (ss : List Section) (w : Walked) (base : ℕ) where
  abbrev new : List ℕ
  new = lists_in Kinds ss

  abbrev old : List ℕ
  old = lists_in Pairs ss

  indexed : (o : Result ℕ ℕ) (place : ℕ) → length new < top → capped o ≡ Ok place → (o >>= list_at (kind_at ss w) base new) ≡ list_at (reader_for Kinds ss w) base new place
  indexed (Ok p) place small is = let same : min p top ≡ place = cc in sym (list_capped Kinds ss w base new p small) ∙ ap (λ (k : ℕ). list_at (kind_at ss w) base new k) same
  indexed (Err e) place small is = absurd cc

  pub list_indexed : (n place : ℕ) → length new < top → capped (list_offset ss w n) ≡ Ok place → list_of ss w base (RangeIndex n) ≡ list_at (reader_for Kinds ss w) base new place
  unfolding list_of
  list_indexed n place small is = indexed (list_offset ss w n) place small is

  pub list_new : (o : ℕ) → w.unit.version ≡ 5 → list_of ss w base (Offset o) ≡ list_at (reader_for Kinds ss w) base new o
  unfolding list_of
  list_new o is = rw (eq-eqb w.unit.version 5 is) refl

  pub list_old : (o : ℕ) → (w.unit.version ≡ 5 → ⊥) → list_of ss w base (Offset o) ≡ list_at (reader_for Pairs ss w) base old o
  unfolding list_of
  list_old o off = rw (ne_eqb w.unit.version 5 off) refl
