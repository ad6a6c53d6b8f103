-- What the entries of a list take of its section.
use Rattle.std.proofs.Common.{◌≡◌, ℕ, ◌+◌, ◌<◌, Bool, true, false, cond, eqb, List, [], ◌∷◌, Option, Some, None, Result, Ok, ap, subst, arith}
use Rattle.ix_base.specs.declared.code.TheConstants.{BAD_RANGE}
use Rattle.ix_base.specs.Reading.{Input, number, uleb}
use Rattle.index_model.specs.Meaning.{◌>>=◌, some_or}
use Rattle.index_model.specs.Sections.{Section}
use Rattle.index_model.specs.Program.{Walked}
use Rattle.index_model.specs.RangeLists.{ListEntry, End, Base, Bounds, Offsets, EntryReader, Operand, indexed_address, fixed, plain, index, one, two, long, kinds, kind_reader, kind_at, pair_at}
use Rattle.index_model.proofs.Meanings.{bind_ok, same_ok, some_ok}
use Rattle.index_model.proofs.UnitReads.{Passes, number_passes, passes_on, past_none}
use Rattle.index_model.proofs.ValueReads.{Goes, goes_on, uleb_passes}
use Rattle.range_lists.specs.declared.list_entry.ListFormat.{ListFormat}
use Rattle.range_lists.specs.declared.list_entry.ListFormat.TheVariants.{Pairs, Kinds}
use Rattle.range_lists.specs.Lists.{reader_for}

-- ---- operands

-- bytes were passed
abbrev pub Takes : Input → Input → Type 0
Takes i j = (n : ℕ) × (0 < n) × Passes n i j

uleb_goes : (i : Input) (x : ℕ × Input) → uleb i ≡ Some x → Goes i x.1
uleb_goes i x is = let h = uleb_passes i x is in (h.0, h.2)

some_is : {A : Type 0} (o : Option A) (e : ℕ) (x : A) → some_or o e ≡ Ok x → o ≡ Some x
some_is {A = A} (Some y) e x is = ap {B = Option A} (λ (z : A). Some z) (same_ok y x is)
some_is None e x is = absurd cc

-- what is read passes bytes, or none
abbrev Moves : {A : Type 0} → (Input → Result (A × Input) ℕ) → Type 0
Moves {A = A} read = (i : Input) (x : A × Input) → read i ≡ Ok x → Goes i x.1

fixed_moves : Moves fixed
fixed_moves i x is = (8, number_passes 8 i x (some_is (number 8 i) BAD_RANGE x is))

plain_moves : Moves plain
plain_moves i x is = uleb_goes i x (some_is (uleb i) BAD_RANGE x is)

index_moves : (ss : List Section) (w : Walked) → Moves (index ss w)
index_moves ss w i x is =
    let n = some_ok (uleb i) BAD_RANGE (λ n. indexed_address ss w n.0 >>= λ a. Ok (a, n.1)) x is in
    let a = bind_ok (indexed_address ss w n.0.0) (λ a. Ok (a, n.0.1)) x n.2 in
    subst (Goes i) (ap (λ (y : ℕ × Input). y.1) (same_ok (a.0, n.0.1) x a.2)) (uleb_goes i n.0 n.1)

-- ---- entries

end_moves : Moves (λ (i : Input). Ok (End, i))
end_moves i x is = subst (Goes i) (ap (λ (y : ListEntry × Input). y.1) (same_ok (End, i) x is)) (0, record { there = omega arith; on = past_none i })

one_moves : (make : ℕ → ListEntry) (read : Operand) → Moves read → Moves (one make read)
one_moves make read h i x is =
    let a = bind_ok (read i) (λ a. Ok (make a.0, a.1)) x is in
    subst (Goes i) (ap (λ (y : ListEntry × Input). y.1) (same_ok (make a.0.0, a.0.1) x a.2)) (h i a.0 a.1)

two_moves : (make : ℕ → ℕ → ListEntry) (low high : Operand) → Moves low → Moves high → Moves (two make low high)
two_moves make low high g h i x is =
    let a = bind_ok (low i) (λ a. high a.1 >>= λ b. Ok (make a.0 b.0, b.1)) x is in
    let b = bind_ok (high a.0.1) (λ b. Ok (make a.0.0 b.0, b.1)) x a.2 in
    subst (Goes i) (ap (λ (y : ListEntry × Input). y.1) (same_ok (make a.0.0 b.0.0, b.0.1) x b.2)) (goes_on i a.0.1 b.0.1 (g i a.0 a.1) (h a.0.1 b.0 b.1))

abbrev AllMove : List (ℕ × EntryReader) → Type 0
AllMove [] = Unit {0}
AllMove (row ∷ rows) = Moves row.1 × AllMove rows

row_moves : (rows : List (ℕ × EntryReader)) (kind : ℕ) → AllMove rows → Moves (kind_reader rows kind)
row_moves [] kind all i x is = absurd cc
row_moves (row ∷ rows) kind all i x is = by (row_moves rows kind all.1) (eqb row.0 kind) is
  where
    by : Moves (kind_reader rows kind) → (b : Bool) → cond b (row.1 i) (kind_reader rows kind i) ≡ Ok x → Goes i x.1
    by later true h = all.0 i x h
    by later false h = later i x h

kinds_move : (ss : List Section) (w : Walked) → AllMove (kinds ss w)
kinds_move ss w =
    let at = index_moves ss w in
    let at_one = one_moves Base (index ss w) at in
    let at_two = two_moves Bounds (index ss w) (index ss w) at at in
    let at_long = two_moves long (index ss w) plain at plain_moves in
    let offsets = two_moves Offsets plain plain plain_moves plain_moves in
    let base = one_moves Base fixed fixed_moves in
    let bounds = two_moves Bounds fixed fixed fixed_moves fixed_moves in
    let length_ = two_moves long fixed plain fixed_moves plain_moves in
    (end_moves, (at_one, (at_two, (at_long, (offsets, (base, (bounds, (length_, tt))))))))

kind_takes : (ss : List Section) (w : Walked) (i : Input) (x : ListEntry × Input) → kind_at ss w i ≡ Ok x → Takes i x.1
unfolding kind_at
kind_takes ss w i x is =
    let k = some_ok (number 1 i) BAD_RANGE (λ kind. kind_reader (kinds ss w) kind.0 kind.1) x is in
    let g = row_moves (kinds ss w) k.0.0 (kinds_move ss w) k.0.1 x k.2 in
    (1 + g.0, omega arith, passes_on 1 g.0 i k.0.1 x.1 (number_passes 1 i k.0 k.1) g.1)

pair_takes : (i : Input) (x : ListEntry × Input) → pair_at i ≡ Ok x → Takes i x.1
unfolding pair_at
pair_takes i x is =
    let low = some_ok (number 8 i) BAD_RANGE _ x is in
    let high = some_ok (number 8 low.0.1) BAD_RANGE _ x low.2 in
    let p = passes_on 8 8 i low.0.1 high.0.1 (number_passes 8 i low.0 low.1) (number_passes 8 low.0.1 high.0 high.1) in
    (16, omega arith, subst (Passes 16 i) (ap (λ (y : ListEntry × Input). y.1) (same_ok _ x high.2)) p)

-- an entry takes a byte
pub entry_takes : (format : ListFormat) (ss : List Section) (w : Walked) (i : Input) (x : ListEntry × Input) → reader_for format ss w i ≡ Ok x → Takes i x.1
entry_takes Pairs ss w i x is = pair_takes i x is
entry_takes Kinds ss w i x is = kind_takes ss w i x is
