-- The ranges of nodes, one node after the other.
use Rattle.std.proofs.Common.{◌≡◌, ℕ, suc, ◌+◌, ◌<◌, Bool, true, false, cond, List, [], ◌∷◌, ◌++◌, append_assoc, length, drop, get_or, filter, flat_map, Result, Ok, Err, refl, sym, ap, subst, ◌∙◌, arith}
use Rattle.std.specs.Prelude.{IsOkAnd}
use Rattle.std.proofs.lemmas.List.{append-nil}
use Rattle.std.proofs.Math.Seq.{drop-cons}
use Rattle.ix_base.specs.declared.fault.Fault.{Fault}
use Rattle.index_model.specs.declared.range.Range.{Range}
use Rattle.index_model.specs.declared.shard.Node.{Node}
use Rattle.index_model.specs.Meaning.{◌>>=◌, each}
use Rattle.index_model.specs.Sections.{Section}
use Rattle.index_model.specs.Program.{Walked}
use Rattle.range_lists.specs.declared.found.FoundRanges.{FoundRanges}
use Rattle.range_lists.specs.Found.{AreRead, IsAdded}
use Rattle.range_lists.proofs.Reading.{before}
use Rattle.range_lists.proofs.SameUnits.{none_added, added_both}
use Rattle.range_lists.specs.Nodes.{node_ranges, all_node_ranges}

abbrev joined : Result (List (List Range)) Fault → Result (List Range) Fault
joined parts = parts >>= λ rs. Ok (flat_map (λ r. r) rs)

abbrev given : List Range → Result (List Range) Fault
given rs = Ok rs

more_ok : (front own new : List Range) (later : Result (List (List Range)) Fault) → before front (given own) ≡ Ok new → before front (joined (later >>= λ ys. Ok (own ∷ ys))) ≡ before new (joined later)
more_ok front own new (Ok ys) is = let same : front ++ own ≡ new = cc in ap given (sym (append_assoc front own (flat_map (λ r. r) ys)) ∙ ap (λ (xs : List Range). xs ++ flat_map (λ r. r) ys) same)
more_ok front own new (Err e) is = refl

more_by : (front new : List Range) (r : Result (List Range) Fault) (later : Result (List (List Range)) Fault) → before front r ≡ Ok new → before front (joined (r >>= λ y. later >>= λ ys. Ok (y ∷ ys))) ≡ before new (joined later)
more_by front new (Ok own) later is = more_ok front own new later is
more_by front new (Err e) later is = absurd cc

wrong_by : (front : List Range) (r : Result (List Range) Fault) (later : Result (List (List Range)) Fault) (e : Fault) → before front r ≡ Err e → before front (joined (r >>= λ y. later >>= λ ys. Ok (y ∷ ys))) ≡ Err e
wrong_by front (Ok own) later e is = absurd cc
wrong_by front (Err d) later e is = is

module _ (ss : List Section) (w : Walked) (test : Node → Bool) (nodes : List Node) (i : ℕ) (d : Node) (within : i < length nodes) where
  abbrev node : Node
  node = get_or nodes i d

  split : drop i nodes ≡ node ∷ drop (i + 1) nodes
  split = let n : suc i ≡ i + 1 = omega arith in drop-cons nodes i d within ∙ ap (λ (k : ℕ). node ∷ drop k nodes) n

  chosen : test node ≡ true → filter test (drop i nodes) ≡ node ∷ filter test (drop (i + 1) nodes)
  chosen on = ap (filter test) split ∙ ap (λ (b : Bool). cond b (node ∷ filter test (drop (i + 1) nodes)) (filter test (drop (i + 1) nodes))) on

  pub skipped : test node ≡ false → filter test (drop i nodes) ≡ filter test (drop (i + 1) nodes)
  skipped off = ap (filter test) split ∙ ap (λ (b : Bool). cond b (node ∷ filter test (drop (i + 1) nodes)) (filter test (drop (i + 1) nodes))) off

  pub added : (front new : List Range) → test node ≡ true → before front (node_ranges ss w node) ≡ Ok new → before front (all_node_ranges ss w (filter test (drop i nodes))) ≡ before new (all_node_ranges ss w (filter test (drop (i + 1) nodes)))
  added front new on is = ap (λ (ns : List Node). before front (all_node_ranges ss w ns)) (chosen on) ∙ more_by front new (node_ranges ss w node) (each (node_ranges ss w) (filter test (drop (i + 1) nodes))) is

  pub failed : (front : List Range) (e : Fault) → test node ≡ true → before front (node_ranges ss w node) ≡ Err e → before front (all_node_ranges ss w (filter test (drop i nodes))) ≡ Err e
  failed front e on is = ap (λ (ns : List Node). before front (all_node_ranges ss w ns)) (chosen on) ∙ wrong_by front (node_ranges ss w node) (each (node_ranges ss w) (filter test (drop (i + 1) nodes))) e is

-- ---- what was added so far

-- of all ranges, those in front were added, and the rest is still to come
pub record SoFar (ss : List Section) (unit : ℕ) (old now : FoundRanges) (all rest : Result (List Range) Fault) : Type 0 where
  pub front : List Range
  pub all_is : all ≡ before front rest
  pub added : IsAdded ss unit old now front

none_before : (r : Result (List Range) Fault) → r ≡ before [] r
none_before (Ok rs) = refl
none_before (Err e) = refl

module _ (ss : List Section) (unit : ℕ) where
  pub none_yet : (found : FoundRanges) → AreRead ss found → (all : Result (List Range) Fault) → SoFar ss unit found found all all
  none_yet found read all = record { front = []; all_is = none_before all; added = none_added ss unit found read }

  pub one_further : (old now new : FoundRanges) (all rest later : Result (List Range) Fault) (s : SoFar ss unit old now all rest) (rs : List Range) → before s.front rest ≡ before (s.front ++ rs) later → IsAdded ss unit now new rs → SoFar ss unit old new all later
  one_further old now new all rest later s rs is own = record { front = s.front ++ rs; all_is = s.all_is ∙ is; added = added_both ss unit old now new s.front rs s.added own }

  pub all_added : (old now : FoundRanges) (all rest : Result (List Range) Fault) → SoFar ss unit old now all rest → rest ≡ Ok [] → IsOkAnd all (IsAdded ss unit old now)
  all_added old now all rest s none = subst (λ (r : Result (List Range) Fault). IsOkAnd r (IsAdded ss unit old now)) (sym (s.all_is ∙ ap (before s.front) none ∙ ap given (append-nil s.front))) s.added

pub value_in : {A E : Type 0} (r : Result A E) (P : A → Type 0) → IsOkAnd r P → (x : A) × (r ≡ Ok x) × P x
value_in (Ok x) P h = (x, refl, h)
value_in (Err e) P h = absurd h
