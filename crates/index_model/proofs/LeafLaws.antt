-- What leaves say stays as it is while nodes are added aside.
use Rattle.std.specs.Prelude.{◌≡◌, ℕ, suc, true, false, List, [], ◌∷◌, ◌++◌, length, map, All, slice_get, slice_index_or, Some}
use Rattle.std.proofs.Common.{arith, refl, length-append}
use Rattle.std.proofs.lemmas.List.{map-append, get_or_append_left}
use Rattle.std.proofs.lemmas.Option.{slice_get-get_or}
use Rattle.std.proofs.Math.Seq.{get_or-append_seam}
use Rattle.index_model.specs.declared.shard.Node.{Node}
use Rattle.index_model.specs.declared.leaf.Leaf.{Leaf}
use Rattle.index_model.specs.declared.place.TextBytes.{TextBytes}
use Rattle.index_model.specs.Marks.{is_aside}
use Rattle.index_model.specs.NodeSeen.{NodeSeen, node_seen}
use Rattle.index_model.specs.Leaves.{leaf_seen, unpacked, IsInside}

-- a node that lies aside is the one with its index
pub of_aside : (whole : List Node) (l : Leaf) (d : Node) → is_aside l.given ≡ true → IsInside whole l → slice_get whole l.offset ≡ Some (slice_index_or whole l.offset d)
of_aside whole l d e inside = slice_get-get_or whole l.offset d (inside e)

-- a leaf that stands by itself
alone_says : (b : TextBytes) (whole : List Node) (l : Leaf) → is_aside l.given ≡ false → unpacked b whole l ≡ leaf_seen b l
unfolding unpacked
alone_says b whole l e = rw e refl

-- a leaf of a node that lies aside
aside_says : (b : TextBytes) (whole : List Node) (l : Leaf) (n : Node) → is_aside l.given ≡ true → slice_get whole l.offset ≡ Some n → unpacked b whole l ≡ node_seen n
unfolding unpacked
aside_says b whole l n e there = rw (e, there) refl

-- a leaf says the same when a node is added aside
one_grows : (b : TextBytes) (whole : List Node) (n : Node) (l : Leaf) → IsInside whole l → unpacked b (whole ++ n ∷ []) l ≡ unpacked b whole l
one_grows b whole n l inside = elim (is_aside l.given) as (λ a. is_aside l.given ≡ a → unpacked b (whole ++ n ∷ []) l ≡ unpacked b whole l) [
  | false ↦ λ e.
      let before = alone_says b whole l e in
      let after = alone_says b (whole ++ n ∷ []) l e in
      cc
  | true ↦ λ e.
      let d = slice_index_or whole l.offset n in
      let same = get_or_append_left whole (n ∷ []) n l.offset (inside e) in
      let there = slice_get-get_or (whole ++ n ∷ []) l.offset n (omega (arith, inside e, length-append whole (n ∷ []))) in
      let before = aside_says b whole l d e (slice_get-get_or whole l.offset n (inside e)) in
      let after = aside_says b (whole ++ n ∷ []) l d e (cc) in
      cc
] refl

-- all do
grows : (b : TextBytes) (whole : List Node) (n : Node) (ls : List Leaf) → All (IsInside whole) ls → map (unpacked b (whole ++ n ∷ [])) ls ≡ map (unpacked b whole) ls
grows b whole n [] h = refl
grows b whole n (l ∷ ls) h =
    let first = one_grows b whole n l (h 0 l (omega arith)) in
    let others = grows b whole n ls (λ k d lt. h (suc k) d (omega arith)) in
    cc

-- a leaf that stands by itself is added
pub added_alone : (b : TextBytes) (whole : List Node) (ls : List Leaf) (l : Leaf) (s : NodeSeen) → is_aside l.given ≡ false → leaf_seen b l ≡ s → map (unpacked b whole) (ls ++ l ∷ []) ≡ map (unpacked b whole) ls ++ s ∷ []
added_alone b whole ls l s alone says =
    let parts = map-append (unpacked b whole) ls (l ∷ []) in
    let last = alone_says b whole l alone in
    cc

-- a node is added aside, with its leaf
pub added_aside : (b : TextBytes) (whole : List Node) (n : Node) (ls : List Leaf) (l : Leaf) → All (IsInside whole) ls → is_aside l.given ≡ true → l.offset ≡ length whole → map (unpacked b (whole ++ n ∷ [])) (ls ++ l ∷ []) ≡ map (unpacked b whole) ls ++ node_seen n ∷ []
added_aside b whole n ls l h aside last =
    let parts = map-append (unpacked b (whole ++ n ∷ [])) ls (l ∷ []) in
    let same = grows b whole n ls h in
    let there = slice_get-get_or (whole ++ n ∷ []) l.offset n (omega (arith, last, length-append whole (n ∷ []))) in
    let seam = get_or-append_seam whole n [] n in
    let says = aside_says b (whole ++ n ∷ []) l n aside (cc) in
    cc
