-- What a binary search finds.
use Rattle.std.proofs.Common.{◌≡◌, ℕ, zero, suc, ◌+◌, ◌-◌, ◌<◌, ◌≤◌, Bool, true, false, cond, eqb, ◌||◌, List, [], ◌∷◌, length, drop, take, get_or, filter, map, Option, Some, None, refl, sym, ap, ◌∙◌, arith, length-drop, length-take, ⊎_elim}
use Rattle.std.specs.Prelude.{slice_get, option_map}
use Rattle.std.specs.List.Sorted.{IsPartitionPoint}
use Rattle.std.proofs.Math.Seq.{drop-nil}
use Rattle.std.proofs.lemmas.List.{get_or-drop, get_or-take, length-map}
use Rattle.std.proofs.lemmas.Option.{get_or_from_slice_get, slice_get_cases}
use Rattle.common_laws.proofs.Filters.{map_filter}
use Rattle.common_laws.proofs.Lists.{slice_of_map}
use Rattle.std.proofs.lemmas.Bool.{eq-eqb, eqb-false, ne_eqb}
use Rattle.index_model.specs.declared.shard.Node.{Node}
use Rattle.index_model.specs.declared.shard.LinkedEntry.{LinkedEntry}
use Rattle.index_model.specs.NodeSeen.{NodeSeen}
use Rattle.range_lists.specs.Nodes.{is_linked, EntriesRise}

-- ---- entries

none_linked : (o : ℕ) (xs : List LinkedEntry) → ((k : ℕ) (d : LinkedEntry) → k < length xs → o < (get_or xs k d).offset) → is_linked xs o ≡ false
none_linked o [] above = refl
none_linked o (x ∷ xs) above = rw (ne_eqb x.offset o (λ e. omega (arith, e, above 0 x (omega arith)))) (none_linked o xs (λ k d lt. above (suc k) d (omega (arith, lt))))

-- whether the offset is this one
abbrev pub has_offset : ℕ → Option ℕ → Bool
has_offset o (Some found) = eqb found o
has_offset o None = false

pub linked_at : (o : ℕ) (xs : List LinkedEntry) (n : ℕ) → EntriesRise xs → ((k : ℕ) (d : LinkedEntry) → k < n → (get_or xs k d).offset < o) → ((k : ℕ) (d : LinkedEntry) → n ≤ k → k < length xs → o ≤ (get_or xs k d).offset) → has_offset o (option_map (λ e. e.offset) (slice_get xs n)) ≡ is_linked xs o
linked_at o [] n rise below above = refl
linked_at o (x ∷ xs) zero rise below above = by (eqb x.offset o) refl
  where
    by : (b : Bool) → eqb x.offset o ≡ b → b ≡ b || is_linked xs o
    by true e = refl
    by false e =
        let off = eqb-false x.offset o e in
        let ge = above 0 x (omega arith) (omega arith) in
        sym (none_linked o xs (λ k d lt. let up = rise 0 (suc k) d (omega arith) (omega (arith, lt)) in omega (arith, ge, up, off)))
linked_at o (x ∷ xs) (suc n) rise below above =
    linked_at o xs n (λ i j d le lt. rise (suc i) (suc j) d (omega (arith, le)) (omega (arith, lt))) (λ k d lt. below (suc k) d (omega (arith, lt))) (λ k d le lt. above (suc k) d (omega (arith, le)) (omega (arith, lt))) ∙
    ap (λ (b : Bool). b || is_linked xs o) (sym (ne_eqb x.offset o (λ e. omega (arith, e, below 0 x (omega arith)))))

-- ---- nodes

module _ (unit : ℕ) where
  abbrev of_unit : NodeSeen → Bool
  of_unit n = eqb n.facts.unit unit

  behind_lower : (xs : List NodeSeen) (n : ℕ) → ((k : ℕ) (d : NodeSeen) → k < n → (get_or xs k d).facts.unit < unit) → filter of_unit xs ≡ filter of_unit (drop n xs)
  behind_lower [] n below = ap (filter of_unit) (sym (drop-nil n))
  behind_lower (x ∷ xs) zero below = refl
  behind_lower (x ∷ xs) (suc n) below =
      ap (λ (b : Bool). cond b (x ∷ filter of_unit xs) (filter of_unit xs)) (ne_eqb x.facts.unit unit (λ e. omega (arith, e, below 0 x (omega arith)))) ∙
      behind_lower xs n (λ k d lt. below (suc k) d (omega (arith, lt)))

  none_of : (xs : List NodeSeen) → ((k : ℕ) (d : NodeSeen) → k < length xs → unit < (get_or xs k d).facts.unit) → filter of_unit xs ≡ []
  none_of [] above = refl
  none_of (x ∷ xs) above =
      ap (λ (b : Bool). cond b (x ∷ filter of_unit xs) (filter of_unit xs)) (ne_eqb x.facts.unit unit (λ e. omega (arith, e, above 0 x (omega arith)))) ∙
      none_of xs (λ k d lt. above (suc k) d (omega (arith, lt)))

  front_of : (xs : List NodeSeen) (m : ℕ) → ((k : ℕ) (d : NodeSeen) → k < length xs → unit ≤ (get_or xs k d).facts.unit) → ((k : ℕ) (d : NodeSeen) → k < m → (get_or xs k d).facts.unit ≤ unit) → ((k : ℕ) (d : NodeSeen) → m ≤ k → k < length xs → unit < (get_or xs k d).facts.unit) → m ≤ length xs → take m xs ≡ filter of_unit xs
  front_of [] zero low up above le = refl
  front_of [] (suc m) low up above le = absurd (omega (arith, le))
  front_of (x ∷ xs) zero low up above le = sym (none_of (x ∷ xs) (λ k d lt. above k d (omega arith) lt))
  front_of (x ∷ xs) (suc m) low up above le =
      ap (λ (ys : List NodeSeen). x ∷ ys) (front_of xs m (λ k d lt. low (suc k) d (omega (arith, lt))) (λ k d lt. up (suc k) d (omega (arith, lt))) (λ k d ge lt. above (suc k) d (omega (arith, ge)) (omega (arith, lt))) (omega (arith, le))) ∙
      sym (ap (λ (b : Bool). cond b (x ∷ filter of_unit xs) (filter of_unit xs)) (eq-eqb x.facts.unit unit (omega (arith, low 0 x (omega arith), up 0 x (omega arith)))))

-- the nodes from the first that isn't lower up to the first that is higher
pub nodes_between : (unit : ℕ) (nodes : List NodeSeen) (n m : ℕ) → n ≤ length nodes → m ≤ length nodes →
    IsPartitionPoint (λ d. d.facts.unit < unit) (λ d. unit ≤ d.facts.unit) nodes n → IsPartitionPoint (λ d. d.facts.unit < unit + 1) (λ d. unit + 1 ≤ d.facts.unit) nodes m →
    map (λ d. d.facts) (take (m - n) (drop n nodes)) ≡ filter (λ d. eqb d.unit unit) (map (λ d. d.facts) nodes)
nodes_between unit nodes n m within end first second =
    let from = drop n nodes in
    let at : (k : ℕ) (d : NodeSeen) → (get_or from k d).facts.unit ≡ (get_or nodes (n + k) d).facts.unit = λ k d. ap (λ (x : NodeSeen). x.facts.unit) (get_or-drop n nodes k d) in
    let low : (k : ℕ) (d : NodeSeen) → k < length from → unit ≤ (get_or from k d).facts.unit = λ k d lt.
    let there = first.1 (n + k) d (omega arith) (omega (arith, lt, length-drop n nodes, within)) in
    omega (arith, at k d, there) in
    let up : (k : ℕ) (d : NodeSeen) → k < m - n → (get_or from k d).facts.unit ≤ unit = λ k d lt.
    let there = second.0 (n + k) d (omega arith) (omega (arith, lt)) in
    omega (arith, at k d, there) in
    let high : (k : ℕ) (d : NodeSeen) → m - n ≤ k → k < length from → unit < (get_or from k d).facts.unit = λ k d le lt.
    let there = second.1 (n + k) d (omega (arith, le)) (omega (arith, lt, length-drop n nodes, within)) in
    omega (arith, at k d, there) in
    let seen = front_of unit from (m - n) low up high (omega (arith, end, length-drop n nodes)) ∙ sym (behind_lower unit nodes n (λ k d lt. first.0 k d (omega arith) lt)) in
    ap (map (λ (d : NodeSeen). d.facts)) seen ∙ map_filter (λ (d : NodeSeen). d.facts) (λ (d : Node). eqb d.unit unit) nodes

-- a node of some that stand side by side
pub node_between : (nodes : List NodeSeen) (n m k : ℕ) (r : Node) → k < length (map (λ (d : NodeSeen). d.facts) (take m (drop n nodes))) → (s : NodeSeen) → slice_get nodes (n + k) ≡ Some s → r ≡ s.facts → r ≡ get_or (map (λ (d : NodeSeen). d.facts) (take m (drop n nodes))) k r
node_between nodes n m k r within s is own =
    let part = take m (drop n nodes) in
    let short : k < length part = omega (arith, within, length-map part (λ (d : NodeSeen). d.facts)) in
    let front : k < m = omega (arith, short, length-take m (drop n nodes)) in
    let at : get_or part k s ≡ s = get_or-take m (drop n nodes) k s front ∙ get_or-drop n nodes k s ∙ get_or_from_slice_get nodes (n + k) s s is in
    own ∙ ap (λ (x : NodeSeen). x.facts) (sym at) ∙ sym (get_or_from_slice_get (map (λ (d : NodeSeen). d.facts) part) k (get_or part k s).facts r (slice_of_map (λ (d : NodeSeen). d.facts) part k s short))

-- there is one
pub node_there : (nodes : List NodeSeen) (n m k : ℕ) → k < length (map (λ (d : NodeSeen). d.facts) (take m (drop n nodes))) → slice_get nodes (n + k) ≡ None → ⊥
node_there nodes n m k within none =
    let part = take m (drop n nodes) in
    let inside : n + k < length nodes = omega (arith, within, length-map part (λ (d : NodeSeen). d.facts), length-take m (drop n nodes), length-drop n nodes) in
    ⊎_elim
    (λ (h : (x : NodeSeen) × (n + k < length nodes) × (slice_get nodes (n + k) ≡ Some x) × (get_or nodes (n + k) x ≡ x)). let stuck = sym none ∙ h.2 in absurd cc)
    (λ (h : (length nodes ≤ n + k) × (slice_get nodes (n + k) ≡ None)). omega (arith, h.0, inside))
    (slice_get_cases nodes (n + k)).1

-- it stands before the end
pub node_end : (nodes : List NodeSeen) (n m k : ℕ) → k < length (map (λ (d : NodeSeen). d.facts) (take m (drop n nodes))) → k < m
node_end nodes n m k within = let part = take m (drop n nodes) in omega (arith, within, length-map part (λ (d : NodeSeen). d.facts), length-take m (drop n nodes))
