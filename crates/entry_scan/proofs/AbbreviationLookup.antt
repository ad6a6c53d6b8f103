-- Where the first head with a code stands.
use Rattle.std.proofs.Common.{◌≡◌, ℕ, ◌+◌, ◌-◌, ◌<◌, ◌≤◌, ◌==◌, ◌⊎◌, Bool, true, false, cond, ltb, List, [], ◌∷◌, length, get_or, position, inl, inr, ltb-true, ltb-false, Some, None, refl, sym, ap, subst, ◌∙◌, arith}
use Rattle.std.specs.List.{position_or_len, find}
use Rattle.std.specs.List.Sorted.{IsPartitionedBy, IsPartitionPoint}
use Rattle.std.proofs.lemmas.Bool.{lt-ltb, le-ltb, eq-eqb, eqb-true, false_from_ne_true}
use Rattle.std.proofs.lemmas.List.{length-map}
use Rattle.std.proofs.Math.ListN.{get_or-map}
use Rattle.std.proofs.lemmas.List.Folds.{find_at}
use Rattle.std.proofs.lemmas.List.Quantifiers.{position-Some}
use Rattle.std.proofs.lemmas.Option.{slice_get-get_or, slice_get_past}
use Rattle.std.proofs.lemmas.List.Sums.{position_or_len_is}
use Rattle.std.proofs.lemmas.List.Sorted.{IsPartitionedBy-ltb}
use Rattle.entry_scan.specs.declared.abbreviation.Spec.{Spec}
use Rattle.entry_scan.specs.declared.abbreviation.AbbrevHead.{AbbrevHead}
use Rattle.entry_scan.specs.declared.abbreviation.CodeIndex.{CodeIndex}
use Rattle.index_model.specs.Abbreviations.{Abbrev}
use Rattle.entry_scan.specs.AbbreviationTables.{head_seen, heads_seen, place_at, in_front, IsSearchable, AreInOrder, Cuts}

-- ---- the first with a code

abbrev has_code : ℕ → AbbrevHead → Bool
has_code code h = h.code == code

abbrev nothing : AbbrevHead
nothing = record { code = 0; tag = 0; start = 0; end = 0; front = record { count = 0; bytes = 0 }; marks = record { bits = 0 }; jumps = record { slots = [] }; children = false }

place_seen : (specs : List Spec) (heads : List AbbrevHead) (code : ℕ) → position_or_len (λ (a : Abbrev). a.code == code) (heads_seen specs heads) ≡ position_or_len (has_code code) heads
place_seen specs [] code = refl
place_seen specs (h ∷ hs) code = rw (place_seen specs hs code) refl

position_seen : (specs : List Spec) (heads : List AbbrevHead) (code : ℕ) → position (λ (a : Abbrev). a.code == code) (heads_seen specs heads) ≡ position (has_code code) heads
position_seen specs heads code = rw (place_seen specs heads code, length-map heads (head_seen specs)) refl

first_is : (specs : List Spec) (heads : List AbbrevHead) (code k : ℕ) → k < length heads → (get_or heads k nothing).code ≡ code → ((j : ℕ) → j < k → (get_or heads j nothing).code ≡ code → ⊥) → position (λ (a : Abbrev). a.code == code) (heads_seen specs heads) ≡ Some k
first_is specs heads code k lt here before =
    let n : position_or_len (has_code code) heads ≡ k = position_or_len_is (has_code code) heads k nothing (omega arith) (λ j below. false_from_ne_true _ (λ e. before j below (eqb-true _ _ e))) (λ _. eq-eqb _ _ here) in
    position_seen specs heads code ∙ ap (λ n. cond (ltb n (length heads)) (Some n) None) n ∙ rw (lt-ltb k (length heads) lt) refl

none_is : (specs : List Spec) (heads : List AbbrevHead) (code : ℕ) → ((j : ℕ) → j < length heads → (get_or heads j nothing).code ≡ code → ⊥) → position (λ (a : Abbrev). a.code == code) (heads_seen specs heads) ≡ None
none_is specs heads code lacks =
    let n : position_or_len (has_code code) heads ≡ length heads = position_or_len_is (has_code code) heads (length heads) nothing (omega arith) (λ j below. false_from_ne_true _ (λ e. lacks j below (eqb-true _ _ e))) (λ lt. absurd (omega arith)) in
    position_seen specs heads code ∙ ap (λ n. cond (ltb n (length heads)) (Some n) None) n ∙ rw (le-ltb (length heads) (length heads) (omega arith)) refl

-- ---- at the front

pub front_found : (specs : List Spec) (heads : List AbbrevHead) (others : List CodeIndex) (code : ℕ) → IsSearchable heads others → 0 < code → code ≤ in_front heads others → position (λ (a : Abbrev). a.code == code) (heads_seen specs heads) ≡ Some (code - 1)
front_found specs heads others code s some le =
    let own : (get_or heads (code - 1) nothing).code ≡ code - 1 + 1 = s.front (code - 1) nothing (omega arith) in
    first_is specs heads code (code - 1) (omega arith) (omega arith) (λ j below e. let other : (get_or heads j nothing).code ≡ j + 1 = s.front j nothing (omega arith) in omega arith)

-- ---- behind it

pub parted : (others : List CodeIndex) (code : ℕ) → AreInOrder others → IsPartitionedBy (λ (o : CodeIndex). ltb o.code code) others
parted others code sorted = IsPartitionedBy-ltb (λ (o : CodeIndex). o.code) others code (λ i j d le lt. (sorted i j d le lt).code)

pub cuts : (others : List CodeIndex) (code r : ℕ) → r ≤ length others → IsPartitionPoint (λ (o : CodeIndex). ltb o.code code ≡ true) (λ (o : CodeIndex). ltb o.code code ≡ false) others r → Cuts others code r
cuts others code r le point = record {
  below = λ k d lt. ltb-true _ _ (point.0 k d (omega arith) lt);
  above = λ k d from lt. ltb-false _ _ (point.1 k d from lt);
}

not_below : (a b : ℕ) → (a < b → ⊥) → b ≤ a
not_below a b h = grind arith

-- a head with the code isn't at the front, so its place is among the others
behind : (heads : List AbbrevHead) (others : List CodeIndex) (code : ℕ) → IsSearchable heads others → ((code ≡ 0) ⊎ (in_front heads others < code)) → (j : ℕ) → j < length heads → (get_or heads j nothing).code ≡ code → in_front heads others ≤ j
behind heads others code s (inl z) j lt e = not_below _ _ (λ front. let own = s.front j nothing front in omega arith)
behind heads others code s (inr z) j lt e = not_below _ _ (λ front. let own = s.front j nothing front in omega arith)

-- the place of a head with the code stands among the others, from r on
pub record Stands (heads : List AbbrevHead) (others : List CodeIndex) (code r j : ℕ) : Type 0 where
  pub k : ℕ
  pub from : r ≤ k
  pub within : k < length others
  pub is : get_or others k (place_at heads j nothing) ≡ place_at heads j nothing

stands : (heads : List AbbrevHead) (others : List CodeIndex) (code r : ℕ) → IsSearchable heads others → ((code ≡ 0) ⊎ (in_front heads others < code)) → Cuts others code r → (j : ℕ) → j < length heads → (get_or heads j nothing).code ≡ code → Stands heads others code r j
stands heads others code r s past cut j lt e =
    let p = s.all j nothing (behind heads others code s past j lt e) lt in
    let c : (get_or others p.0 (place_at heads j nothing)).code ≡ (get_or heads j nothing).code = ap (λ (o : CodeIndex). o.code) p.2 in
    let from : r ≤ p.0 = not_below _ _ (λ low. let less = cut.below p.0 (place_at heads j nothing) low in omega arith) in
    record { k = p.0; from = from; within = p.1; is = p.2 }

pub none_past : (specs : List Spec) (heads : List AbbrevHead) (others : List CodeIndex) (code r : ℕ) → IsSearchable heads others → ((code ≡ 0) ⊎ (in_front heads others < code)) → Cuts others code r → length others ≤ r → position (λ (a : Abbrev). a.code == code) (heads_seen specs heads) ≡ None
none_past specs heads others code r s past cut end = none_is specs heads code (λ j lt e. let p = stands heads others code r s past cut j lt e in omega (arith, p.from, p.within))

pub none_equal : (specs : List Spec) (heads : List AbbrevHead) (others : List CodeIndex) (code r : ℕ) (o : CodeIndex) → IsSearchable heads others → ((code ≡ 0) ⊎ (in_front heads others < code)) → Cuts others code r → r < length others → ((d : CodeIndex) → o ≡ get_or others r d) → (o.code ≡ code → ⊥) → position (λ (a : Abbrev). a.code == code) (heads_seen specs heads) ≡ None
none_equal specs heads others code r o s past cut lt is other = none_is specs heads code (λ j below e.
    let d : CodeIndex = place_at heads j nothing in
    let p = stands heads others code r s past cut j below e in
    let up : (get_or others r d).code ≤ (get_or others p.k d).code = (s.sorted r p.k d p.from p.within).code in
    let low : code ≤ (get_or others r d).code = cut.above r d (omega arith) lt in
    let own : o.code ≡ (get_or others r d).code = ap (λ (o : CodeIndex). o.code) (is d) in
    let that : (get_or others p.k d).code ≡ (get_or heads j nothing).code = ap (λ (o : CodeIndex). o.code) p.is in
    other (omega arith))

pub found : (specs : List Spec) (heads : List AbbrevHead) (others : List CodeIndex) (code r : ℕ) (o : CodeIndex) → IsSearchable heads others → ((code ≡ 0) ⊎ (in_front heads others < code)) → Cuts others code r → r < length others → ((d : CodeIndex) → o ≡ get_or others r d) → o.code ≡ code → position (λ (a : Abbrev). a.code == code) (heads_seen specs heads) ≡ Some o.index
found specs heads others code r o s past cut lt is same =
    let P : CodeIndex → Type 0 = λ x. (x.index < length heads) × ((d : AbbrevHead) → (get_or heads x.index d).code ≡ x.code) in
    let each : P o = subst P (sym (is o)) (s.each r o lt) in
    first_is specs heads code o.index each.0 (each.1 nothing ∙ same) (λ j below e.
    let d : CodeIndex = place_at heads j nothing in
    let p = stands heads others code r s past cut j (omega (arith, each.0)) e in
    let before = (s.sorted r p.k d p.from p.within).index in
    let own : o.code ≡ (get_or others r d).code = ap (λ (o : CodeIndex). o.code) (is d) in
    let index : o.index ≡ (get_or others r d).index = ap (λ (o : CodeIndex). o.index) (is d) in
    let that : (get_or others p.k d).code ≡ (get_or heads j nothing).code = ap (λ (o : CodeIndex). o.code) p.is in
    let place : (get_or others p.k d).index ≡ j = ap (λ (o : CodeIndex). o.index) p.is in
    let le = before (omega arith) in
    omega (arith, le))

-- ---- what stands there

-- the index is that of the first that passes
some_index : (b : Bool) (n k : ℕ) → cond b (Some n) None ≡ Some k → (b ≡ true) × (n ≡ k)
some_index true n k e = (refl, cc)
some_index false n k e = absurd (cc)

none_index : (b : Bool) (n : ℕ) → cond b (Some n) None ≡ None → b ≡ false
none_index true n e = absurd (cc)
none_index false n e = refl

pub find_none : (p : Abbrev → Bool) (all : List Abbrev) → position p all ≡ None → find p all ≡ None
find_none p all e =
    let past : length all ≤ position_or_len p all = ltb-false _ _ (none_index _ _ e) in
    find_at p all ∙ slice_get_past all (position_or_len p all) past

pub find_some : (p : Abbrev → Bool) (all : List Abbrev) (k : ℕ) (d : Abbrev) → position p all ≡ Some k → find p all ≡ Some (get_or all k d)
find_some p all k d e =
    let at : position_or_len p all ≡ k = (some_index _ _ _ e).1 in
    find_at p all ∙ rw at (slice_get-get_or all k d (position-Some p all k d e).0)

-- the abbreviation of the head at the index of the first with a code
pub head_found : (specs : List Spec) (heads : List AbbrevHead) (code k : ℕ) (h : AbbrevHead) → position (λ (a : Abbrev). a.code == code) (heads_seen specs heads) ≡ Some k → h ≡ get_or heads k h → (find (λ (a : Abbrev). a.code == code) (heads_seen specs heads) ≡ Some (head_seen specs h)) × (h.code ≡ code)
head_found specs heads code k h e is =
    let p : Abbrev → Bool = λ a. a.code == code in
    let d : Abbrev = head_seen specs h in
    let at : get_or (heads_seen specs heads) k d ≡ d = get_or-map (head_seen specs) heads k h ∙ ap (head_seen specs) (sym is) in
    let own = (position-Some p (heads_seen specs heads) k d e).1 in
    (find_some p (heads_seen specs heads) k d e ∙ ap Some at, eqb-true _ _ (rw at at own))
