-- Places by name and by simple name that are put together are those of the entries that are listed by the text.
use Rattle.std.proofs.Common.{◌≡◌, ℕ, zero, suc, ◌+◌, ◌<◌, ◌≤◌, Bool, true, false, List, [], ◌∷◌, drop, map, refl, sym, ap, ◌∙◌, arith}
use Rattle.std.specs.Prelude.{filter, bytes_eq, slice_index_or}
use Rattle.std.specs.List.{enumerate_from}
use Rattle.std.proofs.lemmas.List.{drop-drop, ext_get_or, length-map}
use Rattle.index_model.specs.declared.entry.Entry.{Entry}
use Rattle.index_model.specs.Answers.{places}
use Rattle.index_model.specs.Entries.{simple_of}
use Rattle.query_engine.specs.declared.way.Way.TheVariants.{ByName, BySimple}
use Rattle.query_engine.specs.Asked.{is_asked}
use Rattle.query_engine.specs.Listed.{is_listed, linkage_of, merged, take_below, drop_below, AreMarked}
use Rattle.query_engine.proofs.CountingLaws.{lt_true, lt_false}

-- the places of entries whose own begin at a number
abbrev placed : ℕ → (Entry → Bool) → List Entry → List ℕ
placed n test es = map (λ (e : ℕ × Entry). e.0) (filter (λ (e : ℕ × Entry). test e.1) (enumerate_from n es))

none_taken : (end n : ℕ) (test : Entry → Bool) (es : List Entry) → end ≤ n → take_below end (placed n test es) ≡ []
unfolding take_below
none_taken end n test [] le = refl
none_taken end n test (e ∷ es) le = by (test e) refl (none_taken end (n + 1) test es (omega arith))
  where
    by : (b : Bool) → test e ≡ b → take_below end (placed (n + 1) test es) ≡ [] → take_below end (placed n test (e ∷ es)) ≡ []
    by true is rest = rw (is, lt_false n end le) refl
    by false is rest = rw is rest

none_dropped : (end n : ℕ) (test : Entry → Bool) (es : List Entry) → end ≤ n → drop_below end (placed n test es) ≡ placed n test es
unfolding drop_below
none_dropped end n test [] le = refl
none_dropped end n test (e ∷ es) le = by (test e) refl (none_dropped end (n + 1) test es (omega arith))
  where
    by : (b : Bool) → test e ≡ b → drop_below end (placed (n + 1) test es) ≡ placed (n + 1) test es → drop_below end (placed n test (e ∷ es)) ≡ placed n test (e ∷ es)
    by true is rest = rw (is, lt_false n end le) refl
    by false is rest = rw is rest

-- a place before all others comes first
comes_first : (marked : List Bool) (n m : ℕ) (test : Entry → Bool) (es : List Entry) (plain : List ℕ) → n < m → merged marked (placed m test es) (n ∷ plain) ≡ n ∷ merged marked (placed m test es) plain
unfolding merged take_below drop_below
comes_first marked n m test [] plain lt = refl
comes_first marked n m test (e ∷ es) plain lt = by (test e) refl (slice_index_or marked m false) refl (comes_first marked n (m + 1) test es plain (omega arith))
  where
    by : (b : Bool) → test e ≡ b → (own : Bool) → slice_index_or marked m false ≡ own
        → merged marked (placed (m + 1) test es) (n ∷ plain) ≡ n ∷ merged marked (placed (m + 1) test es) plain
        → merged marked (placed m test (e ∷ es)) (n ∷ plain) ≡ n ∷ merged marked (placed m test (e ∷ es)) plain
    by true is true own rest = rw (is, own, lt_true n m lt) refl
    by true is false own rest = rw (is, own) rest
    by false is own own_is rest = rw is rest

-- the mark of the first of these entries, and the marks of the others
first_mark : (marked : List Bool) (n : ℕ) (x : Bool) (xs : List Bool) → drop n marked ≡ x ∷ xs → slice_index_or marked n false ≡ x
first_mark [] zero x xs at = cc
first_mark (y ∷ ys) zero x xs at = cc
first_mark [] (suc n) x xs at = cc
first_mark (y ∷ ys) (suc n) x xs at = first_mark ys n x xs at

other_marks : (marked : List Bool) (n : ℕ) (x : Bool) (xs : List Bool) → drop n marked ≡ x ∷ xs → drop (n + 1) marked ≡ xs
other_marks marked n x xs at = sym (drop-drop 1 n marked) ∙ ap (drop 1) at

module _ (marked : List Bool) (t : List ℕ) where
  abbrev named : ℕ → List Entry → List ℕ
  named n es = placed n (is_asked ByName t) es

  abbrev simply : ℕ → List Entry → List ℕ
  simply n es = placed n (is_asked BySimple t) es

  from : (n : ℕ) (es : List Entry) → drop n marked ≡ linkage_of es → merged marked (named n es) (simply n es) ≡ placed n (is_listed t) es
  unfolding merged
  from n [] at = refl
  from n (e ∷ es) at =
      by e.linkage refl (bytes_eq e.name t) refl (bytes_eq (simple_of e) t) refl (first_mark marked n e.linkage (linkage_of es) at) (from (n + 1) es (other_marks marked n e.linkage (linkage_of es) at))
    where
      by : (l : Bool) → e.linkage ≡ l → (b : Bool) → bytes_eq e.name t ≡ b → (s : Bool) → bytes_eq (simple_of e) t ≡ s → slice_index_or marked n false ≡ e.linkage
          → merged marked (named (n + 1) es) (simply (n + 1) es) ≡ placed (n + 1) (is_listed t) es
          → merged marked (named n (e ∷ es)) (simply n (e ∷ es)) ≡ placed n (is_listed t) (e ∷ es)
      by true l true b s s_is own rest = rw (l, b, own, l, none_taken n (n + 1) (is_asked BySimple t) es (omega arith), none_dropped n (n + 1) (is_asked BySimple t) es (omega arith)) (ap (λ w. n ∷ w) rest)
      by true l false b s s_is own rest = rw (l, b) rest
      by false l true b true s own rest = rw (l, b, s, own, l, comes_first marked n (n + 1) (is_asked ByName t) es (simply (n + 1) es) (omega arith)) (ap (λ w. n ∷ w) rest)
      by false l false b true s own rest = rw (l, b, s, comes_first marked n (n + 1) (is_asked ByName t) es (simply (n + 1) es) (omega arith)) (ap (λ w. n ∷ w) rest)
      by false l true b false s own rest = rw (l, b, s, own, l) rest
      by false l false b false s own rest = rw (l, b, s) rest

pub merged_is : (t : List ℕ) (es : List Entry) → merged (linkage_of es) (places (is_asked ByName t) es) (places (is_asked BySimple t) es) ≡ places (is_listed t) es
merged_is t es = from (linkage_of es) t 0 es refl

-- marks that tell the linkage entries are these
pub marks_are : (es : List Entry) (marks : List Bool) → AreMarked es marks → marks ≡ linkage_of es
marks_are es marks h = ext_get_or false marks (linkage_of es) (h.size ∙ sym (length-map es (λ (e : Entry). e.linkage))) (λ k lt. h.each k false (omega (arith, lt, h.size)) false)
