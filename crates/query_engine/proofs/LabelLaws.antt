-- The labels of entries, and one label more.
use Rattle.std.proofs.Common.{◌≡◌, ℕ, ◌+◌, ◌<◌, Bool, true, false, cond, List, [], ◌∷◌, ◌++◌, length, get_or, take, drop, map, refl, sym, ap, ◌∙◌, arith}
use Rattle.std.proofs.lemmas.List.{get_or-map, map-append, take_more, length-take}
use Rattle.std.specs.List.{enumerate_from}
use Rattle.index_model.specs.declared.entry.Entry.{Entry}
use Rattle.query_engine.specs.declared.label.Label.{Label}
use Rattle.query_engine.specs.Labels.{labelled, label_of, labels_from}
use Rattle.query_engine.specs.Marks.{text_with}
use Rattle.query_engine.specs.Pairs.{Pair}
use Rattle.query_engine.specs.Seen.{labels_seen}
use Rattle.query_engine.proofs.SeenLaws.{enumerate_append}

abbrev pub Placed : Type 0
Placed = ℕ × Entry

abbrev pub label_list : Label → List ℕ
label_list l = labelled l.linkage l.tail l.name.now

abbrev pub placed : Placed → Pair
placed e = (e.0, label_of e.1)

pub label_seen : (ls : List Label) (k : ℕ) (x : Label) → k < length ls → x ≡ get_or ls k x → text_with (labels_seen ls) k ≡ label_list x
label_seen ls k x lt is = get_or-map label_list ls k x [] lt ∙ ap label_list (sym is)

pub labels_append : (n : ℕ) (es fs : List Entry) → labels_from n (es ++ fs) ≡ labels_from n es ++ labels_from (n + length es) fs
labels_append n es fs = ap (map placed) (enumerate_append n es fs) ∙ map-append placed (enumerate_from n es) (enumerate_from (n + length es) fs)

pub labels_push : (n : ℕ) (es : List Entry) (i : ℕ) (e : Entry) → i < length es → e ≡ get_or es i e → labels_from n (take (i + 1) es) ≡ labels_from n (take i es) ++ (n + i, label_of e) ∷ []
labels_push n es i e lt is =
    let front : take (i + 1) es ≡ take i es ++ e ∷ [] = rw (take_more es i e lt, ← is) refl in
    let size : length (take i es) ≡ i = omega (arith, length-take i es) in
    ap (labels_from n) front ∙ labels_append n (take i es) (e ∷ []) ∙ ap (λ (k : ℕ). labels_from n (take i es) ++ labels_from (n + k) (e ∷ [])) size

-- ---- a label that is an entry's own

pub record IsLabelOf (l : Label) (e : Entry) : Type 0 where
  pub linkage : l.linkage ≡ e.linkage
  pub tail : l.tail ≡ e.tail
  pub name : l.name.now ≡ e.name

abbrev flag : Bool → ℕ
flag b = cond b 1 0

same_flag : (a b : Bool) → flag a ≡ flag b → a ≡ b
same_flag true true e = refl
same_flag false false e = refl
same_flag true false e = absurd (omega (arith, e))
same_flag false true e = absurd (omega (arith, e))

pub label_is : (l : Label) (e : Entry) → label_list l ≡ label_of e → IsLabelOf l e
label_is l e same = record {
  linkage = same_flag l.linkage e.linkage (ap (λ (w : List ℕ). get_or w 0 0) same);
  tail = ap (λ (w : List ℕ). get_or w 1 0) same;
  name = ap (λ (w : List ℕ). drop 2 w) same;
}
