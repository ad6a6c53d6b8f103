-- The texts of entries stand in the unit.
use Rattle.std.proofs.Common.{◌≡◌, ℕ, ◌+◌, ◌-◌, ◌<◌, ◌≤◌, eqb, List, [], ◌∷◌, length, take, drop, sym, ap, subst, ◌∙◌, arith, length-take, length-drop, ⊎_elim}
use Rattle.std.specs.Prelude.{Contains, find}
use Rattle.std.proofs.lemmas.List.{drop-drop, drop-take, take-append-drop, take-append-le}
use Rattle.common_laws.proofs.Members.{contains_cases, of_find}
use Rattle.common_laws.proofs.Options.{of_option_map}
use Rattle.ix_base.specs.Reading.{Input}
use Rattle.index_model.specs.declared.unit.Unit.{Unit as UnitHeader}
use Rattle.index_model.specs.Sections.{Section}
use Rattle.index_model.specs.Forms.{Value, Inline}
use Rattle.index_model.specs.Walk.{Item, Token, Null, Entry, Levels, walk_of}
use Rattle.index_model.specs.WalkLeft.{levels_after}
use Rattle.index_model.specs.Program.{Walked, items_of, joint, body}
use Rattle.index_model.specs.LawsTexts.{StandsIn, StandsInEntry, InlineTextsStandInTheirEntries, AttributeTextsStandInTheirEntries}
use Rattle.index_model.proofs.TokenReads.{Follow, start, walk_follows}
use Rattle.index_model.proofs.OrderLaws.{entries, bounded}
use Rattle.index_model.proofs.Scans.{walked_read}

-- the text stands in what is left, inside the entry
record IsWithin (i : Input) (d : Item) (text : List ℕ) : Type 0 where
  place : ℕ
  begins : d.at ≤ i.at + place
  ends : i.at + place + length text ≤ d.after
  is : take (length text) (drop place i.rest) ≡ text

-- so many bytes further
further : (n : ℕ) (i j : Input) (d : Item) (text : List ℕ) → i.at + n ≡ j.at → drop n i.rest ≡ j.rest → IsWithin j d text → IsWithin i d text
further n i j d text at rest p = record {
  place = n + p.place;
  begins = omega (arith, at, p.begins);
  ends = omega (arith, at, p.ends);
  is = ap (take (length text)) (sym (drop-drop p.place n i.rest) ∙ ap (drop p.place) rest) ∙ p.is;
}

within : (open_ : Levels) (i : Input) (ts : List Token) → Follow open_ i ts → (d : Item) → Contains (entries ts) d → (n : ℕ) (text : List ℕ) → Contains d.values (n, Inline text) → IsWithin i d text
within open_ i [] f d c n text v = absurd (omega (arith, c.1))
within open_ i (Null depth after ∷ ts) f d c n text v =
    further f.2.bytes i f.1 d text (ap (λ (x : Input). x.at) f.2.passes.on) (ap (λ (x : Input). x.rest) f.2.passes.on) (within (levels_after open_ (Null depth after)) f.1 ts f.3 d c n text v)
within open_ i (Entry e ∷ ts) f d c n text v = ⊎_elim
    (λ (same : e ≡ d).
    let own : Contains e.values (n, Inline text) = subst (λ (x : Item). Contains x.values (n, Inline text)) (sym same) v in
    let p = f.2.texts n text own in
    record {
      place = p.place;
      begins = omega (arith, ap (λ (x : Item). x.at) same, f.2.says.0);
      ends = omega (arith, ap (λ (x : Item). x.after) same, f.2.says.2, p.ends);
      is = p.is;
    })
    (λ (later : Contains (entries ts) d).
    further f.2.bytes i f.1 d text (ap (λ (x : Input). x.at) f.2.passes.on) (ap (λ (x : Input). x.rest) f.2.passes.on) (within (levels_after open_ (Entry e)) f.1 ts f.3 d later n text v))
    (contains_cases e (entries ts) d c)

-- the bytes behind a header are those of the unit
module _ (len head first : ℕ) (all : List ℕ) (inside : head ≤ len) where
  behind_header : (place : ℕ) → drop (head + place) (take len (drop first all)) ≡ drop place (take (len - head) (drop (first + head) all))
  behind_header place =
      let n : len ≡ head + (len - head) = omega (arith, inside) in
      sym (drop-drop place head (take len (drop first all))) ∙ ap (λ (k : ℕ). drop place (drop head (take k (drop first all)))) n ∙ ap (drop place) (drop-take head (len - head) (drop first all)) ∙ ap (λ (xs : List ℕ). drop place (take (len - head) xs)) (drop-drop head first all)

stands : (ss : List Section) (u : UnitHeader) (d : Item) (text : List ℕ) → u.start + u.body ≤ d.at → d.at < d.after → d.after ≤ u.start + u.body + length (body ss u).rest → IsWithin (body ss u) d text → StandsInEntry ss u d text
stands ss u d text from some le p =
    let all = drop (u.start + u.body) (joint ss) in
    let n = length-take (u.length - u.body) all in
    let own = length-drop (u.start + u.body) (joint ss) in
    let whole = length-take u.length (drop u.start (joint ss)) in
    let unit = length-drop u.start (joint ss) in
    let h : u.body ≤ u.length = omega (arith, from, some, le, n) in
    record {
      place = u.body + p.place;
      begins = omega (arith, p.begins);
      ends = omega (arith, p.ends);
      inside = omega (arith, from, some, le, p.ends, n, own, whole, unit, h);
      is = ap (take (length text)) (behind_header u.length u.body u.start (joint ss) h p.place) ∙ p.is;
    }

pub texts_in : InlineTextsStandInTheirEntries
texts_in ss u w is d c n text v =
    let r = walked_read ss u w is in
    let tokens : List Token = (walk_of u.1 r.0 (body ss u.1)).tokens in
    let f : Follow start (body ss u.1) tokens = walk_follows u.1 r.0 (body ss u.1) in
    let own : Contains (entries tokens) d = subst (λ (x : Walked). Contains (items_of x) d) (sym r.1) c in
    let b = bounded start (body ss u.1) tokens f d own in
    stands ss u.1 d text b.0 b.1 b.2 (within start (body ss u.1) tokens f d own n text v)

pub attribute_texts_in : AttributeTextsStandInTheirEntries
attribute_texts_in ss u w is d c n text v =
    let f = of_option_map (λ (x : ℕ × Value). x.1) (find (λ x. eqb x.0 n) d.values) (Inline text) v in
    let m = of_find (λ x. eqb x.0 n) d.values f.0 f.1 in
    let same : f.0 ≡ (f.0.0, Inline text) = ap (λ (y : Value). let x : ℕ × Value = (f.0.0, y) in x) f.2 in
    texts_in ss u w is d c f.0.0 text (subst (Contains d.values) same m.0)

-- a text that stands between two places stands in the bytes between them
module _ (bytes text : List ℕ) (from to : ℕ) (s : StandsIn bytes text from to) where
  abbrev part : List ℕ
  part = take (to - from) (drop from bytes)

  pub in_part : StandsIn part text 0 (to - from)
  in_part =
      let k = s.place - from in
      let r = to - s.place in
      let size : to - from ≡ k + r = omega (arith, s.begins, s.ends) in
      let at : from + k ≡ s.place = omega (arith, s.begins) in
      let rest = drop s.place bytes in
      let cut = length-take r rest in
      let left = length-drop s.place bytes in
      let fits : length text ≤ length (take r rest) = omega (arith, s.ends, s.inside, cut, left) in
      let moved : drop k part ≡ take r rest = ap (λ (n : ℕ). drop k (take n (drop from bytes))) size ∙ drop-take k r (drop from bytes) ∙ ap (take r) (drop-drop k from bytes ∙ ap (λ (n : ℕ). drop n bytes) at) in
      let same : take (length text) (take r rest) ≡ take (length text) rest = sym (take-append-le (length text) (take r rest) (drop r rest) fits) ∙ ap (take (length text)) (take-append-drop r rest) in
      record {
        place = k;
        begins = omega arith;
        ends = omega (arith, s.begins, s.ends);
        inside = omega (arith, s.begins, s.ends, s.inside, length-take (to - from) (drop from bytes), length-drop from bytes);
        is = ap (take (length text)) moved ∙ same ∙ s.is;
      }
