-- A text that stands in bytes is found there.
use Rattle.std.proofs.Common.{◌≡◌, ℕ, ◌+◌, ◌-◌, ◌<◌, ◌≤◌, min, List, length, take, drop, get_or, sym, ap, ◌∙◌, arith, length-drop}
use Rattle.std.proofs.lemmas.List.{ext_get_or, get_or-take, get_or-drop, length-take}
use Rattle.memchr.specs.Find.{OccursAt}
use Rattle.index_model.specs.LawsTexts.{StandsIn}

-- where a text occurs it can be cut out
pub cut_out : (hay text : List ℕ) (k n : ℕ) → n ≡ length text → OccursAt hay text k → take n (drop k hay) ≡ text
cut_out hay text k n is h =
    let long : length (take n (drop k hay)) ≡ length text = omega (arith, is, h.fits, length-take n (drop k hay), length-drop k hay) in
    ext_get_or 0 (take n (drop k hay)) text long (λ i lt.
    let within : i < n = omega (arith, is, long, lt) in
    let short : i < length text = omega (arith, is, long, lt) in
    get_or-take n (drop k hay) i 0 within ∙ get_or-drop k hay i 0 ∙ h.reads i short)

-- a text that stands between two places occurs in the bytes between them
pub occurs : (bytes text : List ℕ) (from to f t : ℕ) (h : StandsIn bytes text from to) → t ≡ min to (length bytes) → f ≡ min from t → OccursAt (take (t - f) (drop f bytes)) text (h.place - f)
occurs bytes text from to f t h ti fi =
    let low : f ≤ h.place = omega (arith, fi, h.begins) in
    let high : h.place + length text ≤ t = omega (arith, ti, h.ends, h.inside) in
    record {
      fits = omega (arith, low, high, ti, length-take (t - f) (drop f bytes), length-drop f bytes);
      reads = λ j lt.
          let within : h.place - f + j < t - f = omega (arith, low, high, lt) in
          let same : f + (h.place - f + j) ≡ h.place + j = omega (arith, low) in
          let here : get_or (take (length text) (drop h.place bytes)) j 0 ≡ get_or bytes (h.place + j) 0 = get_or-take (length text) (drop h.place bytes) j 0 lt ∙ get_or-drop h.place bytes j 0 in
          get_or-take (t - f) (drop f bytes) (h.place - f + j) 0 within ∙ get_or-drop f bytes (h.place - f + j) 0 ∙ ap (λ (i : ℕ). get_or bytes i 0) same ∙ sym here ∙ ap (λ (xs : List ℕ). get_or xs j 0) h.is;
    }
