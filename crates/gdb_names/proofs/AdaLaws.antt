-- Names of Ada, and the pieces of their scopes.
use Rattle.std.proofs.Common.{◌≡◌, ℕ, ◌+◌, ◌-◌, ◌<◌, ◌≤◌, List, [], ◌∷◌, ◌++◌, length, take, drop, get_or, reverse, refl, sym, ap, ◌∙◌, arith}
use Rattle.std.specs.Prelude.{Some, None, codes}
use Rattle.std.specs.Borrow.{Bor}
use Rattle.std.specs.List.{join_by}
use Rattle.std.proofs.lemmas.List.{append-nil, append_assoc, reverse-append, map_more, drop_more, take_rest}
use Rattle.gdb_entries.specs.Names.{ada_pieces}
use Rattle.ada_spelling.specs.AdaNames.{decoded}
use Rattle.gdb_names.specs.Seen.{contents, joined_by}

-- ---- one name

-- what is around a decoded name gives nothing
piece_decoded : (name whole : List ℕ) (outer : List (List ℕ)) → decoded name ≡ Some whole → ada_pieces (name ∷ outer) ≡ whole ∷ []
unfolding ada_pieces
piece_decoded name whole outer e = rw e refl

-- what isn't decoded stands for itself
piece_kept : (name : List ℕ) (outer : List (List ℕ)) → decoded name ≡ None → ada_pieces (name ∷ outer) ≡ name ∷ ada_pieces outer
unfolding ada_pieces
piece_kept name outer e = rw e refl

no_pieces : ada_pieces [] ≡ []
unfolding ada_pieces
no_pieces = refl

-- pieces from the innermost outwards, with points between, the outermost first
abbrev points : List (List ℕ) → List ℕ
points names = join_by (λ piece. piece) (codes ".") (reverse names)

pub name_decoded : (name whole : List ℕ) (outer : List (List ℕ)) → Some whole ≡ decoded name → whole ≡ points (ada_pieces (name ∷ outer))
name_decoded name whole outer e = sym (ap points (piece_decoded name whole outer (sym e)) ∙ append-nil whole)

pub name_kept : (name : List ℕ) (outer : List (List ℕ)) → None ≡ decoded name → joined_by (codes ".") (reverse (ada_pieces outer)) name ≡ points (ada_pieces (name ∷ outer))
name_kept name outer e =
    sym (ap points (piece_kept name outer (sym e)) ∙ ap (λ (names : List (List ℕ)). join_by (λ piece. piece) (codes ".") names) (reverse-append (name ∷ []) (ada_pieces outer)))

-- ---- the pieces of a scope

-- those of these components; both stand from the outermost inwards
abbrev pub pieces : List (List ℕ) → List (List ℕ)
pieces components = reverse (ada_pieces (reverse components))

pub pieces_of_none : pieces [] ≡ []
pieces_of_none = ap reverse no_pieces

decoded_in : (outer : List (List ℕ)) (name whole : List ℕ) → decoded name ≡ Some whole → pieces (outer ++ name ∷ []) ≡ whole ∷ []
decoded_in outer name whole e =
    ap (λ (names : List (List ℕ)). reverse (ada_pieces names)) (reverse-append outer (name ∷ [])) ∙ ap reverse (piece_decoded name whole (reverse outer) e)

kept_in : (outer : List (List ℕ)) (name : List ℕ) → decoded name ≡ None → pieces (outer ++ name ∷ []) ≡ pieces outer ++ name ∷ []
kept_in outer name e =
    ap (λ (names : List (List ℕ)). reverse (ada_pieces names)) (reverse-append outer (name ∷ []))
    ∙ ap reverse (piece_kept name (reverse outer) e)
    ∙ reverse-append (name ∷ []) (ada_pieces (reverse outer))

module _ (components : List (Bor (List ℕ))) where
  -- the pieces of the first few, and the others as they stand
  abbrev from : ℕ → List (List ℕ)
  from at = pieces (contents (take at components)) ++ contents (drop at components)

  abbrev front : ℕ → List (List ℕ)
  front k = contents (take k components)

  decoded_next : (k : ℕ) (d : Bor (List ℕ)) (whole : List ℕ) → k < length components → decoded (get_or components k d).now ≡ Some whole → from (k + 1) ≡ whole ∷ contents (drop (k + 1) components)
  decoded_next k d whole h e =
      let next = ap pieces (map_more (λ component. component.now) components k d h) ∙ decoded_in (front k) (get_or components k d).now whole e in
      ap (λ (names : List (List ℕ)). names ++ contents (drop (k + 1) components)) next

  kept_next : (k : ℕ) (d : Bor (List ℕ)) → k < length components → decoded (get_or components k d).now ≡ None → from k ≡ from (k + 1)
  kept_next k d h e =
      let name = (get_or components k d).now in
      let behind = contents (drop (k + 1) components) in
      let next = ap pieces (map_more (λ component. component.now) components k d h) ∙ kept_in (front k) name e in
      ap (λ (cs : List (Bor (List ℕ))). pieces (front k) ++ contents cs) (drop_more components k d h)
      ∙ sym (append_assoc (pieces (front k)) (name ∷ []) behind)
      ∙ ap (λ (names : List (List ℕ)). names ++ behind) (sym next)

  -- the last of the first few is decoded: those around it give nothing
  pub decoded_last :
      (at : ℕ) (d : Bor (List ℕ)) (whole : List ℕ) (all : List (List ℕ)) → 0 < at → at ≤ length components → Some whole ≡ decoded (get_or components (at - 1) d).now → from at ≡ all
      → whole ∷ contents (take (length components - at) (drop at components)) ≡ all
  decoded_last at d whole all h l e left =
      let back : (at - 1) + 1 ≡ at = omega arith in
      let here : from at ≡ whole ∷ contents (drop at components) = rw back at (decoded_next (at - 1) d whole (omega arith) (sym e)) in
      rw (take_rest components at) (sym here ∙ left)

  -- it isn't: it stands as it is
  pub kept_last : (at : ℕ) (d : Bor (List ℕ)) → 0 < at → at ≤ length components → None ≡ decoded (get_or components (at - 1) d).now → from (at - 1) ≡ from at
  kept_last at d h l e =
      let back : (at - 1) + 1 ≡ at = omega arith in
      rw back at (kept_next (at - 1) d (omega arith) (sym e))
