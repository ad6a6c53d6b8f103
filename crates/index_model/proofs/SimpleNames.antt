-- A qualified name ends with its simple name.
use Rattle.std.proofs.Common.{◌≡◌, ℕ, ◌-◌, true, false, cond, List, [], ◌∷◌, ◌++◌, length, drop, Some, None, refl, ap, ◌∙◌, arith, append_assoc, length-append}
use Rattle.std.specs.Prelude.{flat_map, filter_map, reverse, codes, option_map, unwrap_or}
use Rattle.std.specs.List.{join_by}
use Rattle.std.proofs.lemmas.List.{append-nil, drop_at}
use Rattle.index_model.specs.declared.rules.Class.{Class}
use Rattle.index_model.specs.declared.rules.Class.TheVariants.{C, Cxx, Ada, Plain}
use Rattle.index_model.specs.AdaNames.{pieces, shortened, is_coded, decoded, decoded_simple, last_of}
use Rattle.index_model.specs.Names.{Member, component, scoped_name, qualified_name, simple_name}
use Rattle.index_model.specs.Links.{name_in}
use Rattle.index_model.specs.Entries.{entry_of}
use Rattle.index_model.specs.LawsEntries.{SimpleNameIsTheEnd}

-- the text ends with this one
abbrev EndsWith : List ℕ → List ℕ → Type 0
EndsWith end text = (front : List ℕ) × (text ≡ front ++ end)

module _ (sep : List ℕ) where
  abbrev joined : List (List ℕ) → List ℕ
  joined = join_by (λ part. part) sep

  abbrev others : List (List ℕ) → List ℕ
  others = flat_map (λ y. sep ++ y)

  -- joined pieces end with the last of them
  joined_ends : (ps : List (List ℕ)) → EndsWith (last_of ps) (joined ps)
  joined_ends [] = ([], refl)
  joined_ends (p ∷ []) = ([], append-nil p)
  joined_ends (p ∷ q ∷ ps) =
      let r = joined_ends (q ∷ ps) in
      let a : p ++ ((sep ++ q) ++ others ps) ≡ (p ++ sep) ++ (q ++ others ps) = simp append_assoc in
      let b : (p ++ sep) ++ (r.0 ++ last_of (q ∷ ps)) ≡ ((p ++ sep) ++ r.0) ++ last_of (q ∷ ps) = simp append_assoc in
      ((p ++ sep) ++ r.0, a ∙ ap (λ (x : List ℕ). (p ++ sep) ++ x) r.1 ∙ b)

last_push : (xs : List (List ℕ)) (y : List ℕ) → last_of (xs ++ y ∷ []) ≡ y
last_push [] y = refl
last_push (x ∷ []) y = refl
last_push (x ∷ z ∷ xs) y = last_push (z ∷ xs) y

decoded_ends : (name : List ℕ) → EndsWith (decoded_simple name) (decoded name)
unfolding decoded decoded_simple
decoded_ends name = elim (is_coded name) as (λ b. EndsWith (cond b (last_of (pieces (shortened name))) name) (cond b (join_by (λ piece. piece) (codes ".") (pieces (shortened name))) name)) [
  | true ↦ joined_ends (codes ".") (pieces (shortened name))
  | false ↦ ([], refl)
]

qualified_ends : (class : Class) (path : List Member) (name : List ℕ) → EndsWith (simple_name class name) (qualified_name class path name)
unfolding qualified_name simple_name scoped_name
qualified_ends C path name = ([], refl)
qualified_ends Plain path name = ([], refl)
qualified_ends Cxx path name =
    let outer = reverse (filter_map component path) in
    let r = joined_ends (codes "::") (outer ++ name ∷ []) in
    (r.0, r.1 ∙ ap (λ (x : List ℕ). r.0 ++ x) (last_push outer name))
qualified_ends Ada path name = decoded_ends name

-- so many bytes at the end are the end
end_of : (end text : List ℕ) → EndsWith end text → drop (length text - length end) text ≡ end
end_of end text h =
    let n : length h.0 ≡ length (h.0 ++ end) - length end = omega (arith, length-append h.0 end) in
    ap (λ (x : List ℕ). drop (length x - length end) x) h.1 ∙ drop_at h.0 end (length (h.0 ++ end) - length end) n

pub simple_name_ends : SimpleNameIsTheEnd
unfolding entry_of
simple_name_ends k = elim (name_in k) as (λ name. drop (length (unwrap_or (option_map (qualified_name k.class k.path) name) []) - length (unwrap_or (option_map (simple_name k.class) name) [])) (unwrap_or (option_map (qualified_name k.class k.path) name) []) ≡ unwrap_or (option_map (simple_name k.class) name) []) [
  | None ↦ refl
  | Some name ↦ end_of (simple_name k.class name) (qualified_name k.class k.path name) (qualified_ends k.class k.path name)
]
