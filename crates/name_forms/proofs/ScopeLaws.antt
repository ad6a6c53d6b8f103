-- A name behind its scope, component by component.
use Rattle.std.proofs.Common.{◌≡◌, ℕ, ◌+◌, ◌<◌, List, [], ◌∷◌, ◌++◌, length, take, get_or, flat_map, filter_map, reverse, refl, sym, ap, ◌∙◌, arith, length-append, append-nil, add-one, min}
use Rattle.std.specs.Prelude.{codes, option_map, Option, Some, None}
use Rattle.std.specs.Borrow.{Bor}
use Rattle.std.specs.List.{join_by, cons_option}
use Rattle.std.proofs.Math.Seq.{take-suc}
use Rattle.std.proofs.lemmas.Bool.Decides.{nat_tests}
use Rattle.std.proofs.lemmas.List.{append_assoc, reverse-append}
use Rattle.std.proofs.lemmas.List.Concat.{flat_map-append}
use Rattle.std.proofs.lemmas.List.Elements.{filter_map-append}
use Rattle.index_model.specs.Names.{Member, component, scoped_name}
use Rattle.name_forms.specs.Scoped.{parts, joined}

-- each component with its separator
abbrev pub prefix : List (List ℕ) → List ℕ
prefix ps = flat_map (λ part. part ++ codes "::") ps

separated : (ps : List (List ℕ)) (name : List ℕ) → flat_map (λ part. codes "::" ++ part) (ps ++ name ∷ []) ≡ codes "::" ++ (prefix ps ++ name)
separated [] name = ap (λ (r : List ℕ). 58 ∷ 58 ∷ r) (append-nil name)
separated (p ∷ ps) name = ap (λ (r : List ℕ). codes "::" ++ (p ++ r)) (separated ps name) ∙ ap (λ (r : List ℕ). codes "::" ++ r) (sym (append_assoc p (codes "::") (prefix ps ++ name)) ∙ sym (append_assoc (p ++ codes "::") (prefix ps) name))

-- the join puts each component with its separator before the name
pub joined_is : (ps : List (List ℕ)) (name : List ℕ) → join_by (λ part. part) (codes "::") (ps ++ name ∷ []) ≡ prefix ps ++ name
joined_is [] name = append-nil name
joined_is (p ∷ ps) name = ap (λ (r : List ℕ). p ++ r) (separated ps name) ∙ sym (append_assoc p (codes "::") (prefix ps ++ name)) ∙ sym (append_assoc (p ++ codes "::") (prefix ps) name)

prefix-append : (ps qs : List (List ℕ)) → prefix (ps ++ qs) ≡ prefix ps ++ prefix qs
prefix-append ps qs = flat_map-append (λ part. part ++ codes "::") ps qs

-- the order doesn't change the length
pub prefix_reverse : (ps : List (List ℕ)) → length (prefix (reverse ps)) ≡ length (prefix ps)
prefix_reverse [] = refl
prefix_reverse (p ∷ ps) =
    let turned : reverse (p ∷ ps) ≡ reverse ps ++ p ∷ [] = reverse-append (p ∷ []) ps in
    let split = ap prefix turned ∙ prefix-append (reverse ps) (p ∷ []) in
    omega (arith, ap length split, length-append (prefix (reverse ps)) (prefix (p ∷ [])), prefix_reverse ps, length-append (p ++ codes "::") (prefix ps), ap length (append-nil (p ++ codes "::")))

abbrev given : Option (Bor (List ℕ)) → Option (List ℕ)
given m = option_map (λ part. part.now) m

parts-append : (path : List (Option (Bor (List ℕ)))) (m : Option (Bor (List ℕ))) → parts (path ++ m ∷ []) ≡ parts path ++ cons_option (given m) []
parts-append path m = filter_map-append given path (m ∷ [])

-- the outermost member gives the first component
pub outermost_some : (path rest : List (Option (Bor (List ℕ)))) (part : Bor (List ℕ)) → path ≡ rest ++ Some part ∷ [] → prefix (reverse (parts path)) ≡ (part.now ++ codes "::") ++ prefix (reverse (parts rest))
outermost_some path rest part e = ap (λ (p : List (Option (Bor (List ℕ)))). prefix (reverse (parts p))) e ∙ ap (λ (ps : List (List ℕ)). prefix (reverse ps)) (parts-append rest (Some part)) ∙ ap prefix (reverse-append (parts rest) (part.now ∷ []))

-- an outermost member without a component gives nothing
pub outermost_none : (path rest : List (Option (Bor (List ℕ)))) → path ≡ rest ++ None ∷ [] → prefix (reverse (parts path)) ≡ prefix (reverse (parts rest))
outermost_none path rest e = ap (λ (p : List (Option (Bor (List ℕ)))). prefix (reverse (parts p))) e ∙ ap (λ (ps : List (List ℕ)). prefix (reverse ps)) (parts-append rest None ∙ append-nil (parts rest))

-- one member more adds its component and a separator
pub more_some : (path : List (Option (Bor (List ℕ)))) (i : ℕ) (part : Bor (List ℕ)) → i < length path → get_or path i None ≡ Some part → length (prefix (parts (take (i + 1) path))) ≡ length (prefix (parts (take i path))) + (length part.now + 2)
more_some path i part lt e =
    let front : take (i + 1) path ≡ take i path ++ Some part ∷ [] = rw add-one (take-suc path i None lt ∙ ap (λ (m : Option (Bor (List ℕ))). take i path ++ m ∷ []) e) in
    let split = ap (λ (p : List (Option (Bor (List ℕ)))). prefix (parts p)) front ∙ ap prefix (parts-append (take i path) (Some part)) ∙ prefix-append (parts (take i path)) (part.now ∷ []) in
    omega (arith, ap length split, length-append (prefix (parts (take i path))) (prefix (part.now ∷ [])), ap length (append-nil (part.now ++ codes "::")), length-append part.now (codes "::"))

-- or nothing
pub more_none : (path : List (Option (Bor (List ℕ)))) (i : ℕ) → i < length path → get_or path i None ≡ None → prefix (parts (take (i + 1) path)) ≡ prefix (parts (take i path))
more_none path i lt e =
    let front : take (i + 1) path ≡ take i path ++ None ∷ [] = rw add-one (take-suc path i None lt ∙ ap (λ (m : Option (Bor (List ℕ))). take i path ++ m ∷ []) e) in
    ap (λ (p : List (Option (Bor (List ℕ)))). prefix (parts p)) front ∙ ap prefix (parts-append (take i path) None ∙ append-nil (parts (take i path)))

-- two sums that stop at a greatest number
pub saturates : (top a b c p s n : ℕ) → a ≡ min top (s + n) → b ≡ min (a + p) top → c ≡ min (b + 2) top → (t : ℕ) → t ≡ s + (p + 2) → c ≡ min top (t + n)
saturates top a b c p s n ha hb hc t ht = grind (arith, nat_tests)

pub empty : {A : Type 0} (xs : List A) → length xs ≡ 0 → xs ≡ []
empty [] e = refl
empty (x ∷ xs) e = absurd (omega (arith, e))

-- the name of the definitions is that of the path's components
pub scoped_name_is : (path : List Member) (name : List ℕ) → scoped_name path name ≡ joined (filter_map component path) name
unfolding scoped_name
scoped_name_is path name = refl
