-- Texts without a zero.
use Rattle.std.proofs.Common.{◌≡◌, ℕ, zero, suc, ◌-◌, ◌<◌, ◌≤◌, Bool, true, false, not, ◌&&◌, cond, eqb, List, [], ◌∷◌, ◌++◌, length, get_or, take, drop, position, Option, Some, None, unwrap_or, refl, sym, ap, ◌∙◌, subst, arith}
use Rattle.std.specs.Prelude.{flat_map, filter_map, reverse, codes, All, ⊤, ◌==◌}
use Rattle.std.specs.List.{list_all, join_by, cons_option, onto_first, position_or_len, AllByRecursion, suffix_len}
use Rattle.std.proofs.lemmas.Bool.{and_parts, and_from}
use Rattle.std.proofs.lemmas.List.{take-append-drop, get_or-reverse, length-reverse, length-take-le, get_or-take}
use Rattle.std.proofs.lemmas.List.Elements.{All-from_recursion, recursion_from_All, All-append, All-cons, All-nil}
use Rattle.std.proofs.lemmas.List.Folds.{list_all-append}
use Rattle.std.proofs.lemmas.List.Quantifiers.{position-Some}
use Rattle.std.proofs.lemmas.List.Sums.{fails_before_first}
use Rattle.std.proofs.lemmas.Grind.{common_steps}
use Rattle.std.proofs.lemmas.Option.{same_Some}
use Rattle.ix_base.specs.Reading.{before_zero, ◌>>=◌ as ◌>>=?◌}
use Rattle.index_model.specs.declared.rules.Class.{Class}
use Rattle.index_model.specs.declared.rules.Class.TheVariants.{C, Cxx, Ada, Plain}
use Rattle.index_model.specs.AdaNames.{pieces, shortened, is_coded, is_line, decoded, without_prefix, without_number, before_digits}
use Rattle.index_model.specs.Names.{Member, component, scoped_name, qualified_name}
use Rattle.index_model.proofs.Meanings.{bind_some}
use Rattle.index_alike.proofs.GdbPositions.{HasNoZero}

abbrev is_byte : ℕ → Bool
is_byte b = not (b == 0)

clean_cons : (b : ℕ) (bs : List ℕ) → is_byte b ≡ true → HasNoZero bs → HasNoZero (b ∷ bs)
clean_cons b bs is rest = and_from (is_byte b) (list_all is_byte bs) is rest

clean_parts : (b : ℕ) (bs : List ℕ) → HasNoZero (b ∷ bs) → (is_byte b ≡ true) × HasNoZero bs
clean_parts b bs h = and_parts (is_byte b) (list_all is_byte bs) h

pub clean_append : (xs ys : List ℕ) → HasNoZero xs → HasNoZero ys → HasNoZero (xs ++ ys)
clean_append xs ys h g = list_all-append is_byte xs ys ∙ and_from (list_all is_byte xs) (list_all is_byte ys) h g

both_clean : (n : ℕ) (xs : List ℕ) → HasNoZero xs → HasNoZero (take n xs) × HasNoZero (drop n xs)
both_clean n xs h = and_parts (list_all is_byte (take n xs)) (list_all is_byte (drop n xs)) (sym (list_all-append is_byte (take n xs) (drop n xs)) ∙ ap (list_all is_byte) (take-append-drop n xs) ∙ h)

-- ---- what stands before a zero

none_passes : (xs : List ℕ) → ((k : ℕ) → k < length xs → eqb (get_or xs k 0) 0 ≡ false) → HasNoZero xs
none_passes [] none = refl
none_passes (x ∷ xs) none = clean_cons x xs (ap not (none 0 (omega arith))) (none_passes xs (λ k lt. none (suc k) (omega (arith, lt))))

pub before_clean : (bytes text : List ℕ) → before_zero bytes ≡ Some text → HasNoZero text
before_clean bytes text e =
    let b = bind_some (position (λ b. b == 0) bytes) (λ k. Some (take k bytes)) text e in
    let p = position-Some (λ b. b == 0) bytes b.0 0 b.1 in
    let size : length (take b.0 bytes) ≡ b.0 = length-take-le b.0 bytes (omega (arith, p.0)) in
    subst HasNoZero (same_Some (take b.0 bytes) text b.2) (none_passes (take b.0 bytes) (λ k lt. ap (λ (n : ℕ). eqb n 0) (get_or-take b.0 bytes k 0 (omega (arith, lt, size))) ∙ p.2 k (omega (arith, lt, size))))

-- what stands before the first zero, or all where there is none
pub prefix_clean : (text : List ℕ) → HasNoZero (unwrap_or (before_zero text) text)
prefix_clean text = by (before_zero text) refl
  where
    none_found : position (λ b. b == 0) text ≡ None → length text ≤ position_or_len (λ b. b == 0) text
    none_found at = grind (arith, common_steps)

    none_at : (o : Option ℕ) → position (λ b. b == 0) text ≡ o → (o >>=? λ k. Some (take k text)) ≡ None → HasNoZero text
    none_at (Some k) at e = absurd cc
    none_at None at e =
        let end : length text ≤ position_or_len (λ b. b == 0) text = none_found at in
        none_passes text (λ k lt. fails_before_first (λ b. b == 0) text k 0 (omega (arith, end, lt)))

    by : (o : Option (List ℕ)) → before_zero text ≡ o → HasNoZero (unwrap_or o text)
    by (Some front) e = before_clean text front e
    by None e = none_at (position (λ b. b == 0) text) refl e

-- ---- pieces and joins

abbrev pub AreClean : List (List ℕ) → Type 0
AreClean = AllByRecursion HasNoZero

joined_clean : (sep : List ℕ) (ps : List (List ℕ)) → HasNoZero sep → AreClean ps → HasNoZero (join_by (λ part. part) sep ps)
joined_clean sep [] s all = refl
joined_clean sep (p ∷ ps) s all = clean_append p (flat_map (λ y. sep ++ y) ps) all.0 (others ps all.1)
  where
    others : (ps : List (List ℕ)) → AreClean ps → HasNoZero (flat_map (λ y. sep ++ y) ps)
    others [] all = refl
    others (p ∷ ps) all = clean_append (sep ++ p) (flat_map (λ y. sep ++ y) ps) (clean_append sep p s all.0) (others ps all.1)

onto_clean : (a : ℕ) (ps : List (List ℕ)) → is_byte a ≡ true → AreClean ps → AreClean (onto_first a ps)
onto_clean a [] is all = (clean_cons a [] is refl, tt)
onto_clean a (p ∷ ps) is all = (clean_cons a p is all.0, all.1)

-- of at most n bytes
pieces_clean : (n : ℕ) (name : List ℕ) → length name ≤ n → HasNoZero name → AreClean (pieces name)
unfolding pieces
pieces_clean n [] le h = (refl, tt)
pieces_clean n (a ∷ []) le h = (h, tt)
pieces_clean zero (a ∷ b ∷ bs) le h = absurd (omega (arith, le))
pieces_clean (suc n) (a ∷ b ∷ bs) le h =
    let p = clean_parts a (b ∷ bs) h in
    let q = clean_parts b bs p.1 in
    elim (is_line a && is_line b) as (λ c. AreClean (cond c ([] ∷ pieces bs) (onto_first a (pieces (b ∷ bs))))) [
      | true ↦ (refl, pieces_clean n bs (omega (arith, le)) q.1)
      | false ↦ onto_clean a (pieces (b ∷ bs)) p.0 (pieces_clean n (b ∷ bs) (omega (arith, le)) p.1)
    ]

picked : (b : Bool) (x y : List ℕ) → HasNoZero x → HasNoZero y → HasNoZero (cond b x y)
picked true x y h g = h
picked false x y h g = g

shortened_clean : (name : List ℕ) → HasNoZero name → HasNoZero (shortened name)
unfolding without_number
shortened_clean name h = number (without_prefix name) (picked _ (drop 5 name) name (both_clean 5 name h).1 h)
  where
    number : (name : List ℕ) → HasNoZero name → HasNoZero (without_number name)
    number name h =
        let stem = before_digits name in
        let s : HasNoZero stem = (both_clean (length name - suffix_len _ name) name h).0 in
        picked _ (take (length stem - 2) stem) name (both_clean (length stem - 2) stem s).0 h

decoded_clean : (name : List ℕ) → HasNoZero name → HasNoZero (decoded name)
unfolding decoded
decoded_clean name h = picked (is_coded name) (join_by (λ piece. piece) (codes ".") (pieces (shortened name))) name (joined_clean (codes ".") (pieces (shortened name)) refl (pieces_clean (length (shortened name)) (shortened name) (omega arith) (shortened_clean name h))) h

-- ---- qualified names

-- a name that is there has no zero
abbrev pub IsClean : Option (List ℕ) → Type 0
IsClean None = ⊤
IsClean (Some name) = HasNoZero name

pub clean_some : (o : Option (List ℕ)) (name : List ℕ) → o ≡ Some name → IsClean o → HasNoZero name
clean_some o name e c = subst IsClean e c

abbrev pub AreMembers : List Member → Type 0
AreMembers = AllByRecursion (λ m. IsClean m.name)

component_clean : (m : Member) → IsClean m.name → IsClean (component m)
unfolding component
component_clean m h = chosen _ m.name h
  where
    chosen : (b : Bool) (o : Option (List ℕ)) → IsClean o → IsClean (cond b o None)
    chosen true o h = h
    chosen false o h = tt

components_clean : (path : List Member) → AreMembers path → AreClean (filter_map component path)
components_clean [] all = tt
components_clean (m ∷ ms) all = put (component m) (component_clean m all.0) (components_clean ms all.1)
  where
    put : (o : Option (List ℕ)) → IsClean o → AreClean (filter_map component ms) → AreClean (cons_option o (filter_map component ms))
    put None h rest = rest
    put (Some name) h rest = (h, rest)

reversed_clean : (ps : List (List ℕ)) → AreClean ps → AreClean (reverse ps)
reversed_clean ps all = recursion_from_All HasNoZero (reverse ps) (λ k d lt.
    let within : k < length ps = omega (arith, lt, length-reverse ps) in
    subst HasNoZero (sym (get_or-reverse ps k d within)) (All-from_recursion HasNoZero ps all (length ps - 1 - k) d (omega (arith, within))))

pub qualified_clean : (class : Class) (path : List Member) (name : List ℕ) → AreMembers path → HasNoZero name → HasNoZero (qualified_name class path name)
unfolding qualified_name scoped_name
qualified_clean C path name all h = h
qualified_clean Plain path name all h = h
qualified_clean Ada path name all h = decoded_clean name h
qualified_clean Cxx path name all h =
    let outer = reverse (filter_map component path) in
    let clean : All HasNoZero outer = All-from_recursion HasNoZero outer (reversed_clean (filter_map component path) (components_clean path all)) in
    joined_clean (codes "::") (outer ++ name ∷ []) refl (recursion_from_All HasNoZero (outer ++ name ∷ []) (All-append HasNoZero outer (name ∷ []) clean (All-cons HasNoZero name [] h (All-nil HasNoZero))))
