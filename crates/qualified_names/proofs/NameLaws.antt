-- Qualified names by their components and by their lengths.
use Rattle.std.proofs.Common.{◌≡◌, ℕ, Bool, true, false, ◌&&◌, ◌||◌, eqb, List, [], ◌∷◌, ◌++◌, map, filter_map, reverse, length, length-append, append-nil, Option, option_map, refl, sym, ap, ◌∙◌, arith}
use Rattle.std.specs.Prelude.{codes, bytes_eq}
use Rattle.std.specs.Borrow.{Bor}
use Rattle.std.specs.List.{cons_option, list_any}
use Rattle.std.proofs.lemmas.Bool.{true≢false, false≢true, and_parts, eqb-true, eq-eqb, and_from, or_right}
use Rattle.std.proofs.lemmas.Slice.Eq.{bytes_eq-Decides}
use Rattle.common_laws.proofs.Booleans.{same_each_way}
use Rattle.index_model.specs.declared.rules.Class.{Class}
use Rattle.index_model.specs.declared.rules.Class.TheVariants.{C, Cxx, Ada, Plain}
use Rattle.index_model.specs.AdaNames.{decoded}
use Rattle.index_model.specs.MainProgram.{is_c_or_cxx}
use Rattle.index_model.specs.Names.{Member, component, qualified_name, scoped_name}
use Rattle.name_forms.specs.Scoped.{parts, joined}
use Rattle.name_forms.proofs.ScopeLaws.{prefix, joined_is, scoped_name_is, empty}
use Rattle.name_forms.proofs.StayLaws.{stays}

-- ---- components

module _ {A B : Type 0} (f : A → Option B) where
  filter_map_by : (xs : List A) → filter_map f xs ≡ filter_map (λ o. o) (map f xs)
  filter_map_by [] = refl
  filter_map_by (x ∷ xs) = ap (cons_option (f x)) (filter_map_by xs)

abbrev text : Option (Bor (List ℕ)) → Option (List ℕ)
text o = option_map (λ t. t.now) o

-- the texts of a path's components make the scoped name
scoped_by : (items : List (Option (Bor (List ℕ)))) (path : List Member) (name : List ℕ) → map text items ≡ map component path → joined (parts items) name ≡ scoped_name path name
scoped_by items path name are =
    let same : parts items ≡ filter_map component path = filter_map_by text items ∙ ap (filter_map (λ o. o)) are ∙ sym (filter_map_by component path) in
    ap (λ (ps : List (List ℕ)). joined ps name) same ∙ sym (scoped_name_is path name)

-- what the components put before no name stands before each name
pub is_front : (items : List (Option (Bor (List ℕ)))) (path : List Member) (bytes : List ℕ) → map text items ≡ map component path → bytes ≡ joined (parts items) [] → (name : List ℕ) → scoped_name path name ≡ bytes ++ name
is_front items path bytes are is name =
    let ps = reverse (parts items) in
    let whole : bytes ≡ prefix ps = is ∙ joined_is ps [] ∙ append-nil (prefix ps) in
    sym (scoped_by items path name are) ∙ joined_is ps name ∙ ap (λ (xs : List ℕ). xs ++ name) (sym whole)

-- what stands before the name
abbrev front : List Member → List ℕ
front path = prefix (reverse (filter_map component path))

scoped_is : (path : List Member) (name : List ℕ) → scoped_name path name ≡ front path ++ name
scoped_is path name = scoped_name_is path name ∙ joined_is (reverse (filter_map component path)) name

-- ---- lengths

scoped_stays : (path : List Member) (name : List ℕ) → length (scoped_name path name) ≡ length name → scoped_name path name ≡ name
scoped_stays path name same =
    let none : length (front path) ≡ 0 = omega (arith, same, ap length (scoped_is path name), length-append (front path) name) in
    scoped_is path name ∙ ap (λ (xs : List ℕ). xs ++ name) (empty (front path) none)

-- a qualified name that is as long as the name is the name
pub stays_qualified : (class : Class) (path : List Member) (name : List ℕ) → length (qualified_name class path name) ≡ length name → qualified_name class path name ≡ name
unfolding qualified_name
stays_qualified C path name same = refl
stays_qualified Plain path name same = refl
stays_qualified Cxx path name same = scoped_stays path name same
stays_qualified Ada path name same = stays name same

-- where it isn't as long, and the class isn't Ada, it is the scoped name
pub changed : (class : Class) (path : List Member) (name : List ℕ) → (class ≡ Ada → ⊥) → (length (qualified_name class path name) ≡ length name → ⊥) → qualified_name class path name ≡ scoped_name path name
unfolding qualified_name
changed C path name other differs = absurd (differs refl)
changed Plain path name other differs = absurd (differs refl)
changed Cxx path name other differs = refl
changed Ada path name other differs = absurd (other refl)

pub by_class_ada : (class : Class) (path : List Member) (name : List ℕ) → class ≡ Ada → qualified_name class path name ≡ decoded name
unfolding qualified_name
by_class_ada class path name is = rw is refl

-- ---- the name `main`

abbrev has_colon : List ℕ → Bool
has_colon = list_any (λ b. eqb b 58)

colon_back : (xs ys : List ℕ) → has_colon ys ≡ true → has_colon (xs ++ ys) ≡ true
colon_back [] ys h = h
colon_back (x ∷ xs) ys h = or_right (eqb x 58) _ (colon_back xs ys h)

colon_front : (xs ys : List ℕ) → has_colon xs ≡ true → has_colon (xs ++ ys) ≡ true
colon_front [] ys h = absurd (false≢true h)
colon_front (x ∷ xs) ys h = by (eqb x 58) h (colon_front xs ys)
  where
    by : (b : Bool) → (b || has_colon xs) ≡ true → (has_colon xs ≡ true → has_colon (xs ++ ys) ≡ true) → (b || has_colon (xs ++ ys)) ≡ true
    by true g more = refl
    by false g more = more g

-- components have a colon behind them
pub colons : (ps : List (List ℕ)) (name : List ℕ) → prefix ps ++ name ≡ codes "main" → prefix ps ≡ []
colons [] name is = refl
colons (q ∷ qs) name is =
    let some : has_colon ((q ++ codes "::") ++ prefix qs) ≡ true = colon_front (q ++ codes "::") (prefix qs) (colon_back q (codes "::") refl) in
    absurd (true≢false (sym (colon_front ((q ++ codes "::") ++ prefix qs) name some) ∙ ap has_colon is))

-- so in C and C++ an entry with this name has no components
pub main_alone : (class : Class) (path : List Member) (name : List ℕ) → is_c_or_cxx class ≡ true → qualified_name class path name ≡ codes "main" → name ≡ codes "main"
unfolding qualified_name
main_alone C path name on is = is
main_alone Plain path name on is = absurd (false≢true on)
main_alone Ada path name on is = absurd (false≢true on)
main_alone Cxx path name on is =
    let whole = sym (scoped_is path name) ∙ is in
    sym (ap (λ (xs : List ℕ). xs ++ name) (colons (reverse (filter_map component path)) name whole)) ∙ whole

-- the name is `main` and isn't longer with its components: then its qualified name is `main`, and the other way round
pub main_by_length : (class : Class) (path : List Member) (name : List ℕ) (n : ℕ) → n ≡ length (qualified_name class path name) → is_c_or_cxx class ≡ true → (eqb n 4 && bytes_eq name (codes "main")) ≡ bytes_eq (qualified_name class path name) (codes "main")
main_by_length class path name n is on =
    let q = qualified_name class path name in
    same_each_way (eqb n 4 && bytes_eq name (codes "main")) (bytes_eq q (codes "main"))
    (λ h.
    let a = and_parts (eqb n 4) (bytes_eq name (codes "main")) h in
    let own : name ≡ codes "main" = (bytes_eq-Decides name (codes "main")).0 a.1 in
    let four : length q ≡ length name = omega (arith, eqb-true n 4 a.0, is, ap length own) in
    (bytes_eq-Decides q (codes "main")).1 (stays_qualified class path name four ∙ own))
    (λ h.
    let main = (bytes_eq-Decides q (codes "main")).0 h in
    let four : n ≡ 4 = omega (arith, is, ap length main) in
    and_from (eqb n 4) (bytes_eq name (codes "main")) (eq-eqb n 4 four) ((bytes_eq-Decides name (codes "main")).1 (main_alone class path name on main)))
