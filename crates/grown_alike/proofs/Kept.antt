-- What gives a value gives it too where more bytes follow: readings that stay so, and what they are put together of.
use Rattle.std.proofs.Common.{◌≡◌, ℕ, Bool, true, false, cond, List, [], ◌∷◌, Option, Some, None, Result, Ok, Err, refl, ap, ◌∙◌}
use Rattle.std.specs.Prelude.{Contains}
use Rattle.common_laws.proofs.Members.{contains_here, contains_later}
use Rattle.ix_base.specs.Reading.{◌>>=◌ as ◌>>=?◌}
use Rattle.index_model.specs.Meaning.{◌>>=◌, ◌>>◌, some_or, at_place, each, if_some, some_else}
use Rattle.index_model.proofs.Meanings.{bind_ok, bind_some, at_place_ok, same_ok}

-- ---- options

-- where the first has a value, the second has that which v makes of it
pub record SomeStays {X Y : Type 0} (v : X → Y) (o : Option X) (p : Option Y) : Type 0 where
  pub on : (x : X) → o ≡ Some x → p ≡ Some (v x)

module _ {X Y : Type 0} (v : X → Y) where
  pub none_stays : (p : Option Y) → SomeStays v None p
  none_stays p = record { on = λ x is. absurd cc }

  pub some_stays : (x : X) → SomeStays v (Some x) (Some (v x))
  some_stays x = record { on = λ y is. let same : x ≡ y = cc in ap (λ (z : X). Some (v z)) same }

  pub either_stays : (b : Bool) (o s : Option X) (p t : Option Y) → SomeStays v o p → SomeStays v s t → SomeStays v (cond b o s) (cond b p t)
  either_stays true o s p t h k = h
  either_stays false o s p t h k = k

  pub some_then : {Z W : Type 0} (w : Z → W) (o : Option X) (p : Option Y) (f : X → Option Z) (g : Y → Option W) → SomeStays v o p → ((x : X) → o ≡ Some x → SomeStays w (f x) (g (v x))) → SomeStays w (o >>=? f) (p >>=? g)
  some_then w o p f g h k = record { on = λ z is. let b = bind_some o f z is in ap (λ (q : Option Y). q >>=? g) (h.on b.0 b.1) ∙ (k b.0 b.1).on z b.2 }

-- ---- results

-- where the first has no fault, the second has what v makes of its value
pub record OkStays {X Y E : Type 0} (v : X → Y) (r : Result X E) (s : Result Y E) : Type 0 where
  pub on : (x : X) → r ≡ Ok x → s ≡ Ok (v x)

module _ {X Y E : Type 0} (v : X → Y) where
  pub wrong_stays : (e : E) (s : Result Y E) → OkStays v (Err e) s
  wrong_stays e s = record { on = λ x is. absurd cc }

  pub ok_stays : (x : X) → OkStays {E = E} v (Ok x) (Ok (v x))
  ok_stays x = record { on = λ y is. ap {B = Result Y E} (λ (z : X). Ok (v z)) (same_ok x y is) }

  pub choice_stays : (b : Bool) (r s : Result X E) (t u : Result Y E) → OkStays v r t → OkStays v s u → OkStays v (cond b r s) (cond b t u)
  choice_stays true r s t u h k = h
  choice_stays false r s t u h k = k

  pub read_stays : (e : E) (o : Option X) (p : Option Y) → SomeStays v o p → OkStays v (some_or o e) (some_or p e)
  read_stays e None p h = wrong_stays e (some_or p e)
  read_stays e (Some x) p h = record { on = λ y is. ap (λ (q : Option Y). some_or q e) (h.on x refl) ∙ (ok_stays x).on y is }

  pub stays_then : {Z W : Type 0} (w : Z → W) (r : Result X E) (s : Result Y E) (f : X → Result Z E) (g : Y → Result W E) → OkStays v r s → ((x : X) → r ≡ Ok x → OkStays w (f x) (g (v x))) → OkStays w (r >>= f) (s >>= g)
  stays_then w r s f g h k = record { on = λ z is. let b = bind_ok r f z is in ap (λ (q : Result Y E). q >>= g) (h.on b.0 b.1) ∙ (k b.0 b.1).on z b.2 }

-- ---- values that stay as they are

-- where the first has no fault, the second has the same value
abbrev pub Keeps : {X E : Type 0} → Result X E → Result X E → Type 0
Keeps {X = X} = OkStays (λ (x : X). x)

pub keeps_itself : {X E : Type 0} (r : Result X E) → Keeps r r
keeps_itself r = record { on = λ x is. is }

pub keeps_then : {X Z E : Type 0} (r s : Result X E) (f g : X → Result Z E) → Keeps r s → ((x : X) → r ≡ Ok x → Keeps (f x) (g x)) → Keeps (r >>= f) (s >>= g)
keeps_then {X = X} = stays_then (λ (x : X). x) (λ z. z)

pub keeps_next : {X Z E : Type 0} (r s : Result X E) (t u : Result Z E) → Keeps r s → Keeps t u → Keeps (r >> t) (s >> u)
keeps_next {X = X} {E = E} (Ok x) s t u h k = record { on = λ z is. ap (λ (q : Result X E). q >> u) (h.on x refl) ∙ k.on z is }
keeps_next (Err e) s t u h k = record { on = λ z is. absurd cc }

pub keeps_each : {X Z E : Type 0} (f g : X → Result Z E) (xs : List X) → ((x : X) → Contains xs x → Keeps (f x) (g x)) → Keeps (each f xs) (each g xs)
keeps_each f g [] h = keeps_itself (Ok [])
keeps_each f g (x ∷ xs) h =
    keeps_then (f x) (g x) _ _ (h x (contains_here x xs)) (λ y _.
    keeps_then (each f xs) (each g xs) _ _ (keeps_each f g xs (λ z c. h z (contains_later x xs z c))) (λ ys _.
    keeps_itself (Ok (y ∷ ys))))

pub keeps_if_some : {X Z E : Type 0} (o : Option Z) (f g : Z → Result (Option X) E) → ((z : Z) → Keeps (f z) (g z)) → Keeps (if_some o f) (if_some o g)
keeps_if_some None f g h = keeps_itself (Ok None)
keeps_if_some (Some z) f g h = h z

pub keeps_else : {X E : Type 0} (o : Option X) (r s : Result (Option X) E) → Keeps r s → Keeps (some_else o r) (some_else o s)
keeps_else None r s h = h
keeps_else (Some x) r s h = keeps_itself (Ok (Some x))

pub keeps_place : {X : Type 0} (place : ℕ) (r s : Result X ℕ) → Keeps r s → Keeps (at_place place r) (at_place place s)
keeps_place {X = X} place r s h = record { on = λ x is. ap (λ (q : Result X ℕ). at_place place q) (h.on x (at_place_ok place r x is)) }
