-- The first fault of a list of readings, part by part.
use Rattle.std.proofs.Common.{◌≡◌, List, [], ◌∷◌, ◌++◌, flat_map, map, Option, Some, None, Result, Ok, Err, refl, ap, sym, ◌∙◌}
use Rattle.std.specs.Option.{option_or}
use Rattle.ix_base.specs.declared.fault.Fault.{Fault}
use Rattle.index_model.specs.Meaning.{◌>>=◌, each, wrong_in}
use Rattle.index_model.proofs.LookupLaws.{bind_ok}

-- the first of some faults that is there
abbrev pub first_in : List (Option Fault) → Option Fault
first_in [] = None
first_in (x ∷ xs) = option_or x (first_in xs)

pub option_or-assoc : (a b c : Option Fault) → option_or (option_or a b) c ≡ option_or a (option_or b c)
option_or-assoc None b c = refl
option_or-assoc (Some f) b c = refl

pub option_or-none : (a : Option Fault) → option_or a None ≡ a
option_or-none None = refl
option_or-none (Some f) = refl

-- a value that is worked on has the same fault
wrong_in-then : {A B : Type 0} (r : Result A Fault) (f : A → B) → wrong_in (r >>= λ x. Ok (f x)) ≡ wrong_in r
wrong_in-then (Ok x) f = refl
wrong_in-then (Err e) f = refl

module _ {A B : Type 0} (g : A → Result B Fault) where
  pub wrong_in-append : (xs ys : List A) → wrong_in (each g (xs ++ ys)) ≡ option_or (wrong_in (each g xs)) (wrong_in (each g ys))
  wrong_in-append [] ys = refl
  wrong_in-append (x ∷ xs) ys = by (wrong_in-append xs ys) (g x)
    where
      by : wrong_in (each g (xs ++ ys)) ≡ option_or (wrong_in (each g xs)) (wrong_in (each g ys)) → (r : Result B Fault) → wrong_in (r >>= λ y. each g (xs ++ ys) >>= λ zs. Ok (y ∷ zs)) ≡ option_or (wrong_in (r >>= λ y. each g xs >>= λ zs. Ok (y ∷ zs))) (wrong_in (each g ys))
      by more (Err e) = refl
      by more (Ok y) = wrong_in-then (each g (xs ++ ys)) (λ zs. y ∷ zs) ∙ more ∙ ap (λ (o : Option Fault). option_or o (wrong_in (each g ys))) (sym (wrong_in-then (each g xs) (λ zs. y ∷ zs)))

  -- the first fault of all parts is the first of the parts' first faults
  pub wrong_in-parts : (parts : List (List A)) → wrong_in (each g (flat_map (λ part. part) parts)) ≡ first_in (map (λ part. wrong_in (each g part)) parts)
  wrong_in-parts [] = refl
  wrong_in-parts (xs ∷ parts) = wrong_in-append xs (flat_map (λ part. part) parts) ∙ ap (option_or (wrong_in (each g xs))) (wrong_in-parts parts)

  -- what two parts give, where both together have no fault
  pub record InTwo (xs ys : List A) (zs : List B) : Type 0 where
    pub front : List B
    pub back : List B
    pub front_is : each g xs ≡ Ok front
    pub back_is : each g ys ≡ Ok back
    pub whole : front ++ back ≡ zs

  cons_ok : (x : A) (xs : List A) (y : B) (ys : List B) → g x ≡ Ok y → each g xs ≡ Ok ys → each g (x ∷ xs) ≡ Ok (y ∷ ys)
  cons_ok x xs y ys here more = rw (here, more) refl

  abbrev given : List B → Result (List B) Fault
  given zs = Ok zs

  same_whole : (y : B) (front back others zs : List B) → front ++ back ≡ others → given (y ∷ others) ≡ given zs → y ∷ (front ++ back) ≡ zs
  same_whole y front back others zs joined is = let same : y ∷ others ≡ zs = cc in ap (λ (ws : List B). y ∷ ws) joined ∙ same

  pub in_two : (xs ys : List A) (zs : List B) → each g (xs ++ ys) ≡ Ok zs → InTwo xs ys zs
  in_two [] ys zs e = record { front = []; back = zs; front_is = refl; back_is = e; whole = refl }
  in_two (x ∷ xs) ys zs e =
      let b = bind_ok (g x) (λ y. each g (xs ++ ys) >>= λ others. Ok (y ∷ others)) zs e in
      let c = bind_ok (each g (xs ++ ys)) (λ others. Ok (b.0 ∷ others)) zs b.2 in
      let t = in_two xs ys c.0 c.1 in
      record {
        front = b.0 ∷ t.front;
        back = t.back;
        front_is = cons_ok x xs b.0 t.front b.1 t.front_is;
        back_is = t.back_is;
        whole = same_whole b.0 t.front t.back c.0 zs t.whole c.2;
      }
