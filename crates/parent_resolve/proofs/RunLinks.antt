-- The links of a shard's run, node by node.
use Rattle.std.proofs.Common.{◌≡◌, ℕ, zero, suc, ◌<◌, ◌≤◌, List, [], ◌∷◌, ◌++◌, append_assoc, get_or, length, take, filter, unwrap_or, Option, Some, None, Result, Ok, Err, refl, sym, ap, subst, ◌∙◌, arith}
use Rattle.std.specs.Prelude.{Contains, IsOkAnd, option_to_list, slice_get}
use Rattle.std.specs.List.{AllZip}
use Rattle.std.proofs.lemmas.List.Elements.{filter-append}
use Rattle.std.proofs.lemmas.List.{append-nil, take_all}
use Rattle.std.proofs.lemmas.Option.{same_Some}
use Rattle.common_laws.proofs.Members.{contains_here, contains_later}
use Rattle.common_laws.proofs.Lists.{all_zip_append}
use Rattle.ix_base.specs.declared.fault.Fault.{Fault}
use Rattle.index_model.specs.Gives.{Stop}
use Rattle.ix_base.specs.declared.or_memory.OrMemory.TheVariants as stops
use Rattle.index_model.specs.declared.shard.LinkedEntry.{LinkedEntry}
use Rattle.index_model.specs.declared.shard.Shard.{Shard}
use Rattle.index_model.specs.Gives.{StopsAs}
use Rattle.index_model.specs.Meaning.{◌>>=◌, at_place, each}
use Rattle.index_model.specs.Links.{Link, link_of, links_in, is_link_indexed, indexed_in}
use Rattle.index_model.specs.Program.{Walked, Program, Located}
use Rattle.index_model.specs.Sections.{Section}
use Rattle.index_model.specs.Shards.{AreShardsOf, IsLinkedEntryOf, IsRunOf, StandsFor}
use Rattle.index_model.specs.ShardParts.{kept_in}
use Rattle.index_model.proofs.ShardRoots.{joined}
use Rattle.parent_resolve.specs.Runs.{is_followed, links_at, AddsLinks, AreLinksOf, IsLinkedNode}
use Rattle.parent_resolve.proofs.KeptLaws.{kept_followed}

-- this is what the links of the run's first nodes say
abbrev pub IsTaken : Program → List Walked → ℕ → List LinkedEntry → Type 0
IsTaken p run n es = IsOkAnd (links_at p (take n (kept_in run))) (AreLinksOf p es)

-- ---- lists

module _ {A B : Type 0} (f : A → Result B Fault) where
  abbrev with_front : List B → Result (List B) Fault → Result (List B) Fault
  with_front ys r = r >>= λ more. Ok (ys ++ more)

  with_one : (y : B) (r : Result (List B) Fault) (ys : List B) → ((r >>= λ more. Ok (ys ++ more)) >>= λ others. Ok (y ∷ others)) ≡ with_front (y ∷ ys) r
  with_one y (Ok more) ys = refl
  with_one y (Err e) ys = refl

  -- behind what a front part gives comes what the back part gives
  pub each_append : (xs ys : List A) → each f (xs ++ ys) ≡ (each f xs >>= λ front. with_front front (each f ys))
  each_append [] ys = by (each f ys)
    where
      by : (r : Result (List B) Fault) → r ≡ with_front [] r
      by (Ok more) = refl
      by (Err e) = refl
  each_append (x ∷ xs) ys = by (each_append xs ys) (f x)
    where
      again : (y : B) (r : Result (List B) Fault) → ((r >>= λ front. with_front front (each f ys)) >>= λ others. Ok (y ∷ others)) ≡ ((r >>= λ others. Ok (y ∷ others)) >>= λ front. with_front front (each f ys))
      again y (Ok front) = with_one y (each f ys) front
      again y (Err e) = refl

      by : each f (xs ++ ys) ≡ (each f xs >>= λ front. with_front front (each f ys)) → (r : Result B Fault) → (r >>= λ y. each f (xs ++ ys) >>= λ others. Ok (y ∷ others)) ≡ ((r >>= λ y. each f xs >>= λ others. Ok (y ∷ others)) >>= λ front. with_front front (each f ys))
      by more (Ok y) = ap (λ (r : Result (List B) Fault). r >>= λ others. Ok (y ∷ others)) more ∙ again y (each f xs)
      by more (Err e) = refl

-- the pair at a place, and the second list up to it and behind it
pub record Paired {A B : Type 0} (R : A → B → Type 0) (ys : List B) (k : ℕ) (x : A) : Type 0 where
  pub at : B
  pub member : Contains ys at
  pub holds : R x at
  pub next : take (suc k) ys ≡ take k ys ++ at ∷ []
  pub rest : List B
  pub whole : take k ys ++ at ∷ rest ≡ ys

pub paired : {A B : Type 0} (R : A → B → Type 0) (xs : List A) (ys : List B) (k : ℕ) (e : A) → AllZip R xs ys → k < length xs → Paired R ys k (get_or xs k e)
paired R [] ys k e h lt = absurd (omega arith)
paired R (x ∷ xs) [] k e h lt = absurd h
paired R (x ∷ xs) (y ∷ ys) zero e h lt = record { at = y; member = contains_here y ys; holds = h.0; next = refl; rest = ys; whole = refl }
paired {B = B} R (x ∷ xs) (y ∷ ys) (suc k) e h lt =
    let more = paired R xs ys k e h.1 (omega (arith, lt)) in
    record {
      at = more.at;
      member = contains_later y ys more.at more.member;
      holds = more.holds;
      next = ap (λ (ws : List B). y ∷ ws) more.next;
      rest = more.rest;
      whole = ap (λ (ws : List B). y ∷ ws) more.whole;
    }

pub take_whole : {A B : Type 0} (R : A → B → Type 0) (xs : List A) (ys : List B) (k : ℕ) → AllZip R xs ys → length xs ≤ k → take k ys ≡ ys
take_whole R [] [] k h le = take_all k [] (omega arith)
take_whole R [] (y ∷ ys) k h le = absurd h
take_whole R (x ∷ xs) [] k h le = absurd h
take_whole R (x ∷ xs) (y ∷ ys) zero h le = absurd (omega (arith, le))
take_whole {B = B} R (x ∷ xs) (y ∷ ys) (suc k) h le = ap (λ (ws : List B). y ∷ ws) (take_whole R xs ys k h.1 (omega (arith, le)))

-- a list with one more item, if there is one
pub grown_some : {A : Type 0} (xs : List A) (o : Option A) (x : A) (ys : List A) → o ≡ Some x → ys ≡ xs ++ x ∷ [] → ys ≡ xs ++ option_to_list o
grown_some {A = A} xs o x ys is own = own ∙ ap (λ (r : Option A). xs ++ option_to_list r) (sym is)

pub grown_none : {A : Type 0} (xs : List A) (o : Option A) (ys : List A) → o ≡ None → ys ≡ xs → ys ≡ xs ++ option_to_list o
grown_none {A = A} xs o ys is own = own ∙ sym (append-nil xs) ∙ ap (λ (r : Option A). xs ++ option_to_list r) (sym is)

-- ---- the run of a shard

-- the run of the shard at a place
pub record RunAt (p : Program) (runs : List (List Walked)) (k : ℕ) (s : Shard) : Type 0 where
  pub run : List Walked
  pub is : slice_get runs k ≡ Some run
  pub of_program : IsRunOf p run
  pub stands : StandsFor p.sections s run

record Part (ss : List Section) (runs : List (List Walked)) (k : ℕ) (s : Shard) : Type 0 where
  run : List Walked
  is : slice_get runs k ≡ Some run
  stands : StandsFor ss s run
  before : List Walked
  after : List Walked
  whole : joined runs ≡ before ++ (run ++ after)

part_at : (ss : List Section) (shards : List Shard) (runs : List (List Walked)) → AllZip (StandsFor ss) shards runs → (k : ℕ) (s : Shard) → slice_get shards k ≡ Some s → Part ss runs k s
part_at ss [] runs z k s is = absurd cc
part_at ss (t ∷ shards) [] z k s is = absurd z
part_at ss (t ∷ shards) (run ∷ runs) z zero s is = record { run = run; is = refl; stands = subst (λ (x : Shard). StandsFor ss x run) (same_Some t s is) z.0; before = []; after = joined runs; whole = refl }
part_at ss (t ∷ shards) (run ∷ runs) z (suc k) s is =
    let more = part_at ss shards runs z.1 k s is in
    record {
      run = more.run;
      is = more.is;
      stands = more.stands;
      before = run ++ more.before;
      after = more.after;
      whole = ap (λ (ws : List Walked). run ++ ws) more.whole ∙ sym (append_assoc run more.before (more.run ++ more.after));
    }

pub run_at : (p : Program) (shards : List Shard) (h : AreShardsOf p shards) (k : ℕ) (s : Shard) → slice_get shards k ≡ Some s → RunAt p h.runs k s
run_at p shards h k s is =
    let part = part_at p.sections shards h.runs h.stand k s is in
    record { run = part.run; is = part.is; of_program = record { before = part.before; after = part.after; is = sym h.all ∙ part.whole }; stands = part.stands }

-- ---- the links of a run

ok_in : {A E : Type 0} (P : A → Type 0) (r : Result A E) → IsOkAnd r P → (x : A) × (r ≡ Ok x) × P x
ok_in P (Ok x) h = (x, refl, h)
ok_in P (Err e) h = absurd h

module _ (p : Program) where
  abbrev one : Located → Result Link Fault
  one d = at_place d.item.at (link_of p d)

  links_append : (ds es : List Located) → links_at p (ds ++ es) ≡ (links_at p ds >>= λ front. with_front one front (links_at p es))
  links_append ds es = ap (each one) (filter-append (is_followed p) ds es) ∙ each_append one (filter (is_followed p) ds) (filter (is_followed p) es)

  -- what the links of a run give, by its nodes
  pub of_run : (runs : List (List Walked)) (k : ℕ) (run : List Walked) → slice_get runs k ≡ Some run → links_at p (kept_in run) ≡ links_in p (unwrap_or (slice_get runs k) [])
  unfolding links_in
  of_run runs k run is = ap (each one) (sym (kept_followed p run)) ∙ ap (λ (o : Option (List Walked)). links_in p (unwrap_or o [])) (sym is)

  -- behind some entries come those of one more node
  pub adds : (o : Option LinkedEntry) (old new : List LinkedEntry) (ks : List Link) → new ≡ old ++ option_to_list o → IsLinkedNode p o ks → AddsLinks p old new ks
  adds o old new ks longer h ls are =
      subst (λ (xs : List LinkedEntry). AreLinksOf p xs (ls ++ ks)) (sym longer)
      (subst (λ (ys : List Link). AllZip (IsLinkedEntryOf p) (old ++ option_to_list o) ys) (sym (filter-append is_link_indexed ls ks)) (all_zip_append (IsLinkedEntryOf p) old (indexed_in ls) (option_to_list o) (indexed_in ks) are h))

  -- and so where the links are given
  pub adds_given : (o : Option LinkedEntry) (old new : List LinkedEntry) (r : Result (List Link) Fault) → new ≡ old ++ option_to_list o → IsOkAnd r (IsLinkedNode p o) → IsOkAnd r (AddsLinks p old new)
  adds_given o old new (Ok ks) longer h = adds o old new ks longer h
  adds_given o old new (Err e) longer h = h

  module _ (run : List Walked) (n : ℕ) (es : List LinkedEntry) (taken : IsTaken p run n es) (d : Located) where
    before : (ks : List Link) × (links_at p (take n (kept_in run)) ≡ Ok ks) × AreLinksOf p es ks
    before = ok_in (AreLinksOf p es) (links_at p (take n (kept_in run))) taken

    -- with one more node
    pub takes_more : take (suc n) (kept_in run) ≡ take n (kept_in run) ++ d ∷ [] → (all : List LinkedEntry) → IsOkAnd (links_at p (d ∷ [])) (AddsLinks p es all) → (m : ℕ) → m ≡ suc n → IsTaken p run m all
    takes_more next all h m more =
        let b = before in
        let e = ok_in (AddsLinks p es all) (links_at p (d ∷ [])) h in
        let both : links_at p (take m (kept_in run)) ≡ Ok (b.0 ++ e.0) =
        ap (λ (j : ℕ). links_at p (take j (kept_in run))) more ∙ ap (links_at p) next ∙ links_append (take n (kept_in run)) (d ∷ []) ∙
        ap (λ (r : Result (List Link) Fault). r >>= λ front. with_front one front (links_at p (d ∷ []))) b.1 ∙ ap (with_front one b.0) e.1 in
        subst (λ (r : Result (List Link) Fault). IsOkAnd r (AreLinksOf p all)) (sym both) (e.2 b.0 b.2)

    -- the first fault is the run's
    pub stops_here : (rest : List Located) → take n (kept_in run) ++ d ∷ rest ≡ kept_in run → (stop : Stop) → StopsAs stop (links_at p (d ∷ [])) → StopsAs stop (links_at p (kept_in run))
    stops_here rest whole stops.Memory h = tt
    stops_here rest whole (stops.Cause f) h =
        ap (links_at p) (sym whole) ∙ links_append (take n (kept_in run)) (d ∷ rest) ∙
        ap (λ (r : Result (List Link) Fault). r >>= λ front. with_front one front (links_at p (d ∷ rest))) before.1 ∙
        ap (with_front one before.0) (links_append (d ∷ []) rest ∙ ap (λ (r : Result (List Link) Fault). r >>= λ front. with_front one front (links_at p rest)) h)

  -- all of them
  pub all_taken : (run : List Walked) (n : ℕ) (es : List LinkedEntry) → IsTaken p run n es → take n (kept_in run) ≡ kept_in run → IsOkAnd (links_at p (kept_in run)) (AreLinksOf p es)
  all_taken run n es taken whole = subst (λ (ds : List Located). IsOkAnd (links_at p ds) (AreLinksOf p es)) whole taken
