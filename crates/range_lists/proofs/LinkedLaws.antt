-- The subprograms of a unit that are linked are its indexed subprograms.
use Rattle.std.proofs.Common.{◌≡◌, ℕ, ◌<◌, ◌≤◌, Bool, true, false, eqb, ◌&&◌, ◌||◌, List, [], ◌∷◌, ◌++◌, get_or, map, filter, flat_map, Ok, refl, sym, ap, subst, ◌∙◌, arith, ⊎_elim}
use Rattle.std.specs.Prelude.{Contains}
use Rattle.std.specs.List.{AllZip}
use Rattle.std.proofs.lemmas.Bool.{false≢true, eqb-true, eq-eqb, and_parts, cases_lt, or_right}
use Rattle.std.proofs.lemmas.List.Concat.{flat_map-append}
use Rattle.std.proofs.lemmas.List.Elements.{Contains-append_left, Contains-append_right, Contains-append_cases}
use Rattle.common_laws.proofs.Members.{contains_here, contains_later, contains_cases, to_map, of_filter, to_filter, of_flat_map}
use Rattle.common_laws.proofs.Booleans.{same_each_way}
use Rattle.index_model.specs.declared.shard.LinkedEntry.{LinkedEntry}
use Rattle.index_model.specs.Meaning.{each}
use Rattle.index_model.specs.Tags.{subprogram}
use Rattle.index_model.specs.Program.{Walked, Program, Located, located}
use Rattle.index_model.specs.Links.{Link, is_link_indexed, indexed_in, followed, links_in}
use Rattle.index_model.specs.Ranges.{subprograms_in}
use Rattle.index_model.specs.Faults.{links_of}
use Rattle.index_model.specs.Shards.{IsLinkedEntryOf, IsRunOf}
use Rattle.index_model.proofs.Meanings.{same_ok}
use Rattle.index_model.proofs.EachLaws.{in_two}
use Rattle.index_model.proofs.Pairs.{Pairs, On, all_pairs}
use Rattle.index_model.proofs.UnitsApart.{Apart, pairs_back}
use Rattle.index_model.proofs.Located.{Before, of_located, same_place}
use Rattle.range_lists.specs.Nodes.{is_linked, EntriesRise}
use Rattle.common_laws.proofs.Filters.{filter_within, filter_both, map_filter, map_map}
use Rattle.range_lists.proofs.Located.{at_number}
use Rattle.index_model.proofs.Followed.{is_followed, all_followed, placed, AreLinks, links_are}

-- ---- linked entries and their links

module _ (p : Program) where
  linked_on : (es : List LinkedEntry) (ks : List Link) → AllZip (IsLinkedEntryOf p) es ks → (k : Link) → Contains ks k → is_linked es k.entry.item.at ≡ true
  linked_on [] [] z k c = absurd (omega (arith, c.1))
  linked_on [] (l ∷ ks) z k c = absurd z
  linked_on (e ∷ es) [] z k c = absurd z
  linked_on (e ∷ es) (l ∷ ks) z k c = ⊎_elim
      (λ (same : l ≡ k). ap (λ (b : Bool). b || is_linked es k.entry.item.at) (eq-eqb e.offset k.entry.item.at (z.0.offset ∙ ap (λ (x : Link). x.entry.item.at) same)))
      (λ (later : Contains ks k). or_right (eqb e.offset k.entry.item.at) _ (linked_on es ks z.1 k later))
      (contains_cases l ks k c)

  linked_back : (es : List LinkedEntry) (ks : List Link) → AllZip (IsLinkedEntryOf p) es ks → (o : ℕ) → is_linked es o ≡ true → (k : Link) × Contains ks k × (k.entry.item.at ≡ o)
  linked_back [] [] z o on = absurd (false≢true on)
  linked_back [] (l ∷ ks) z o on = absurd z
  linked_back (e ∷ es) [] z o on = absurd z
  linked_back (e ∷ es) (l ∷ ks) z o on = by (eqb e.offset o) refl on (λ h. linked_back es ks z.1 o h)
    where
      by : (b : Bool) → eqb e.offset o ≡ b → (b || is_linked es o) ≡ true → (is_linked es o ≡ true → (k : Link) × Contains ks k × (k.entry.item.at ≡ o)) → (k : Link) × Contains (l ∷ ks) k × (k.entry.item.at ≡ o)
      by true is h later = (l, contains_here l ks, sym z.0.offset ∙ eqb-true e.offset o is)
      by false is h later = let r = later h in (r.0, contains_later l ks r.0 r.1, r.2)

  entry_of : (es : List LinkedEntry) (ks : List Link) → AllZip (IsLinkedEntryOf p) es ks → (x : LinkedEntry) → Contains es x → (k : Link) × Contains ks k × (x.offset ≡ k.entry.item.at)
  entry_of [] [] z x c = absurd (omega (arith, c.1))
  entry_of [] (l ∷ ks) z x c = absurd z
  entry_of (e ∷ es) [] z x c = absurd z
  entry_of (e ∷ es) (l ∷ ks) z x c = ⊎_elim
      (λ (same : e ≡ x). (l, contains_here l ks, ap (λ (y : LinkedEntry). y.offset) (sym same) ∙ z.0.offset))
      (λ (later : Contains es x). let r = entry_of es ks z.1 x later in (r.0, contains_later l ks r.0 r.1, r.2))
      (contains_cases e es x c)

  -- the offsets of the entries are those of their links
  pub entries_pairs : (es : List LinkedEntry) (ks : List Link) → AllZip (IsLinkedEntryOf p) es ks → Pairs (On Before (λ (k : Link). k.entry)) ks → Pairs (λ (d e : LinkedEntry). d.offset < e.offset) es
  entries_pairs [] [] z h = tt
  entries_pairs [] (l ∷ ks) z h = absurd z
  entries_pairs (e ∷ es) [] z h = absurd z
  entries_pairs (e ∷ es) (l ∷ ks) z h = (
    λ x c. let m = entry_of es ks z.1 x c in let lt = h.0 m.0 m.1 in omega (arith, lt, m.2, z.0.offset),
    entries_pairs es ks z.1 h.1,
  )

pub pairs_rise : (es : List LinkedEntry) → Pairs (λ (d e : LinkedEntry). d.offset < e.offset) es → EntriesRise es
pairs_rise es h i j d le within = ⊎_elim
    (λ (lt : i < j). let r = all_pairs (λ (x y : LinkedEntry). x.offset < y.offset) es h i j d lt within in omega (arith, r))
    (λ (ge : j ≤ i). let same : i ≡ j = omega (arith, le, ge) in omega (arith, ap (λ (k : ℕ). (get_or es k d).offset) same))
    (cases_lt i j)

-- ---- the links of a run

-- a member of the front differs from one of the back
pairs_cross : {A : Type 0} (R : A → A → Type 0) (xs ys : List A) → Pairs R (xs ++ ys) → (x y : A) → Contains xs x → Contains ys y → R x y
pairs_cross R [] ys h x y xc yc = absurd (omega (arith, xc.1))
pairs_cross R (z ∷ xs) ys h x y xc yc = ⊎_elim
    (λ (same : z ≡ x). subst (λ w. R w y) same (h.0 y (Contains-append_right xs ys y yc)))
    (λ (l : Contains xs x). pairs_cross R xs ys h.1 x y l yc)
    (contains_cases z xs x xc)

module _ (p : Program) (ks : List Link) (links : links_of p ≡ Ok ks) (run : List Walked) (r : IsRunOf p run) (apart : Pairs Apart p.walks) (before : Pairs Before (flat_map located p.walks)) (kr : List Link) (given : links_in p run ≡ Ok kr) where
  abbrev entry : Link → Located
  entry k = k.entry

  all : AreLinks p (flat_map (followed p) p.walks) ks
  unfolding links_of links_in
  all = links_are p (flat_map (followed p) p.walks) ks links

  pub own : AreLinks p (flat_map (followed p) run) kr
  unfolding links_in
  own = links_are p (flat_map (followed p) run) kr given

  ks_entries : map entry ks ≡ filter (is_followed p) (flat_map located p.walks)
  ks_entries = all.entries ∙ all_followed p p.walks

  -- the entry of a link stands in a unit, and is followed
  of_link : (k : Link) → Contains ks k → Contains (flat_map located p.walks) k.entry × (is_followed p k.entry ≡ true)
  of_link k c = of_filter (is_followed p) (flat_map located p.walks) k.entry (subst (λ (ds : List Located). Contains ds k.entry) ks_entries (to_map entry ks k c))

  -- the links of the run are among all
  record Parts : Type 0 where
    front : List Link
    back : List Link
    is : ks ≡ front ++ (kr ++ back)
    front_is : each (placed p) (flat_map (followed p) r.before) ≡ Ok front
    back_is : each (placed p) (flat_map (followed p) r.after) ≡ Ok back

  parts : Parts
  unfolding links_of links_in
  parts =
      let whole : each (placed p) (flat_map (followed p) r.before ++ flat_map (followed p) (run ++ r.after)) ≡ Ok ks = subst (λ (ds : List Located). each (placed p) ds ≡ Ok ks) (ap (flat_map (followed p)) r.is ∙ flat_map-append (followed p) r.before (run ++ r.after)) links in
      let a = in_two (placed p) (flat_map (followed p) r.before) (flat_map (followed p) (run ++ r.after)) ks whole in
      let b = in_two (placed p) (flat_map (followed p) run) (flat_map (followed p) r.after) a.back (subst (λ (ds : List Located). each (placed p) ds ≡ Ok a.back) (flat_map-append (followed p) run r.after) a.back_is) in
      let same : b.front ≡ kr = same_ok b.front kr (sym b.front_is ∙ given) in
      record {
        front = a.front;
        back = b.back;
        is = sym a.whole ∙ ap (λ (xs : List Link). a.front ++ xs) (sym b.whole ∙ ap (λ (xs : List Link). xs ++ b.back) same);
        front_is = a.front_is;
        back_is = b.back_is;
      }

  among : (k : Link) → Contains kr k → Contains ks k
  among k c = subst (λ (xs : List Link). Contains xs k) (sym parts.is) (Contains-append_right parts.front (kr ++ parts.back) k (Contains-append_left kr parts.back k c))

  -- the home of a link's entry is one of the units
  home_of : (ws : List Walked) (ls : List Link) → each (placed p) (flat_map (followed p) ws) ≡ Ok ls → (k : Link) → Contains ls k → (v : Walked) × Contains ws v × (k.entry.home.number ≡ v.number)
  home_of ws ls is k c =
      let a = links_are p (flat_map (followed p) ws) ls is in
      let d : Contains (filter (is_followed p) (flat_map located ws)) k.entry = subst (λ (ds : List Located). Contains ds k.entry) (a.entries ∙ all_followed p ws) (to_map entry ls k c) in
      let m = of_flat_map located ws k.entry (of_filter (is_followed p) (flat_map located ws) k.entry d).0 in
      (m.0, m.1, ap (λ (x : Walked). x.number) (of_located m.0 k.entry m.2).0)

  walks_apart : Pairs Apart (r.before ++ (run ++ r.after))
  walks_apart = subst (Pairs Apart) r.is apart

  -- a link of a unit of the run is one of the run's
  in_run : (w : Walked) → Contains run w → (k : Link) → Contains ks k → k.entry.home.number ≡ w.number → Contains kr k
  in_run w wc k c number = ⊎_elim
      (λ (f : Contains parts.front k).
      let v = home_of r.before parts.front parts.front_is k f in
      let lt = pairs_cross Apart r.before (run ++ r.after) walks_apart v.0 w v.1 (Contains-append_left run r.after w wc) in
      absurd (omega (arith, lt.0, v.2, number)))
      (λ (g : Contains (kr ++ parts.back) k). ⊎_elim
      (λ (h : Contains kr k). h)
      (λ (b : Contains parts.back k).
      let v = home_of r.after parts.back parts.back_is k b in
      let lt = pairs_cross Apart run r.after (pairs_back Apart r.before (run ++ r.after) walks_apart) w v.0 wc v.1 in
      absurd (omega (arith, lt.0, v.2, number)))
      (Contains-append_cases kr parts.back k g))
      (Contains-append_cases parts.front (kr ++ parts.back) k (subst (λ (xs : List Link). Contains xs k) parts.is c))

  module _ (es : List LinkedEntry) (z : AllZip (IsLinkedEntryOf p) es (indexed_in kr)) where
    abbrev is_listed : Located → Bool
    is_listed d = is_linked es d.item.at

    -- what is listed is the entry of an indexed link
    listed : (d : Located) → Contains (flat_map located p.walks) d → is_listed d ≡ true → (k : Link) × Contains ks k × (is_link_indexed k ≡ true) × (k.entry ≡ d)
    listed d c on =
        let l = linked_back p es (indexed_in kr) z d.item.at on in
        let f = of_filter is_link_indexed kr l.0 l.1 in
        let k = among l.0 f.0 in
        (l.0, k, f.1, same_place (flat_map located p.walks) before l.0.entry d (of_link l.0 k).0 c l.2)

    pub listed_followed : (d : Located) → Contains (flat_map located p.walks) d → is_listed d ≡ true → is_followed p d ≡ true
    listed_followed d c on = let l = listed d c on in subst (λ (x : Located). is_followed p x ≡ true) l.3 (of_link l.0 l.1).1

    indexed_listed : (w : Walked) → Contains run w → (k : Link) → Contains ks k → k.entry.home.number ≡ w.number → is_link_indexed k ≡ is_listed k.entry
    indexed_listed w wc k c number = same_each_way (is_link_indexed k) (is_listed k.entry)
        (λ on. linked_on p es (indexed_in kr) z k (to_filter is_link_indexed kr k (in_run w wc k c number) on))
        (λ on.
        let l = listed k.entry (of_link k c).0 on in
        let same : l.0 ≡ k = same_ok l.0 k (sym (all.own l.0 l.1) ∙ ap (placed p) l.3 ∙ all.own k c) in
        subst (λ (x : Link). is_link_indexed x ≡ true) same l.2)

    abbrev pub is_subprogram : Located → Bool
    is_subprogram d = eqb d.item.tag subprogram

    abbrev pub counts : Located → Bool
    counts d = is_subprogram d && is_listed d

    test : (w : Walked) → Contains run w → (k : Link) → Contains ks k → ((eqb k.entry.home.number w.number && is_subprogram k.entry) && is_link_indexed k) ≡ at_number w.number counts k.entry
    test w wc k c = by (eqb k.entry.home.number w.number) refl (is_subprogram k.entry)
      where
        by : (b : Bool) → eqb k.entry.home.number w.number ≡ b → (s : Bool) → ((b && s) && is_link_indexed k) ≡ (b && (s && is_listed k.entry))
        by true e true = indexed_listed w wc k c (eqb-true k.entry.home.number w.number e)
        by true e false = refl
        by false e s = refl

    -- the indexed subprograms of a unit of the run are its listed subprograms
    pub subprograms_are : (w : Walked) → Contains run w → subprograms_in ks w ≡ map (λ d. d.item) (filter (at_number w.number counts) (flat_map located p.walks))
    subprograms_are w wc =
        let of_w : Link → Bool = λ k. eqb k.entry.home.number w.number && is_subprogram k.entry in
        let chosen : Located → Bool = at_number w.number counts in
        let one : filter of_w (filter is_link_indexed ks) ≡ filter (λ k. chosen k.entry) ks = filter_both of_w is_link_indexed (λ k. chosen k.entry) ks (λ k c. test w wc k c) in
        ap (map (λ (k : Link). k.entry.item)) one ∙
        sym (map_map entry (λ (d : Located). d.item) (filter (λ k. chosen k.entry) ks)) ∙
        ap (map (λ (d : Located). d.item)) (map_filter entry chosen ks ∙ ap (filter chosen) ks_entries ∙ filter_within (is_followed p) chosen (flat_map located p.walks) (λ d c on. listed_followed d c (and_parts (is_subprogram d) (is_listed d) (and_parts (eqb d.home.number w.number) (counts d) on).1).1))
