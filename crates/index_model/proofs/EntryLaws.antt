-- The list of entries stands in section order.
use Rattle.std.proofs.Common.{◌≡◌, ℕ, zero, suc, ◌-◌, ◌<◌, true, false, not, ◌&&◌, List, [], ◌∷◌, ◌++◌, length, get_or, Option, Some, None, refl, sym, ap, subst, ◌∙◌, arith, inl, inr, ⊎_elim}
use Rattle.std.specs.Prelude.{Contains, flat_map, option_to_list, bytes_eq}
use Rattle.std.proofs.lemmas.Bool.{true≢false, false≢true}
use Rattle.std.proofs.lemmas.Option.{cond_some}
use mathlib.Core.Logic.{◌⊎◌}
use Rattle.common_laws.proofs.Members.{contains_cases, of_flat_map}
use Rattle.index_model.specs.declared.entry.Entry.{Entry}
use Rattle.index_model.specs.Program.{Program}
use Rattle.index_model.specs.Chains.{linkage_name_of}
use Rattle.index_model.specs.Links.{Link, is_link_indexed, indexed_in}
use Rattle.index_model.specs.Entries.{entry_of, may_have_linkage, linkage_entry_of, entries_of_link, entries_of}
use Rattle.index_model.specs.Faults.{Built, program_of, links_of, all_ranges, built_of}
use Rattle.index_model.specs.Answers.{entries_in}
use Rattle.index_model.specs.LawsEntries.{ComesBefore, IsLinkageEntryOf, AreApart, AreInOrder, EntriesAreInOrder}
use Rattle.index_model.proofs.Meanings.{bind_ok, same_ok}
use Rattle.index_model.proofs.Scans.{program_parts}
use Rattle.index_model.proofs.Pairs.{Pairs, On, all_pairs, pairs_append, pairs_filter, pairs_weaker}
use Rattle.index_model.proofs.LinkLaws.{Earlier, links_rise}

abbrev Rises : Entry → Entry → Type 0
Rises e n = ComesBefore e n ⊎ IsLinkageEntryOf e n

-- ---- the entries of one link

abbrev with_name : Entry → List ℕ → Entry
with_name e name = record e { linkage = true; name = name; tail = 0 }

linkage_is : (e : Entry) (name : Option (List ℕ)) (n : Entry) → e.linkage ≡ false → linkage_entry_of e name ≡ Some n → IsLinkageEntryOf e n
unfolding linkage_entry_of
linkage_is e None n own is = absurd cc
linkage_is e (Some name) n own is =
    let p = cond_some (may_have_linkage e.tag && not (bytes_eq name e.name)) (with_name e name) n is in
    subst (IsLinkageEntryOf e) p.1 (record { own = own; same = refl })

-- an entry, or the linkage entry behind it
abbrev Piece : Entry → Option Entry → List Entry
Piece e o = e ∷ option_to_list o

abbrev IsPiece : Entry → Option Entry → Type 0
IsPiece e o = (e.linkage ≡ false) × ((n : Entry) → o ≡ Some n → IsLinkageEntryOf e n)

module _ (e : Entry) where
  -- all have the unit and the offset of the first
  member : (o : Option Entry) → IsPiece e o → (y : Entry) → Contains (Piece e o) y → (y.unit ≡ e.unit) × (y.offset ≡ e.offset)
  member None h y c = ⊎_elim (λ (same : e ≡ y). (ap (λ (x : Entry). x.unit) (sym same), ap (λ (x : Entry). x.offset) (sym same))) (λ (l : Contains [] y). absurd (omega (arith, l.1))) (contains_cases e [] y c)
  member (Some n) h y c = ⊎_elim
      (λ (same : e ≡ y). (ap (λ (x : Entry). x.unit) (sym same), ap (λ (x : Entry). x.offset) (sym same)))
      (λ (l : Contains (n ∷ []) y). ⊎_elim
      (λ (same : n ≡ y). let s = (h.1 n refl).same in (ap (λ (x : Entry). x.unit) (sym same ∙ s), ap (λ (x : Entry). x.offset) (sym same ∙ s)))
      (λ (m : Contains [] y). absurd (omega (arith, m.1)))
      (contains_cases n [] y l))
      (contains_cases e (n ∷ []) y c)

  piece_pairs : (o : Option Entry) → IsPiece e o → Pairs Rises (Piece e o)
  piece_pairs None h = (λ y c. absurd (omega (arith, c.1)), tt)
  piece_pairs (Some n) h = (λ y c. ⊎_elim (λ (same : n ≡ y). inr (subst (IsLinkageEntryOf e) same (h.1 n refl))) (λ (m : Contains [] y). absurd (omega (arith, m.1))) (contains_cases n [] y c), (λ y c. absurd (omega (arith, c.1)), tt))

-- ---- a linkage entry stands behind its own

abbrev After : Option Entry → List Entry → Type 0
After before [] = Unit {0}
After before (e ∷ es) = (e.linkage ≡ true → (b : Entry) × (before ≡ Some b) × IsLinkageEntryOf b e) × After (Some e) es

piece_after : (e : Entry) (o : Option Entry) (es : List Entry) → IsPiece e o → ((before : Option Entry) → After before es) → (before : Option Entry) → After before (Piece e o ++ es)
piece_after e None es h others before = (λ l. absurd (true≢false (sym l ∙ h.0)), others (Some e))
piece_after e (Some n) es h others before = (λ l. absurd (true≢false (sym l ∙ h.0)), (λ _. (e, refl, h.1 n refl), others (Some n)))

abbrev BehindOwn : List Entry → Type 0
BehindOwn es = (k : ℕ) (d : Entry) → k < length es → (get_or es k d).linkage ≡ true → (0 < k) × IsLinkageEntryOf (get_or es (k - 1) d) (get_or es k d)

some_is : (b e : Entry) → Some b ≡ Some e → b ≡ e
some_is b e is = cc

after_at : (b : Entry) (es : List Entry) → After (Some b) es → (k : ℕ) (d : Entry) → k < length es → (get_or es k d).linkage ≡ true → IsLinkageEntryOf (get_or (b ∷ es) k d) (get_or es k d)
after_at b [] h k d lt l = absurd (omega arith)
after_at b (e ∷ es) h zero d lt l = let r = h.0 l in subst (λ (x : Entry). IsLinkageEntryOf x e) (sym (some_is b r.0 r.1)) r.2
after_at b (e ∷ es) h (suc k) d lt l = after_at e es h.1 k d (omega arith) l

behind_own : (es : List Entry) → After None es → BehindOwn es
behind_own [] h k d lt l = absurd (omega arith)
behind_own (e ∷ es) h zero d lt l = let r = h.0 l in absurd (none_some r.0 r.1)
  where
    none_some : (x : Entry) → None ≡ Some x → ⊥
    none_some x is = cc
behind_own (e ∷ es) h (suc k) d lt l =
    let minus : k ≡ suc k - 1 = omega arith in
    (omega arith, subst (λ (j : ℕ). IsLinkageEntryOf (get_or (e ∷ es) j d) (get_or es k d)) minus (after_at e es h.1 k d (omega arith) l))

-- ---- the list of a file

module _ (p : Program) where
  abbrev linkage_part : Link → Option Entry
  linkage_part k = linkage_entry_of (entry_of k) (linkage_name_of p k.chain)

  is_piece : (k : Link) → IsPiece (entry_of k) (linkage_part k)
  unfolding entry_of
  is_piece k = (refl, λ n is. linkage_is (entry_of k) (linkage_name_of p k.chain) n refl is)

  entry_place : (k : Link) → ((entry_of k).unit ≡ k.entry.home.number) × ((entry_of k).offset ≡ k.entry.item.at)
  unfolding entry_of
  entry_place k = (refl, refl)

  piece_is : (k : Link) → entries_of_link p k ≡ Piece (entry_of k) (linkage_part k)
  unfolding entries_of_link
  piece_is k = refl

  place : (k : Link) (y : Entry) → Contains (entries_of_link p k) y → (y.unit ≡ k.entry.home.number) × (y.offset ≡ k.entry.item.at)
  place k y c =
      let m = member (entry_of k) (linkage_part k) (is_piece k) y (subst (λ (xs : List Entry). Contains xs y) (piece_is k) c) in
      let e = entry_place k in
      (m.0 ∙ e.0, m.1 ∙ e.1)

  between : (k l : Link) → Earlier k.entry l.entry → (x y : Entry) → Contains (entries_of_link p k) x → Contains (entries_of_link p l) y → Rises x y
  between k l h x y xc yc =
      let a = place k x xc in
      let b = place l y yc in
      inl (⊎_elim
      (λ (lt : k.entry.home.number < l.entry.home.number). inl (omega (arith, a.0, b.0, lt)))
      (λ (s : (k.entry.home.number ≡ l.entry.home.number) × (k.entry.item.at < l.entry.item.at)). inr (a.0 ∙ s.0 ∙ sym b.0, omega (arith, a.1, b.1, s.1)))
      h)

  rise : (ks : List Link) → Pairs (On Earlier (λ (k : Link). k.entry)) ks → Pairs Rises (flat_map (entries_of_link p) ks)
  rise [] h = tt
  rise (k ∷ ks) h = pairs_append Rises (entries_of_link p k) (flat_map (entries_of_link p) ks)
      (subst (Pairs Rises) (sym (piece_is k)) (piece_pairs (entry_of k) (linkage_part k) (is_piece k)))
      (rise ks h.1)
      (λ x y xc yc. let m = of_flat_map (entries_of_link p) ks y yc in between k m.0 (h.0 m.0 m.1) x y xc m.2)

  after : (ks : List Link) (before : Option Entry) → After before (flat_map (entries_of_link p) ks)
  after [] before = tt
  after (k ∷ ks) before = subst (λ (xs : List Entry). After before (xs ++ flat_map (entries_of_link p) ks)) (sym (piece_is k)) (piece_after (entry_of k) (linkage_part k) (flat_map (entries_of_link p) ks) (is_piece k) (after ks) before)

apart : (e n : Entry) → Rises e n → AreApart e n
apart e n r unit offset linkage = ⊎_elim
    (λ (b : ComesBefore e n). ⊎_elim (λ (lt : e.unit < n.unit). omega (arith, lt, unit)) (λ (s : (e.unit ≡ n.unit) × (e.offset < n.offset)). omega (arith, s.1, offset)) b)
    (λ (l : IsLinkageEntryOf e n). false≢true (sym l.own ∙ linkage ∙ ap (λ (x : Entry). x.linkage) l.same))
    r

pub entries_in_order : EntriesAreInOrder
unfolding built_of links_of entries_of
entries_in_order f b is =
    let p = bind_ok (program_of f) _ b is in
    let k = bind_ok (links_of p.0) _ b p.2 in
    let r = bind_ok (all_ranges p.0 k.0) _ b k.2 in
    let parts = program_parts f p.0 p.1 in
    let links = pairs_filter (On Earlier (λ (k : Link). k.entry)) is_link_indexed k.0 (links_rise p.0 p.0.sections 0 parts.0 p.0.walks k.0 parts.3 k.1) in
    let es = rise p.0 (indexed_in k.0) links in
    let made : AreInOrder (flat_map (entries_of_link p.0) (indexed_in k.0)) = record {
      rise = all_pairs Rises (flat_map (entries_of_link p.0) (indexed_in k.0)) es;
      once = all_pairs AreApart (flat_map (entries_of_link p.0) (indexed_in k.0)) (pairs_weaker Rises AreApart apart (flat_map (entries_of_link p.0) (indexed_in k.0)) es);
      linkage = behind_own (flat_map (entries_of_link p.0) (indexed_in k.0)) (after p.0 (indexed_in k.0) None);
    } in
    subst (λ (x : Built). AreInOrder (entries_in x)) (same_ok (record { program = p.0; links = k.0; ranges = r.0 }) b r.2) made
