-- Names with their entries, one name after the other.
use Rattle.std.proofs.Common.{◌≡◌, ℕ, ◌+◌, ◌<◌, List, [], ◌∷◌, ◌++◌, length, get_or, take, drop, refl, sym, ap, ◌∙◌, arith, length-append}
use Rattle.std.specs.Prelude.{All, flat_map, sum_by}
use Rattle.std.proofs.lemmas.List.{take_at, drop_at, take-append-drop, drop_more, map-append}
use Rattle.std.proofs.lemmas.List.Concat.{flat_map-append}
use Rattle.std.proofs.lemmas.List.Elements.{All-head, All-tail, All-take, All-drop}
use Rattle.std.proofs.lemmas.List.Sums.{sum_by-cons}
use Rattle.index_model.specs.Answers.{places}
use Rattle.query_engine.specs.declared.listing.ListedName.{ListedName}
use Rattle.query_engine.specs.Listed.{is_listed, names_of}
use Rattle.debugnames_write.specs.declared.part.ListedPart.{ListedPart}
use Rattle.debugnames_write.specs.declared.source.Source.{Source}
use Rattle.debugnames_write.specs.Counts.{count_of}
use Rattle.debugnames_write.specs.Items.{ArePartOf}

module _ {X : Type 0} where
  pub same_front : (a b c d : List X) → a ++ b ≡ c ++ d → length a ≡ length c → (a ≡ c) × (b ≡ d)
  same_front a b c d is size = (
    sym (take_at a b (length a) refl) ∙ ap (take (length a)) is ∙ take_at c d (length a) (sym size),
    sym (drop_at a b (length a) refl) ∙ ap (drop (length a)) is ∙ drop_at c d (length a) (sym size),
  )

pub names_append : (low high : List ListedName) → names_of (low ++ high) ≡ names_of low ++ names_of high
names_append low high = map-append (λ (n : ListedName). n.name.now) low high

module _ {X : Type 0} (f : List ℕ → List X) where
  abbrev pub IsSized : ListedName → Type 0
  IsSized n = n.count ≡ length (f n.name.now)

  pub sum_is : (ns : List ListedName) → All IsSized ns → sum_by count_of ns ≡ length (flat_map f (names_of ns))
  sum_is [] h = refl
  sum_is (n ∷ ns) h =
      let first : n.count ≡ length (f n.name.now) = All-head IsSized n ns h in
      let rest = sum_is ns (All-tail IsSized n ns h) in
      let long = length-append (f n.name.now) (flat_map f (names_of ns)) in
      let cons = sum_by-cons count_of n ns in
      omega (arith, first, rest, long, cons)

  flat_names : (low high : List ListedName) → flat_map f (names_of (low ++ high)) ≡ flat_map f (names_of low) ++ flat_map f (names_of high)
  flat_names low high = ap (flat_map f) (names_append low high) ∙ flat_map-append f (names_of low) (names_of high)

  module _ (ns : List ListedName) (ps : List X) (sized : All IsSized ns) (are : ps ≡ flat_map f (names_of ns)) where
    -- two parts of them
    module _ (low high : List ListedName) (front back : List X) (names : low ++ high ≡ ns) (places : front ++ back ≡ ps) (size : sum_by count_of low ≡ length front) where
      low_sized : All IsSized low
      low_sized =
          let cut : take (length low) ns ≡ low = ap (take (length low)) (sym names) ∙ take_at low high (length low) refl in
          rw cut at (All-take IsSized (length low) ns sized)

      high_sized : All IsSized high
      high_sized =
          let cut : drop (length low) ns ≡ high = ap (drop (length low)) (sym names) ∙ drop_at low high (length low) refl in
          rw cut at (All-drop IsSized (length low) ns sized)

      both_are : (front ≡ flat_map f (names_of low)) × (back ≡ flat_map f (names_of high))
      both_are = same_front front back (flat_map f (names_of low)) (flat_map f (names_of high))
          (places ∙ are ∙ ap (λ (w : List ListedName). flat_map f (names_of w)) (sym names) ∙ flat_names low high)
          (sym size ∙ sum_is low low_sized)

      pub both_sized : (All IsSized low × (front ≡ flat_map f (names_of low))) × (All IsSized high × (back ≡ flat_map f (names_of high)))
      both_sized = ((low_sized, both_are.0), (high_sized, both_are.1))

    -- the entries of one of them
    module _ (k : ℕ) (d : ListedName) (lt : k < length ns) (passed : ℕ) (is_passed : passed ≡ sum_by count_of (take k ns)) where
      abbrev own : List X
      own = f (get_or ns k d).name.now

      abbrev before : List X
      before = flat_map f (names_of (take k ns))

      abbrev behind : List X
      behind = flat_map f (names_of (drop (k + 1) ns))

      around : ps ≡ before ++ (own ++ behind)
      around =
          are ∙ ap (λ (w : List ListedName). flat_map f (names_of w)) (sym (take-append-drop k ns)) ∙ flat_names (take k ns) (drop k ns)
          ∙ ap (λ (w : List ListedName). before ++ flat_map f (names_of w)) (drop_more ns k d lt)

      passes : length before ≡ passed
      passes = sym (is_passed ∙ sum_is (take k ns) (All-take IsSized k ns sized))

      pub piece : take (get_or ns k d).count (drop passed ps) ≡ own
      piece =
          ap (λ (w : List X). take (get_or ns k d).count (drop passed w)) around
          ∙ ap (take (get_or ns k d).count) (drop_at before (own ++ behind) passed passes)
          ∙ take_at own behind (get_or ns k d).count (sym (sized k d lt))

-- the two parts of a part
module _ (s : Source) (p low high : ListedPart) (own : ArePartOf s p) (names : low.names.now ++ high.names.now ≡ p.names.now) (of_names : low.places.now ++ high.places.now ≡ p.places.now) where
  abbrev listed : List ℕ → List ℕ
  listed t = places (is_listed t) s.entries.now

  abbrev both : (All (IsSized listed) low.names.now × (low.places.now ≡ flat_map listed (names_of low.names.now))) × (All (IsSized listed) high.names.now × (high.places.now ≡ flat_map listed (names_of high.names.now)))
  both = both_sized listed p.names.now p.places.now own.counts own.are low.names.now high.names.now low.places.now high.places.now names of_names low.fits

  pub low_part : ArePartOf s low
  low_part = record { inside = own.inside; counts = both.0.0; are = both.0.1 }

  pub high_part : ArePartOf s high
  high_part = record { inside = own.inside; counts = both.1.0; are = both.1.1 }
