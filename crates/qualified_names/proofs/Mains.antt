-- The main program among the indexed entries.
use Rattle.std.proofs.Common.{◌≡◌, ℕ, zero, suc, ◌+◌, ◌<◌, ◌≤◌, Bool, true, false, cond, not, ◌&&◌, eqb, List, [], ◌∷◌, ◌++◌, drop, filter, find, get_or, length, map, unwrap_or, Option, Some, None, option_map, Ok, refl, sym, ap, subst, ◌∙◌, arith}
use Rattle.std.specs.Arc.{arc_value}
use Rattle.std.specs.declared.sync.Arc.{Arc}
use Rattle.std.specs.Prelude.{codes, bytes_eq}
use Rattle.std.specs.Option.{option_or}
use Rattle.std.specs.List.{AllZip}
use Rattle.std.proofs.Math.Seq.{drop-cons}
use Rattle.std.proofs.lemmas.Bool.{true≢false, eqb-true, and_right}
use Rattle.index_model.specs.declared.answer.Main.{Main}
use Rattle.index_model.specs.declared.shard.Linked.{Linked}
use Rattle.index_model.specs.declared.shard.LinkedEntry.{LinkedEntry}
use Rattle.index_model.specs.declared.shard.Shard.{Shard}
use Rattle.index_model.specs.Attributes.{says_main}
use Rattle.index_model.specs.Entries.{is_link_static}
use Rattle.index_model.specs.Faults.{program_of}
use Rattle.index_model.specs.Languages.{class_of, language_of}
use Rattle.index_model.specs.Links.{Link, indexed_in, qualified_of}
use Rattle.index_model.specs.MainProgram.{full_name, is_c_or_cxx, is_named_main, main_in, main_of}
use Rattle.index_model.specs.Program.{Program}
use Rattle.index_model.specs.ShardLanguages.{IsLanguageAt}
use Rattle.index_model.specs.Shards.{AreShardsOf}
use Rattle.index_model.specs.Tags.{subprogram}
use Rattle.parent_resolve.proofs.Entries.{home_in}
use Rattle.qualified_names.specs.declared.sought.MainBy.TheVariants.{Said, Named}
use Rattle.qualified_names.specs.Indexed.{IsIndexed}
use Rattle.qualified_names.specs.Files.{all_linked}
use Rattle.qualified_names.specs.Sought.{is_main_by, IsFound}
use Rattle.qualified_names.proofs.LinkLaws.{parts}

-- ---- the language of an entry's unit

module _ (f : List ℕ) (p : Program) (file : program_of f ≡ Ok p) (shards : List Shard) (are : AreShardsOf p shards) (x : LinkedEntry) (k : Link) (h : IsIndexed p x k) (language : ℕ) (at : IsLanguageAt shards x.unit language) where
  pub language_here : language ≡ language_of p k.entry.home
  language_here = at f p file are k.entry.home (home_in p k.entry h.there).0 (sym h.links.unit)

  pub class_here : class_of language ≡ k.class
  class_here = ap class_of language_here ∙ sym (parts p x k h).class

-- a unit without a language has no class of its own
no_language : (language : ℕ) → eqb language 0 ≡ true → is_c_or_cxx (class_of language) ≡ false
unfolding class_of
no_language n is = rw (eqb-true n 0 is) refl

-- ---- one entry

holds : (a b : Bool) → b ≡ true → a ≡ (a && b)
holds true b e = sym e
holds false b e = refl

pub told_said : (p : Program) (k : Link) (language : ℕ) → language ≡ language_of p k.entry.home → says_main k.entry.item ≡ true → not (eqb language 0) ≡ is_main_by p Said k
told_said p k language here on = ap (λ (n : ℕ). not (eqb n 0)) here ∙ holds (not (eqb (language_of p k.entry.home) 0)) (says_main k.entry.item) on

module _ (p : Program) (k : Link) (language : ℕ) (here : language ≡ language_of p k.entry.home) (class : class_of language ≡ k.class) where
  abbrev has_name : Bool
  has_name = eqb k.entry.item.tag subprogram && bytes_eq (full_name k) (codes "main")

  abbrev fits : Bool
  fits = is_c_or_cxx k.class && not (is_link_static k)

  -- the name and the rest are those of a main program, which has a language
  pub told_named : (has may : Bool) → (is_c_or_cxx k.class ≡ true → has ≡ has_name) → may ≡ fits → (has && may) ≡ is_main_by p Named k
  unfolding is_named_main
  told_named has may h m = by (is_c_or_cxx k.class) refl (eqb language 0) refl
    where
      rearranged : (t c s b : Bool) → ((t && b) && (c && s)) ≡ (((t && c) && s) && b)
      rearranged true true true true = refl
      rearranged true true true false = refl
      rearranged true true false true = refl
      rearranged true true false false = refl
      rearranged true false s true = refl
      rearranged true false s false = refl
      rearranged false c s b = refl

      none : (t s b : Bool) → (((t && false) && s) && b) ≡ false
      none true s b = refl
      none false s b = refl

      by : (c : Bool) → is_c_or_cxx k.class ≡ c → (z : Bool) → eqb language 0 ≡ z → (has && may) ≡ (not (eqb (language_of p k.entry.home) 0) && is_named_main k)
      by false off z e =
          let right : is_named_main k ≡ false = ap (λ (c : Bool). ((eqb k.entry.item.tag subprogram && c) && not (is_link_static k)) && bytes_eq (full_name k) (codes "main")) off ∙ none (eqb k.entry.item.tag subprogram) (not (is_link_static k)) (bytes_eq (full_name k) (codes "main")) in
          and_right has may (m ∙ ap (λ (c : Bool). c && not (is_link_static k)) off) ∙ sym (and_right (not (eqb (language_of p k.entry.home) 0)) (is_named_main k) right)
      by true on true e = absurd (true≢false (sym on ∙ ap is_c_or_cxx (sym class) ∙ no_language language e))
      by true on false e =
          let has_one : not (eqb (language_of p k.entry.home) 0) ≡ true = ap (λ (n : ℕ). not (eqb n 0)) (sym here) ∙ ap not e in
          ap (λ (b : Bool). b && may) (h on) ∙ ap (λ (b : Bool). has_name && b) m ∙
          rearranged (eqb k.entry.item.tag subprogram) (is_c_or_cxx k.class) (not (is_link_static k)) (bytes_eq (full_name k) (codes "main")) ∙
          sym (ap (λ (b : Bool). b && is_named_main k) has_one)

-- ---- the first

module _ {A : Type 0} where
  pub find_filter : (q r : A → Bool) (xs : List A) → find q (filter r xs) ≡ find (λ x. r x && q x) xs
  find_filter q r [] = refl
  find_filter q r (x ∷ xs) = by (r x) (find_filter q r xs)
    where
      by : (b : Bool) → find q (filter r xs) ≡ find (λ x. r x && q x) xs → find q (cond b (x ∷ filter r xs) (filter r xs)) ≡ cond (b && q x) (Some x) (find (λ x. r x && q x) xs)
      by true more = ap (λ (o : Option A). cond (q x) (Some x) o) more
      by false more = more

  pub find_append : (q : A → Bool) (xs ys : List A) → find q (xs ++ ys) ≡ option_or (find q xs) (find q ys)
  find_append q [] ys = refl
  find_append q (x ∷ xs) ys = by (q x) (find_append q xs ys)
    where
      by : (b : Bool) → find q (xs ++ ys) ≡ option_or (find q xs) (find q ys) → cond b (Some x) (find q (xs ++ ys)) ≡ option_or (cond b (Some x) (find q xs)) (find q ys)
      by true more = refl
      by false more = more

module _ (p : Program) where
  pub found_or : (x : LinkedEntry) (a b : Option Link) → IsFound p (Some x) a → IsFound p (Some x) (option_or a b)
  found_or x None b h = absurd h
  found_or x (Some k) b h = h

  pub none_or : (a : Option Link) → IsFound p None a → (r : Option LinkedEntry) (b : Option Link) → IsFound p r b → IsFound p r (option_or a b)
  none_or None h r b g = g
  none_or (Some k) h r b g = absurd h

  pub none_found : (a : Option Link) → IsFound p None a → a ≡ None
  none_found None h = refl
  none_found (Some k) h = absurd h

  pub one_found : (x : LinkedEntry) (a : Option Link) → IsFound p (Some x) a → (k : Link) × (a ≡ Some k) × IsIndexed p x k
  one_found x None h = absurd h
  one_found x (Some k) h = (k, refl, h)

  -- the entries that are left, of which the first that is told is the first of all
  pub record Left (q : Link → Bool) (ks : List Link) (xs : List LinkedEntry) : Type 0 where
    pub rest : List Link
    pub zip : AllZip (IsIndexed p) xs rest
    pub same : find q ks ≡ find q rest

  module _ (q : Link → Bool) (ks : List Link) where
    pub all_left : (xs : List LinkedEntry) → AllZip (IsIndexed p) xs ks → Left q ks xs
    all_left xs z = record { rest = ks; zip = z; same = refl }

    pub none_left : Left q ks [] → find q ks ≡ None
    none_left l = by l.rest l.zip l.same
      where
        by : (rest : List Link) → AllZip (IsIndexed p) [] rest → find q ks ≡ find q rest → find q ks ≡ None
        by [] z same = same
        by (k ∷ rest) z same = absurd z

    pub first_left : (x : LinkedEntry) (xs : List LinkedEntry) → Left q ks (x ∷ xs) → (k : Link) × IsIndexed p x k × (q k ≡ true → find q ks ≡ Some k) × (q k ≡ false → Left q ks xs)
    first_left x xs l = by l.rest l.zip l.same
      where
        by : (rest : List Link) → AllZip (IsIndexed p) (x ∷ xs) rest → find q ks ≡ find q rest → (k : Link) × IsIndexed p x k × (q k ≡ true → find q ks ≡ Some k) × (q k ≡ false → Left q ks xs)
        by [] z same = absurd z
        by (k ∷ rest) z same = (
          k,
          z.0,
          (λ on. same ∙ ap (λ (b : Bool). cond b (Some k) (find q rest)) on),
          (λ off. record { rest = rest; zip = z.1; same = same ∙ ap (λ (b : Bool). cond b (Some k) (find q rest)) off }),
        )

    -- some entries in front, and all others
    pub front_left : (xs ys : List LinkedEntry) → Left q ks (xs ++ ys) → (front : List Link) × (back : List Link) × AllZip (IsIndexed p) xs front × AllZip (IsIndexed p) ys back × (find q ks ≡ option_or (find q front) (find q back))
    front_left xs ys l =
        let s = split xs l.rest l.zip in
        (s.0, s.1, s.3, s.4, l.same ∙ ap (find q) (sym s.2) ∙ find_append q s.0 s.1)
      where
        split : (us : List LinkedEntry) (rest : List Link) → AllZip (IsIndexed p) (us ++ ys) rest → (front : List Link) × (back : List Link) × (front ++ back ≡ rest) × AllZip (IsIndexed p) us front × AllZip (IsIndexed p) ys back
        split [] rest z = ([], rest, refl, tt, z)
        split (u ∷ us) [] z = absurd z
        split (u ∷ us) (k ∷ rest) z = let s = split us rest z.1 in (k ∷ s.0, s.1, ap (λ (ls : List Link). k ∷ ls) s.2, (z.0, s.3), s.4)

  -- the main program: by the entry that says it, else by its name
  pub either_way : (ks : List Link) → main_in (filter (λ k. not (eqb (language_of p k.entry.home) 0)) ks) ≡ option_or (find (is_main_by p Said) ks) (find (is_main_by p Named) ks)
  unfolding main_in
  either_way ks =
      let has : Link → Bool = λ k. not (eqb (language_of p k.entry.home) 0) in
      ap (λ (o : Option Link). option_or o (find is_named_main (filter has ks))) (find_filter (λ k. says_main k.entry.item) has ks) ∙
      ap (λ (o : Option Link). option_or (find (is_main_by p Said) ks) o) (find_filter is_named_main has ks)

  same_main : (m n : Main) → m.language ≡ n.language → m.name ≡ n.name → m ≡ n
  same_main m n language name =
      ap (λ (l : ℕ). let x : Main = record { language = l; name = m.name } in x) language ∙
      ap (λ (b : List ℕ). let x : Main = record { language = n.language; name = b } in x) name

  abbrev answer : Link → Main
  answer k = record { language = language_of p k.entry.home; name = full_name k }

  pub main_given : (ks : List Link) (k : Link) → main_in (filter (λ k. not (eqb (language_of p k.entry.home) 0)) (indexed_in ks)) ≡ Some k → (m : Main) → m.language ≡ language_of p k.entry.home → qualified_of k ≡ Some m.name → Some m ≡ main_of p ks
  unfolding main_of
  main_given ks k is m language name =
      let own : m ≡ answer k = same_main m (answer k) language (sym (ap (λ (o : Option (List ℕ)). unwrap_or o []) name)) in
      ap {B = Option Main} (λ (x : Main). Some x) own ∙ sym (ap (option_map answer) is)

  pub no_main : (ks : List Link) → main_in (filter (λ k. not (eqb (language_of p k.entry.home) 0)) (indexed_in ks)) ≡ None → None ≡ main_of p ks
  unfolding main_of
  no_main ks is = sym (ap (option_map answer) is)

-- ---- the entries that are left

pub drop_all : {A : Type 0} (xs : List A) (k : ℕ) → length xs ≤ k → drop k xs ≡ []
drop_all [] zero le = refl
drop_all [] (suc k) le = refl
drop_all (x ∷ xs) zero le = absurd (omega (arith, le))
drop_all (x ∷ xs) (suc k) le = drop_all xs k (omega (arith, le))

module _ (p : Program) (q : Link → Bool) (ks : List Link) (xs : List LinkedEntry) (i : ℕ) (d : LinkedEntry) (within : i < length xs) where
  -- at one of the entries: its link, and what is so if it is told or isn't
  pub at_left : Left p q ks (drop i xs) → (k : Link) × IsIndexed p (get_or xs i d) k × (q k ≡ true → find q ks ≡ Some k) × (q k ≡ false → Left p q ks (drop (i + 1) xs))
  at_left l =
      let next : suc i ≡ i + 1 = omega arith in
      first_left p q ks (get_or xs i d) (drop (i + 1) xs) (subst (Left p q ks) (drop-cons xs i d within ∙ ap (λ (n : ℕ). get_or xs i d ∷ drop n xs) next) l)

pub end_left : (p : Program) (q : Link → Bool) (ks : List Link) (xs : List LinkedEntry) (i : ℕ) → length xs ≤ i → Left p q ks (drop i xs) → find q ks ≡ None
end_left p q ks xs i over l = none_left p q ks (subst (Left p q ks) (drop_all xs i over) l)

-- the entries of the runs from one on, which are shared
abbrev pub from_run : {Z : Type 0} → List (Arc Linked Z) → ℕ → List LinkedEntry
from_run shared i = all_linked (map arc_value (drop i shared))

pub next_run : {Z : Type 0} (shared : List (Arc Linked Z)) (i : ℕ) (item : Arc Linked Z) → item ≡ get_or shared i item → i < length shared → from_run shared i ≡ (arc_value item).entries ++ from_run shared (i + 1)
next_run {Z = Z} shared i item at within =
    let next : suc i ≡ i + 1 = omega arith in
    ap (λ (ss : List (Arc Linked Z)). all_linked (map arc_value ss)) (drop-cons shared i item within) ∙
    ap (λ (s : Arc Linked Z). (arc_value s).entries ++ from_run shared (suc i)) (sym at) ∙
    ap (λ (n : ℕ). (arc_value item).entries ++ from_run shared n) next

pub last_run : {Z : Type 0} (shared : List (Arc Linked Z)) (i : ℕ) → length shared ≤ i → from_run shared i ≡ []
last_run {Z = Z} shared i over = ap (λ (ss : List (Arc Linked Z)). all_linked (map arc_value ss)) (drop_all shared i over)
