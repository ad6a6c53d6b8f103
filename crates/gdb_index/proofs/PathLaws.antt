-- Along a scope path, member by member.
use Rattle.std.proofs.Common.{◌≡◌, ℕ, zero, suc, ◌-◌, Bool, true, false, cond, eqb, List, [], ◌∷◌, ◌++◌, map, filter_map, Option, Some, None, option_map, Ok, refl, sym, ap, subst, ◌∙◌, arith, append_assoc, append-nil}
use Rattle.std.specs.Prelude.{option_and_then, option_to_list, unwrap_or}
use Rattle.std.specs.List.{cons_option}
use Rattle.ix_base.specs.declared.limits.TheConstants.{MAX_PATH_STEPS}
use Rattle.cxx_spelling.specs.declared.release.Release.{Release}
use Rattle.index_model.specs.Faults.{program_of}
use Rattle.index_model.specs.Program.{Program, Located}
use Rattle.gdb_entries.specs.Names.{component}
use Rattle.gdb_entries.specs.Rules.{entry_point}
use Rattle.gdb_entries.specs.Scopes.{path_behind, path_from, scope_in_place, scope_of, scope_path}
use Rattle.gdb_scopes.specs.Places.{offset_of, IsAt}
use Rattle.gdb_scopes.proofs.AroundLaws.{own_there, scope_there}
use Rattle.gdb_scopes.proofs.ScopeLaws.{one_around}
use Rattle.gdb_index.specs.declared.both_texts.BothTexts.{BothTexts}
use Rattle.gdb_index.specs.Texts.{text_by}

-- ---- a member of a path stands at its offset

module _ (f : List ℕ) (p : Program) (is : program_of f ≡ Ok p) where
  subprogram_there : (q : Option Located) (e : Located) → ((x : Located) → q ≡ Some x → IsAt p x.item.at x) → option_and_then (scope_in_place p) q ≡ Some e → IsAt p e.item.at e
  subprogram_there None e there h = absurd (cc)
  subprogram_there (Some x) e there h = scope_there f p is x.item.at x e (there x refl) h

  pub member_there : (o : ℕ) (d e : Located) → IsAt p o d → scope_of p d ≡ Some e → IsAt p e.item.at e
  unfolding scope_of
  member_there o d e here h = by (eqb d.item.tag entry_point) h
    where
      by : (b : Bool) → cond b (option_and_then (scope_in_place p) (scope_in_place p d)) (scope_in_place p d) ≡ Some e → IsAt p e.item.at e
      by true k = subprogram_there (scope_in_place p d) e (λ x l. scope_there f p is o d x here l) k
      by false k = scope_there f p is o d e here k

-- ---- the components of a path

abbrev pub components : Release → Program → List Located → List (List ℕ)
components release p es = filter_map (component release p) es

-- those of what is around an item, where that has n members at most
abbrev behind : Release → Program → ℕ → Located → Option (List (List ℕ))
behind release p n d = option_map (components release p) (path_from p n d)

-- of a path that is too long there are none
of_path : (release : Release) (p : Program) (d : Located) → components release p (scope_path p d) ≡ unwrap_or (behind release p MAX_PATH_STEPS d) []
unfolding scope_path
of_path release p d = by (path_from p MAX_PATH_STEPS d)
  where
    by : (o : Option (List Located)) → components release p (unwrap_or o []) ≡ unwrap_or (option_map (components release p) o) []
    by None = refl
    by (Some es) = refl

-- without a scope the path has its end
ends_here : (release : Release) (p : Program) (n : ℕ) (d : Located) → scope_of p d ≡ None → behind release p n d ≡ Some []
unfolding path_from
ends_here release p zero d none = ap (λ (o : Option Located). option_map (components release p) (path_behind p o (λ e. None))) none
ends_here release p (suc n) d none = ap (λ (o : Option Located). option_map (components release p) (path_behind p o (λ e. path_from p n e))) none

-- so it has no components
pub no_path : (release : Release) (p : Program) (d : Located) → scope_of p d ≡ None → components release p (scope_path p d) ≡ []
no_path release p d none = of_path release p d ∙ ap (λ (b : Option (List (List ℕ))). unwrap_or b []) (ends_here release p MAX_PATH_STEPS d none)

-- with one where none may come it is too long
too_long : (release : Release) (p : Program) (d e : Located) → scope_of p d ≡ Some e → behind release p 0 d ≡ None
unfolding path_from
too_long release p d e some = ap (λ (o : Option Located). option_map (components release p) (path_behind p o (λ x. None))) some

-- one that may come gives its component, and the path goes on around it
goes_on : (release : Release) (p : Program) (n : ℕ) (d e : Located) → scope_of p d ≡ Some e → behind release p (suc n) d ≡ option_map (λ more. cons_option (component release p e) more) (behind release p n e)
unfolding path_from
goes_on release p n d e some = ap (λ (o : Option Located). option_map (components release p) (path_behind p o (λ x. path_from p n x))) some ∙ by (path_from p n e)
  where
    by : (o : Option (List Located)) → option_map (components release p) (option_map (λ more. e ∷ more) o) ≡ option_map (λ more. cons_option (component release p e) more) (option_map (components release p) o)
    by None = refl
    by (Some es) = refl

-- ---- the loop

one_more : {A : Type 0} (xs : List A) (o : Option A) (more : List A) → xs ++ cons_option o more ≡ (xs ++ option_to_list o) ++ more
one_more xs None more = ap (λ l. l ++ more) (sym (append-nil xs))
one_more xs (Some x) more = sym (append_assoc xs (x ∷ []) more)

more_behind : {A : Type 0} (xs : List A) (o : Option A) (b : Option (List A)) → option_map (λ more. xs ++ more) (option_map (λ more. cons_option o more) b) ≡ option_map (λ more. (xs ++ option_to_list o) ++ more) b
more_behind xs o None = refl
more_behind xs o (Some more) = ap (λ l. Some l) (one_more xs o more)

nothing_before : {A : Type 0} (b : Option (List A)) → b ≡ option_map (λ more. [] ++ more) b
nothing_before None = refl
nothing_before (Some more) = refl

-- the path of an item was followed to another one, around which so many members may still come
pub record IsFollowedTo (p : Program) (d : Located) (left : ℕ) (texts : List BothTexts) (next : Option ℕ) : Type 0 where
  pub item : Located
  pub there : IsAt p item.item.at item
  pub next_is : next ≡ option_map offset_of (scope_of p item)
  pub whole : (release : Release) → behind release p MAX_PATH_STEPS d ≡ option_map (λ more. map (text_by release) texts ++ more) (behind release p left item)

pub follow_none : (f : List ℕ) (p : Program) → program_of f ≡ Ok p → (o : ℕ) (d : Located) → IsAt p o d → (texts : List BothTexts) → texts ≡ [] → (next : Option ℕ) → next ≡ option_map offset_of (scope_of p d) → IsFollowedTo p d MAX_PATH_STEPS texts next
follow_none f p is o d here texts none next scope = record {
  item = d;
  there = own_there f p is o d here;
  next_is = scope;
  whole = λ release. nothing_before (behind release p MAX_PATH_STEPS d) ∙ ap (λ (ts : List BothTexts). option_map (λ more. map (text_by release) ts ++ more) (behind release p MAX_PATH_STEPS d)) (sym none);
}

-- the next member
pub record NextMember (p : Program) (item : Located) (member : ℕ) : Type 0 where
  pub located : Located
  pub scope : scope_of p item ≡ Some located
  pub is : IsAt p member located

module _ (f : List ℕ) (p : Program) (is : program_of f ≡ Ok p) (d : Located) (left : ℕ) (texts : List BothTexts) (next : Option ℕ) (h : IsFollowedTo p d left texts next) where
  pub next_member : (member : ℕ) → next ≡ Some member → NextMember p h.item member
  next_member member some =
      let e = one_around (scope_of p h.item) member (sym some ∙ h.next_is) in
      record { located = e.0; scope = e.1; is = subst (λ (n : ℕ). IsAt p n e.0) e.2 (member_there f p is h.item.item.at h.item e.0 h.there e.1) }

  -- it gives its component
  pub follow_one : (member : ℕ) (m : NextMember p h.item member) (fewer : ℕ) → left ≡ suc fewer → (now : List BothTexts) → ((release : Release) → map (text_by release) now ≡ map (text_by release) texts ++ option_to_list (component release p m.located)) →
      (scope : Option ℕ) → scope ≡ option_map offset_of (scope_of p m.located) → IsFollowedTo p d fewer now scope
  follow_one member m fewer less now are scope around = record {
    item = m.located;
    there = own_there f p is member m.located m.is;
    next_is = around;
    whole = λ release.
        h.whole release
        ∙ ap (λ (n : ℕ). option_map (λ more. map (text_by release) texts ++ more) (behind release p n h.item)) less
        ∙ ap (λ (b : Option (List (List ℕ))). option_map (λ more. map (text_by release) texts ++ more) b) (goes_on release p fewer h.item m.located m.scope)
        ∙ more_behind (map (text_by release) texts) (component release p m.located) (behind release p fewer m.located)
        ∙ ap (λ (ts : List (List ℕ)). option_map (λ more. ts ++ more) (behind release p fewer m.located)) (sym (are release));
  }

  -- without one these are the path's
  pub follow_end : ((member : ℕ) → next ≡ Some member → ⊥) → (release : Release) → map (text_by release) texts ≡ components release p (scope_path p d)
  follow_end none release = by (scope_of p h.item) refl
    where
      by : (q : Option Located) → scope_of p h.item ≡ q → map (text_by release) texts ≡ components release p (scope_path p d)
      by (Some e) k = absurd (none e.item.at (h.next_is ∙ ap (option_map offset_of) k))
      by None k =
          let all = h.whole release ∙ ap (λ (b : Option (List (List ℕ))). option_map (λ more. map (text_by release) texts ++ more) b) (ends_here release p left h.item k) in
          sym (of_path release p d ∙ ap (λ (b : Option (List (List ℕ))). unwrap_or b []) all ∙ append-nil (map (text_by release) texts))

  -- where none may come any more there are none
  pub follow_long : (member : ℕ) → NextMember p h.item member → left ≡ 0 → (release : Release) → [] ≡ components release p (scope_path p d)
  follow_long member m none release =
      let all = h.whole release ∙ ap (λ (n : ℕ). option_map (λ more. map (text_by release) texts ++ more) (behind release p n h.item)) none ∙ ap (λ (b : Option (List (List ℕ))). option_map (λ more. map (text_by release) texts ++ more) b) (too_long release p h.item m.located m.scope) in
      sym (of_path release p d ∙ ap (λ (b : Option (List (List ℕ))). unwrap_or b []) all)

-- one fewer may come
pub one_fewer : (n : ℕ) → (n ≡ 0 → ⊥) → n ≡ suc (n - 1)
one_fewer zero some = absurd (some refl)
one_fewer (suc n) some = omega arith

-- where there is no offset, nothing is around
pub none_around : (q : Option Located) → None ≡ option_map offset_of q → q ≡ None
none_around None e = refl
none_around (Some x) e = absurd cc
