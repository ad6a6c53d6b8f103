-- What stands before the names of all entries with one lexical parent.
use Rattle.std.proofs.Common.{◌≡◌, ℕ, List, [], map, Option, None, option_map, Result, Ok, Err, refl, sym, subst}
use Rattle.std.specs.Prelude.{IsOkAnd}
use Rattle.std.specs.Borrow.{Bor}
use Rattle.ix_base.specs.declared.limits.TheConstants.{MAX_PATH_STEPS}
use Rattle.index_model.specs.Names.{Member, component, scope_path}
use Rattle.index_model.specs.Parents.{parent_offset}
use Rattle.index_model.specs.Program.{Program, Located}
use Rattle.shard_build.specs.Entries.{EntriesOf}
use Rattle.parent_resolve.specs.Paths.{ForEnd}
use Rattle.parent_resolve.proofs.Outwards.{no_parent}
use Rattle.parent_resolve.proofs.PathSteps.{at_root}
use Rattle.name_forms.specs.Scoped.{parts, joined}
use Rattle.qualified_names.specs.Paths.{IsFront, IsFrontAround}
use Rattle.qualified_names.proofs.NameLaws.{is_front}

-- nothing is around a root
pub around_root : (p : Program) (d : Located) → parent_offset d ≡ None → (front : List ℕ) → front ≡ [] → IsOkAnd (scope_path p d) (IsFront front)
around_root p d top front none = subst (λ (r : Result (List Member) ℕ). IsOkAnd r (IsFront front)) (sym (at_root p MAX_PATH_STEPS d (no_parent d top))) (is_front [] [] front refl none)

ok_too : {A : Type 0} (P Q : A → Type 0) (r : Result A ℕ) → ((x : A) → P x → Q x) → IsOkAnd r P → IsOkAnd r Q
ok_too P Q (Ok x) f h = f x h
ok_too P Q (Err e) f h = absurd h

-- what the members of the path give stands before the name
pub front_around : (e : EntriesOf) (parent : Option ℕ) (items : List (Option (Bor (List ℕ)))) → ForEnd e parent (λ p d. IsOkAnd (scope_path p d) (λ ms. map (λ o. option_map (λ t. t.now) o) items ≡ map component ms)) → (front : List ℕ) → front ≡ joined (parts items) [] → IsFrontAround e parent front
front_around e parent items given front is p file d dc place =
    ok_too (λ ms. map (λ o. option_map (λ t. t.now) o) items ≡ map component ms) (IsFront front) (scope_path p d) (λ ms are. is_front items ms front are is) (given p file d dc place)
