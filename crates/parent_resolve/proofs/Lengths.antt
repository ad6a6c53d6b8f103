-- The length of a qualified name by how much its scope path puts before it.
use Rattle.std.proofs.Common.{◌≡◌, ℕ, ◌+◌, min, List, [], ◌∷◌, ◌++◌, length, length-append, filter_map, reverse, Option, Some, None, refl, ap, ◌∙◌, arith}
use Rattle.std.specs.Prelude.{codes}
use Rattle.std.specs.List.{cons_option}
use Rattle.index_model.specs.declared.rules.Class.{Class}
use Rattle.index_model.specs.declared.rules.Class.TheVariants.{Cxx}
use Rattle.index_model.specs.Names.{Member, component, qualified_name, scoped_name}
use Rattle.name_forms.proofs.ScopeLaws.{prefix, joined_is, prefix_reverse, scoped_name_is}
use Rattle.parent_resolve.specs.declared.scope.Scope.{Scope}
use Rattle.parent_resolve.specs.Scopes.{greatest, part_length, prefix_length, IsScope}

prefix_of : (path : List Member) → length (prefix (filter_map component path)) ≡ prefix_length path
prefix_of [] = refl
prefix_of (m ∷ ms) = by (prefix_of ms) (component m)
  where
    by : length (prefix (filter_map component ms)) ≡ prefix_length ms → (o : Option (List ℕ)) → length (prefix (cons_option o (filter_map component ms))) ≡ part_length o + prefix_length ms
    by more None = omega (arith, more)
    by more (Some name) = omega (arith, more, length-append (name ++ codes "::") (prefix (filter_map component ms)), length-append name (codes "::"))

pub scoped_length : (path : List Member) (name : List ℕ) → length (scoped_name path name) ≡ prefix_length path + length name
scoped_length path name =
    let ps = filter_map component path in
    omega (arith, ap length (scoped_name_is path name ∙ joined_is (reverse ps) name), length-append (prefix (reverse ps)) name, prefix_reverse ps, prefix_of path)

pub cxx_length : (class : Class) (s : Scope) (path : List Member) (name : List ℕ) (n : ℕ) → class ≡ Cxx → IsScope s path → n ≡ min (s.length + length name) greatest → n ≡ min greatest (length (qualified_name class path name))
unfolding qualified_name
cxx_length class s path name n is h sum =
    let own : n ≡ min greatest (length (scoped_name path name)) = omega (arith, sum, h.length, scoped_length path name) in
    rw is own
