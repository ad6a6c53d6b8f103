-- Scope paths, qualified names and simple names (DWARF 5, 2.13.2 on declarations completed elsewhere; 6.1.1 on names).
use Rattle.std.specs.Prelude.{ℕ, zero, suc, ◌&&◌, ◌||◌, ◌==◌, if◌then◌else◌, List, [], ◌∷◌, ◌++◌, reverse, filter_map, codes, Option, Some, None, Result, Ok, Err}
use Rattle.std.specs.List.{join_by}
use Rattle.ix_base.specs.declared.code.TheConstants.{REFERENCE_CHAIN}
use Rattle.ix_base.specs.declared.limits.TheConstants.{MAX_PATH_STEPS}
use Rattle.index_model.specs.Meaning.{◌>>=◌}
use Rattle.index_model.specs.Attributes.{has_enum_class}
use Rattle.index_model.specs.Program.{Program, Located, scope_around}
use Rattle.index_model.specs.declared.rules.Class.{Class}
use Rattle.index_model.specs.declared.rules.Class.TheVariants.{C, Cxx, Ada, Plain}
use Rattle.index_model.specs.Chains.{chain_of, chain_end, name_of}
use Rattle.index_model.specs.Tags.{namespace, is_record_tag, enumeration}
use Rattle.index_model.specs.AdaNames.{decoded, decoded_simple}

-- an entry on a scope path, and its name
pub record Member : Type 0 where
  pub entry : Located
  pub name : Option (List ℕ)

-- the scope of the entry whose chain ends with e: the lexical parent of e
abbrev pub scope_of : Located → Option Located
scope_of e = scope_around e

-- A root ends the path. Below the root the member's chain is followed, then its name, and the path goes on around the chain's end.
unfoldable pub step_to : Program → Located → (Located → Result (List Member) ℕ) → Result (List Member) ℕ
step_to p m onwards = if m.item.depth == 0 then Ok (record { entry = m; name = None } ∷ []) else do
  chain ← chain_of p m
  name ← name_of p m chain
  others ← onwards (chain_end m chain)
  Ok (record { entry = m; name = name } ∷ others)

-- nothing is around a root
abbrev pub step : Option Located → (Located → Result (List Member) ℕ) → Result (List Member) ℕ
step None onwards = Ok []
step (Some m) onwards = onwards m

-- the path around e, in n steps at most; the number of steps is tested first
unfoldable pub path_from : ℕ → Program → Located → Result (List Member) ℕ
path_from zero p e = step (scope_of e) (λ m. Err REFERENCE_CHAIN)
path_from (suc n) p e = step (scope_of e) (λ m. step_to p m (λ end. path_from n p end))

-- the scope path, from the inside outwards, of an entry whose chain ends with e
abbrev pub scope_path : Program → Located → Result (List Member) ℕ
scope_path = path_from MAX_PATH_STEPS

-- What a member gives to a C++ name. The enumerators of an unscoped enumeration take its scope.
unfoldable pub component : Member → Option (List ℕ)
component m =
    let d = m.entry.item in
    if d.tag == namespace || is_record_tag d.tag || (d.tag == enumeration && has_enum_class d) then m.name else None

-- the components from the outermost inwards and the name, joined by `::`
unfoldable pub scoped_name : List Member → List ℕ → List ℕ
scoped_name path name = join_by (λ part. part) (codes "::") (reverse (filter_map component path) ++ name ∷ [])

-- the qualified name by the language class of the entry's unit
unfoldable pub qualified_name : Class → List Member → List ℕ → List ℕ
qualified_name C path name = name
qualified_name Plain path name = name
qualified_name Cxx path name = scoped_name path name
qualified_name Ada path name = decoded name

-- the simple name by the language class of the entry's unit: the name, or in Ada its last piece
unfoldable pub simple_name : Class → List ℕ → List ℕ
simple_name C name = name
simple_name Plain name = name
simple_name Cxx name = name
simple_name Ada name = decoded_simple name
