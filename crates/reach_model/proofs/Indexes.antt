-- What is added for an index.
use Rattle.std.proofs.Common.{◌≡◌, ℕ, ◌+◌, ◌≤◌, Bool, true, false, cond, ◌&&◌, leb, List, [], ◌∷◌, length, codes, Option, Some, None, refl, sym, subst}
use Rattle.std.proofs.lemmas.Bool.{and_parts, leb-true}
use Rattle.std.proofs.lemmas.Option.{same_Some}
use Rattle.index_model.specs.declared.job.CacheKind.{CacheKind}
use Rattle.index_model.specs.declared.job.CacheKind.TheVariants.{Gdb8, Gdb9, Names}
use Rattle.index_model.specs.Cache.{GdbBytes, NameBytes, DoesNotFit, cache_in, cache_of, string_bytes_in}
use Rattle.index_model.specs.Faults.{Built}
use Rattle.reach_model.specs.Added.{Addition}
use Rattle.reach_model.specs.AddedIndex.{addition_of, index_section}

-- a section of this name and bytes, and strings
abbrev pub index_as : List ℕ → List ℕ → Option (List ℕ) → Addition
index_as name bytes strings = record { sections = record { name = name; content = bytes } ∷ []; strings = strings }

-- one section of this name, and strings that have places of four bytes behind so many bytes
pub record IsOfIndex (name : List ℕ) (old : ℕ) (addition : Addition) : Type 0 where
  pub bytes : List ℕ
  pub strings : Option (List ℕ)
  pub is : addition ≡ index_as name bytes strings
  pub room : (text : List ℕ) → strings ≡ Some text → old + length text ≤ 4294967295

of_gdb : (old : ℕ) (bytes : List ℕ) (fits : Bool) (addition : Addition) → addition_of (cond fits (GdbBytes bytes) DoesNotFit) ≡ Some addition → IsOfIndex (codes ".gdb_index") old addition
of_gdb old bytes false addition is = absurd cc
of_gdb old bytes true addition is = record {
  bytes = bytes;
  strings = None;
  is = sym (same_Some (index_as (codes ".gdb_index") bytes None) addition is);
  room = λ text e. absurd cc;
}

of_names : (old : ℕ) (names strings : List ℕ) (fits : Bool) → (fits ≡ true → old + length strings ≤ 4294967295) → (addition : Addition) → addition_of (cond fits (NameBytes names strings) DoesNotFit) ≡ Some addition → IsOfIndex (codes ".debug_names") old addition
of_names old names strings false room addition is = absurd cc
of_names old names strings true room addition is = record {
  bytes = names;
  strings = Some strings;
  is = sym (same_Some (index_as (codes ".debug_names") names (Some strings)) addition is);
  room = λ text e. subst (λ (t : List ℕ). old + length t ≤ 4294967295) (same_Some strings text e) (room refl);
}

names_room : (old : ℕ) (names strings : List ℕ) → (leb (length names) 4294967283 && leb (old + length strings) 4294967295) ≡ true → old + length strings ≤ 4294967295
names_room old names strings e = leb-true (old + length strings) 4294967295 (and_parts (leb (length names) 4294967283) (leb (old + length strings) 4294967295) e).1

pub index_of : (kind : CacheKind) (b : Built) (addition : Addition) → addition_of (cache_in kind b) ≡ Some addition → IsOfIndex (index_section kind) (string_bytes_in b.program.sections) addition
unfolding cache_in cache_of
index_of Gdb8 b addition is = of_gdb (string_bytes_in b.program.sections) _ _ addition is
index_of Gdb9 b addition is = of_gdb (string_bytes_in b.program.sections) _ _ addition is
index_of Names b addition is = of_names (string_bytes_in b.program.sections) _ _ _ (names_room (string_bytes_in b.program.sections) _ _) addition is
