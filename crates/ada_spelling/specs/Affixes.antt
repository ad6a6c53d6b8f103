-- What stands around the encoded name: the prefixes of the linker and of the compiler, and the compiler's suffix (gdb/ada-lang.c, ada_decode, remove_compiler_suffix).
use Rattle.std.specs.Prelude.{ℕ, Bool, ◌&&◌, ◌||◌, ◌==◌, nat_lt, if◌then◌else◌, List, [], ◌++◌, length, drop, codes}
use Rattle.ada_spelling.specs.Bytes.{begins_with, has_end, shortened_by, without_front, before_letters}

-- without a point, `_ada_` and `___ghost_` in front
abbrev pub without_prefixes : List ℕ → List ℕ
without_prefixes name = without_front (codes "___ghost_") (without_front (codes "_ada_") (without_front (codes ".") name))

-- it is empty, or begins with `_` or `<`, and isn't decoded
abbrev pub is_refused : List ℕ → Bool
is_refused name = length name == 0 || begins_with (codes "_") name || begins_with (codes "<") name

-- a point and letters at the end, as `.cold`, behind something
abbrev pub has_suffix : List ℕ → Bool
has_suffix name = has_end (codes ".") (before_letters name) && nat_lt 1 (length (before_letters name))

-- the name before that suffix, if it has one
abbrev pub before_suffix : List ℕ → List ℕ
before_suffix name = if has_suffix name then shortened_by 1 (before_letters name) else name

-- the suffix in brackets, or nothing
abbrev pub suffix_in_brackets : List ℕ → List ℕ
suffix_in_brackets name = if has_suffix name then codes "[" ++ drop (length (before_letters name)) name ++ codes "]" else []
