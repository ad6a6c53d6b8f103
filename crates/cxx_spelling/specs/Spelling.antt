-- C++ names as gdb spells them (cp_canonicalize_string of its cp-support.c).
use Rattle.std.specs.Prelude.{◌≡◌, ℕ, Bool, false, not, ◌&&◌, ◌||◌, ◌==◌, nat_eq, if◌then◌else◌, List, length, codes, bytes_eq, unwrap_or}
use Rattle.std.specs.List.{list_any}
use Rattle.cxx_spelling.specs.Bytes.{until, ends_word}
use Rattle.cxx_spelling.specs.Translation.{translation}
use Rattle.cxx_spelling.specs.declared.release.Release.{Release}
use Rattle.cxx_spelling.specs.declared.spelled.SpelledName.{SpelledName}
use Rattle.cxx_spelling.specs.declared.spelled.SpelledName.TheVariants as spelt

-- the two words that alone name a type by another name
abbrev pub is_sign_alone : List ℕ → Bool
is_sign_alone name = bytes_eq name (codes "signed") || bytes_eq name (codes "unsigned")

-- one identifier, which stays, but for these two
abbrev pub is_one_word : List ℕ → Bool
is_one_word name = until ends_word name == length name && not (is_sign_alone name)

-- a name as a release of gdb spells it: what its grammar refuses stays as it stands
unfoldable pub gdb_spelling : Release → List ℕ → List ℕ
gdb_spelling release name = if is_one_word name then name else unwrap_or (translation release name) name

-- the bytes of a spelling
abbrev pub spelling_bytes : SpelledName → List ℕ
spelling_bytes (spelt.Lent bytes) = bytes.now
spelling_bytes (spelt.Owned text) = text.items

-- a name of C: one without a blank stays, but for the two words (c_canonicalize_name of gdb's c-lang.c)
unfoldable pub gdb_c_spelling : Release → List ℕ → List ℕ
gdb_c_spelling release name = if list_any (λ b. nat_eq b 32) name || is_sign_alone name then gdb_spelling release name else name

-- a name is spelled as is wanted: lent where nothing changes, owned where something does
abbrev pub IsSpelledAs : List ℕ → List ℕ → SpelledName → Type 0
IsSpelledAs wanted name (spelt.Lent bytes) = (bytes.now ≡ name) × (wanted ≡ name)
IsSpelledAs wanted name (spelt.Owned text) = (text.items ≡ wanted) × (bytes_eq text.items name ≡ false)
