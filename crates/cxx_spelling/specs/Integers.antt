-- The words of integer types ([dcl.type.simple], table 14), and the one name of each type.
use Rattle.std.specs.Prelude.{ℕ, Bool, true, false, ◌&&◌, ◌||◌, not, if◌then◌else◌, List, codes, Option, Some, None}
use Rattle.cxx_spelling.specs.declared.integers.IntegerWord.{IntegerWord}
use Rattle.cxx_spelling.specs.declared.integers.IntegerWord.TheVariants as word
use Rattle.cxx_spelling.specs.declared.integers.IntegerWords.{IntegerWords}
use Rattle.cxx_spelling.specs.declared.integers.IntegerType.{IntegerType}
use Rattle.cxx_spelling.specs.declared.integers.IntegerType.TheVariants as type

-- no word
abbrev pub no_words : IntegerWords
no_words = record { signed = false; unsigned = false; character = false; short = false; int = false; long = false; long_long = false }

-- these words and one more
abbrev pub with_word : IntegerWords → IntegerWord → IntegerWords
with_word words word.Signed = record words { signed = true }
with_word words word.Unsigned = record words { unsigned = true }
with_word words word.Char = record words { character = true }
with_word words word.Short = record words { short = true }
with_word words word.Int = record words { int = true }
with_word words word.Long = record words { long = true; long_long = words.long }

-- the one word `long`
abbrev pub is_long : IntegerWords → Bool
is_long words = words.long && not words.long_long && not (words.signed || words.unsigned || words.character || words.short || words.int)

-- the type of `long` or `long long`
abbrev pub long_type : Bool → Bool → IntegerType
long_type false false = type.Long
long_type true false = type.UnsignedLong
long_type false true = type.LongLong
long_type true true = type.UnsignedLongLong

-- the type of the words `char`, `short`, `unsigned` and `signed`; `int` adds nothing
abbrev pub narrow_type : Bool → Bool → Bool → Bool → Option IntegerType
narrow_type true true unsigned signed = None
narrow_type true false true signed = Some type.UnsignedChar
narrow_type true false false true = Some type.SignedChar
narrow_type true false false false = Some type.Char
narrow_type false true true signed = Some type.UnsignedShort
narrow_type false true false signed = Some type.Short
narrow_type false false true signed = Some type.UnsignedInt
narrow_type false false false signed = Some type.Int

-- the type of the words, in whatever order they stand
abbrev pub integer_type : IntegerWords → Option IntegerType
integer_type words =
    if words.signed && words.unsigned then None
    else if words.long then (if words.character || words.short then None else Some (long_type words.unsigned words.long_long))
    else narrow_type words.character words.short words.unsigned words.signed

-- its name
abbrev pub type_name : IntegerType → List ℕ
type_name type.Char = codes "char"
type_name type.SignedChar = codes "signed char"
type_name type.UnsignedChar = codes "unsigned char"
type_name type.Short = codes "short"
type_name type.UnsignedShort = codes "unsigned short"
type_name type.Int = codes "int"
type_name type.UnsignedInt = codes "unsigned int"
type_name type.Long = codes "long"
type_name type.UnsignedLong = codes "unsigned long"
type_name type.LongLong = codes "long long"
type_name type.UnsignedLongLong = codes "unsigned long long"

-- what stands behind its literals; none where a cast tells the type
abbrev pub suffix_of : IntegerType → Option (List ℕ)
suffix_of type.Int = Some (codes "")
suffix_of type.UnsignedInt = Some (codes "u")
suffix_of type.Long = Some (codes "l")
suffix_of type.UnsignedLong = Some (codes "ul")
suffix_of type.LongLong = Some (codes "ll")
suffix_of type.UnsignedLongLong = Some (codes "ull")
suffix_of _ = None
