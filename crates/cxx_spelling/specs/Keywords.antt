-- The words that aren't names ([lex.key], table 5), with `restrict`.
use Rattle.std.specs.Prelude.{ℕ, ◌||◌, if◌then◌else◌, List, codes, bytes_eq}
use Rattle.cxx_spelling.specs.declared.kind.Kind.{Kind}
use Rattle.cxx_spelling.specs.declared.kind.Kind.TheVariants as token
use Rattle.cxx_spelling.specs.declared.integers.IntegerWord.TheVariants.{Signed, Unsigned, Char, Short, Int, Long}
use Rattle.cxx_spelling.specs.declared.qualifiers.Qualifier.TheVariants.{Const, Volatile, Restrict}

-- casts by a word, which no rule takes; each other word is a name
abbrev pub cast_keyword : List ℕ → Kind
cast_keyword word =
    if bytes_eq word (codes "static_cast") || bytes_eq word (codes "dynamic_cast")
    || bytes_eq word (codes "reinterpret_cast") then token.Other
    else token.Name

-- further keywords that no rule takes
abbrev pub other_keyword : List ℕ → Kind
other_keyword word =
    if bytes_eq word (codes "enum") || bytes_eq word (codes "template") || bytes_eq word (codes "sizeof") then token.Other
    else if bytes_eq word (codes "new") || bytes_eq word (codes "delete") then token.Other
    else cast_keyword word

abbrev pub class_keyword : List ℕ → Kind
class_keyword word =
    if bytes_eq word (codes "struct") || bytes_eq word (codes "class") || bytes_eq word (codes "union") then token.Other
    else other_keyword word

abbrev pub value_keyword : List ℕ → Kind
value_keyword word =
    if bytes_eq word (codes "true") then token.Truth
    else if bytes_eq word (codes "false") then token.Truth
    else if bytes_eq word (codes "operator") then token.Operator
    else class_keyword word

abbrev pub floating_keyword : List ℕ → Kind
floating_keyword word =
    if bytes_eq word (codes "double") then token.Double
    else if bytes_eq word (codes "float") then token.Float
    else value_keyword word

abbrev pub type_keyword : List ℕ → Kind
type_keyword word =
    if bytes_eq word (codes "void") then token.Void
    else if bytes_eq word (codes "bool") then token.Bool
    else if bytes_eq word (codes "wchar_t") then token.WideCharacter
    else floating_keyword word

abbrev pub width_keyword : List ℕ → Kind
width_keyword word =
    if bytes_eq word (codes "int") then token.Integer Int
    else if bytes_eq word (codes "long") then token.Integer Long
    else if bytes_eq word (codes "short") then token.Integer Short
    else type_keyword word

abbrev pub sign_keyword : List ℕ → Kind
sign_keyword word =
    if bytes_eq word (codes "signed") then token.Integer Signed
    else if bytes_eq word (codes "unsigned") then token.Integer Unsigned
    else if bytes_eq word (codes "char") then token.Integer Char
    else width_keyword word

-- what a word is
abbrev pub keyword : List ℕ → Kind
keyword word =
    if bytes_eq word (codes "const") then token.Qualifier Const
    else if bytes_eq word (codes "volatile") then token.Qualifier Volatile
    else if bytes_eq word (codes "restrict") then token.Qualifier Restrict
    else sign_keyword word
