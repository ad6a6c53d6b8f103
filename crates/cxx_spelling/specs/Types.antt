-- Types, the bounds of arrays and the parameters of functions: in sight of the next token, what a symbol stands for.
use Rattle.std.specs.Prelude.{List, [], ◌∷◌, Option, Some, None}
use Rattle.cxx_spelling.specs.declared.kind.Kind.{Kind}
use Rattle.cxx_spelling.specs.declared.kind.Kind.TheVariants as token
use Rattle.cxx_spelling.specs.declared.symbol.Symbol.{Symbol}
use Rattle.cxx_spelling.specs.declared.symbol.Symbol.TheVariants.{Do, Expand}
use Rattle.cxx_spelling.specs.declared.symbol.Action.TheVariants.{BeginQualifiers, EndQualifiers, Skip, Take, TakeCharacter, TakeLongDouble, TakeNumber, TakeQualifier, TakeWord, WriteSpace, WriteVoid, WriteWords}
use Rattle.cxx_spelling.specs.declared.symbol.Nonterminal.TheVariants.{Declarators, Names, Types}
use Rattle.cxx_spelling.specs.declared.symbol.DeclaratorSymbol.TheVariants.{Declarator}
use Rattle.cxx_spelling.specs.declared.symbol.NameSymbol.TheVariants.{QualifiedName}
use Rattle.cxx_spelling.specs.declared.symbol.TypeSymbol.TheVariants.{AfterVoid, Array, ArrayBound, BracketEnd, CvQualifiers, MoreArrays, MoreParameters, MoreWords, Parameter, ParameterList, TypeId, TypeSpecifier}

-- type-id ([dcl.name]): what specifies a type, and a declarator without a name
abbrev pub type_id : Kind → Option (List Symbol)
type_id _ = Some (Do BeginQualifiers ∷ Expand (Types TypeSpecifier) ∷ Expand (Declarators Declarator) ∷ [])

-- type-specifier-seq ([dcl.type]): one type, and qualifiers on both sides of it
abbrev pub type_specifier : Kind → Option (List Symbol)
type_specifier (token.Qualifier word) = Some (Do TakeQualifier ∷ Expand (Types TypeSpecifier) ∷ [])
type_specifier (token.Integer word) = Some (Do TakeWord ∷ Expand (Types MoreWords) ∷ Expand (Types CvQualifiers) ∷ [])
type_specifier token.Scope = Some (Do Skip ∷ Expand (Names QualifiedName) ∷ Expand (Types CvQualifiers) ∷ [])
type_specifier token.Name = Some (Expand (Names QualifiedName) ∷ Expand (Types CvQualifiers) ∷ [])
type_specifier token.Double = Some (Do Take ∷ Expand (Types CvQualifiers) ∷ [])
type_specifier token.Float = Some (Do Take ∷ Expand (Types CvQualifiers) ∷ [])
type_specifier token.WideCharacter = Some (Do Take ∷ Expand (Types CvQualifiers) ∷ [])
type_specifier token.Bool = Some (Do Take ∷ Expand (Types CvQualifiers) ∷ [])
type_specifier token.Void = Some (Do Take ∷ Expand (Types CvQualifiers) ∷ [])
type_specifier _ = None

-- further words of an integer type ([dcl.type.simple]); `long double` is no integer type
abbrev pub more_words : Kind → Option (List Symbol)
more_words (token.Integer word) = Some (Do TakeWord ∷ Expand (Types MoreWords) ∷ [])
more_words token.Double = Some (Do TakeLongDouble ∷ [])
more_words _ = Some (Do WriteWords ∷ [])

-- cv-qualifier-seq ([dcl.decl]), written where it ends
abbrev pub cv_qualifiers : Kind → Option (List Symbol)
cv_qualifiers (token.Qualifier word) = Some (Do TakeQualifier ∷ Expand (Types CvQualifiers) ∷ [])
cv_qualifiers _ = Some (Do EndQualifiers ∷ [])

-- the bound of an array ([dcl.array])
abbrev pub array : Kind → Option (List Symbol)
array token.OpenBracket = Some (Do Take ∷ Expand (Types ArrayBound) ∷ [])
array _ = None

-- the number of elements, or nothing
abbrev pub array_bound : Kind → Option (List Symbol)
array_bound token.Number = Some (Do TakeNumber ∷ Expand (Types BracketEnd) ∷ [])
array_bound token.Character = Some (Do TakeCharacter ∷ Expand (Types BracketEnd) ∷ [])
array_bound token.CloseBracket = Some (Do Take ∷ [])
array_bound _ = None

-- the end of a bound
abbrev pub bracket_end : Kind → Option (List Symbol)
bracket_end token.CloseBracket = Some (Do Take ∷ [])
bracket_end _ = None

-- further bounds, without a blank between them
abbrev pub more_arrays : Kind → Option (List Symbol)
more_arrays token.OpenBracket = Some (Expand (Types Array) ∷ Expand (Types MoreArrays) ∷ [])
more_arrays _ = Some []

-- parameters-and-qualifiers ([dcl.fct])
abbrev pub parameters : Kind → Option (List Symbol)
parameters token.OpenParenthesis = Some (Do Take ∷ Expand (Types ParameterList) ∷ [])
parameters _ = None

-- parameter-declaration-clause, which may be empty
abbrev pub parameter_list : Kind → Option (List Symbol)
parameter_list token.CloseParenthesis = Some (Do Take ∷ Do BeginQualifiers ∷ Expand (Types CvQualifiers) ∷ [])
parameter_list token.Void = Some (Do Skip ∷ Expand (Types AfterVoid) ∷ [])
parameter_list _ = Some (Expand (Types TypeId) ∷ Expand (Types MoreParameters) ∷ [])

-- `void` alone is an empty one
abbrev pub after_void : Kind → Option (List Symbol)
after_void token.CloseParenthesis = Some (Do Take ∷ Do BeginQualifiers ∷ Expand (Types CvQualifiers) ∷ [])
after_void _ = Some (Do WriteVoid ∷ Do BeginQualifiers ∷ Expand (Types CvQualifiers) ∷ Expand (Declarators Declarator) ∷ Expand (Types MoreParameters) ∷ [])

-- further parameters, up to the end, behind which qualifiers stand
abbrev pub more_parameters : Kind → Option (List Symbol)
more_parameters token.Comma = Some (Do Take ∷ Do WriteSpace ∷ Expand (Types Parameter) ∷ Expand (Types MoreParameters) ∷ [])
more_parameters token.CloseParenthesis = Some (Do Take ∷ Do BeginQualifiers ∷ Expand (Types CvQualifiers) ∷ [])
more_parameters _ = None

-- parameter-declaration; an ellipsis stands behind another parameter
abbrev pub parameter : Kind → Option (List Symbol)
parameter token.Ellipsis = Some (Do Take ∷ [])
parameter _ = Some (Expand (Types TypeId) ∷ [])
