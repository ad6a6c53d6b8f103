-- Whole names: types, functions and conversion functions: in sight of the next token, what a symbol stands for.
use Rattle.std.specs.Prelude.{List, [], ◌∷◌, Option, Some, None}
use Rattle.cxx_spelling.specs.declared.kind.Kind.{Kind}
use Rattle.cxx_spelling.specs.declared.kind.Kind.TheVariants as token
use Rattle.cxx_spelling.specs.declared.symbol.Symbol.{Symbol}
use Rattle.cxx_spelling.specs.declared.symbol.Symbol.TheVariants.{Do, Expand}
use Rattle.cxx_spelling.specs.declared.symbol.Action.TheVariants.{BeginQualifiers, Skip, Take, WriteOpen, WriteSpace}
use Rattle.cxx_spelling.specs.declared.symbol.Nonterminal.TheVariants.{Declarators, Functions, Names, Types}
use Rattle.cxx_spelling.specs.declared.symbol.DeclaratorSymbol.TheVariants.{Declarator, DeclaratorSuffix, InnerDeclarator, MemberPointer, ParenthesisEnd, PtrOperator}
use Rattle.cxx_spelling.specs.declared.symbol.FunctionSymbol.TheVariants.{ConversionRest, Local, Start, StartArguments, StartEnd, StartName, StartNext, StartParenthesis, StartRest}
use Rattle.cxx_spelling.specs.declared.symbol.NameSymbol.TheVariants.{MoreArguments, TemplateArgument}
use Rattle.cxx_spelling.specs.declared.symbol.TypeSymbol.TheVariants.{ParameterList, Parameters, TypeSpecifier}

-- a whole name: a conversion function ([class.conv.fct]), a type, or a function
abbrev pub start : Kind → Option (List Symbol)
start token.Operator = Some (Do Take ∷ Do WriteSpace ∷ Do BeginQualifiers ∷ Expand (Types TypeSpecifier) ∷ Expand (Functions ConversionRest) ∷ [])
start _ = Some (Do BeginQualifiers ∷ Expand (Types TypeSpecifier) ∷ Expand (Functions StartRest) ∷ [])

-- what stands behind the type or the name that a whole name begins with
abbrev pub start_rest : Kind → Option (List Symbol)
start_rest token.OpenParenthesis = Some (Do Skip ∷ Expand (Functions StartParenthesis) ∷ [])
start_rest token.Name = Some (Do WriteSpace ∷ Expand (Functions StartName) ∷ [])
start_rest token.Scope = Some (Do WriteSpace ∷ Do Skip ∷ Expand (Functions StartName) ∷ [])
start_rest _ = Some (Expand (Declarators Declarator) ∷ [])

-- a declarator in parentheses, of which the first is not written yet
abbrev pub in_parentheses : List Symbol
in_parentheses = Do WriteSpace ∷ Do WriteOpen ∷ Expand (Declarators InnerDeclarator) ∷ Expand (Declarators ParenthesisEnd) ∷ Expand (Declarators DeclaratorSuffix) ∷ []

-- behind a `(`, which is not written yet: a declarator, or the parameters of a function
abbrev pub start_parenthesis : Kind → Option (List Symbol)
start_parenthesis token.Star = Some in_parentheses
start_parenthesis token.Reference = Some in_parentheses
start_parenthesis token.RvalueReference = Some in_parentheses
start_parenthesis _ = Some (Do WriteOpen ∷ Expand (Types ParameterList) ∷ Expand (Functions Local) ∷ [])

-- a pointer to a member, or a function behind the type that it returns
abbrev pub start_name : Kind → Option (List Symbol)
start_name token.Name = Some (Do Take ∷ Expand (Functions StartArguments) ∷ [])
start_name _ = None

-- the template arguments there
abbrev pub start_arguments : Kind → Option (List Symbol)
start_arguments token.Less = Some (Do Take ∷ Expand (Names TemplateArgument) ∷ Expand (Names MoreArguments) ∷ Expand (Functions StartEnd) ∷ [])
start_arguments _ = Some (Expand (Functions StartEnd) ∷ [])

-- the scope of a member or of a function, or the parameters of a function
abbrev pub start_end : Kind → Option (List Symbol)
start_end token.Scope = Some (Do Take ∷ Expand (Functions StartNext) ∷ [])
start_end token.OpenParenthesis = Some (Expand (Types Parameters) ∷ Expand (Functions Local) ∷ [])
start_end _ = Some []

-- `*`, or what stands in that scope
abbrev pub start_next : Kind → Option (List Symbol)
start_next token.Star = Some (Expand (Declarators PtrOperator) ∷ Expand (Declarators Declarator) ∷ [])
start_next _ = Some (Expand (Functions StartName) ∷ [])

-- a name inside of a function
abbrev pub local : Kind → Option (List Symbol)
local token.Scope = Some (Do Take ∷ Expand (Functions Start) ∷ [])
local _ = Some []

-- the declarator of the type to which a conversion function converts
abbrev pub conversion_rest : Kind → Option (List Symbol)
conversion_rest token.Star = Some (Expand (Declarators PtrOperator) ∷ Expand (Functions ConversionRest) ∷ [])
conversion_rest token.Reference = Some (Expand (Declarators PtrOperator) ∷ Expand (Functions ConversionRest) ∷ [])
conversion_rest token.RvalueReference = Some (Expand (Declarators PtrOperator) ∷ Expand (Functions ConversionRest) ∷ [])
conversion_rest token.Name = Some (Do WriteSpace ∷ Expand (Declarators MemberPointer) ∷ Expand (Functions ConversionRest) ∷ [])
conversion_rest token.Scope = Some (Do WriteSpace ∷ Expand (Declarators MemberPointer) ∷ Expand (Functions ConversionRest) ∷ [])
conversion_rest token.OpenParenthesis = Some (Do Skip ∷ Expand (Functions StartParenthesis) ∷ [])
conversion_rest _ = Some (Expand (Declarators Declarator) ∷ [])
