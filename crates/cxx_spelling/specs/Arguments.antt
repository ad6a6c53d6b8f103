-- Types as template arguments in gdb 16, types of functions among them: in sight of the next token, what a symbol stands for.
use Rattle.std.specs.Prelude.{List, [], ◌∷◌, Option, Some, None}
use Rattle.cxx_spelling.specs.declared.kind.Kind.{Kind}
use Rattle.cxx_spelling.specs.declared.kind.Kind.TheVariants as token
use Rattle.cxx_spelling.specs.declared.symbol.Symbol.{Symbol}
use Rattle.cxx_spelling.specs.declared.symbol.Symbol.TheVariants.{Do, Expand}
use Rattle.cxx_spelling.specs.declared.symbol.Action.TheVariants.{BeginGap, BeginQualifiers, FillSpace, LeaveGap, Skip, Take, TakeWord}
use Rattle.cxx_spelling.specs.declared.symbol.Nonterminal.TheVariants.{Arguments, Declarators, Names, Types}
use Rattle.cxx_spelling.specs.declared.symbol.ArgumentSymbol.TheVariants.{ArgumentParenthesis, ArgumentRest, FirstArguments, FirstEnd, FirstName, FirstNext}
use Rattle.cxx_spelling.specs.declared.symbol.DeclaratorSymbol.TheVariants.{Declarator, DeclaratorSuffix, InnerDeclarator, InnerRest, ParenthesisEnd, PtrOperator}
use Rattle.cxx_spelling.specs.declared.symbol.NameSymbol.TheVariants.{MoreArguments, QualifiedName, TemplateArgument}
use Rattle.cxx_spelling.specs.declared.symbol.TypeSymbol.TheVariants.{CvQualifiers, MoreParameters, MoreWords, ParameterList, TypeId}

-- type-id ([dcl.name]) as an argument: only behind a type without qualifiers the parameters of a function may stand
abbrev pub argument_type : Kind → Option (List Symbol)
argument_type (token.Qualifier word) = Some (Expand (Types TypeId) ∷ [])
argument_type (token.Integer word) = Some (Do TakeWord ∷ Expand (Types MoreWords) ∷ Expand (Arguments ArgumentRest) ∷ [])
argument_type token.Scope = Some (Do Skip ∷ Expand (Names QualifiedName) ∷ Expand (Arguments ArgumentRest) ∷ [])
argument_type token.Name = Some (Expand (Names QualifiedName) ∷ Expand (Arguments ArgumentRest) ∷ [])
argument_type token.Double = Some (Do Take ∷ Expand (Arguments ArgumentRest) ∷ [])
argument_type token.Float = Some (Do Take ∷ Expand (Arguments ArgumentRest) ∷ [])
argument_type token.WideCharacter = Some (Do Take ∷ Expand (Arguments ArgumentRest) ∷ [])
argument_type token.Bool = Some (Do Take ∷ Expand (Arguments ArgumentRest) ∷ [])
argument_type token.Void = Some (Do Take ∷ Expand (Arguments ArgumentRest) ∷ [])
argument_type _ = None

-- behind such a type: a parenthesis, before which a blank may still come, or qualifiers and a declarator
abbrev pub argument_rest : Kind → Option (List Symbol)
argument_rest token.OpenParenthesis = Some (Do BeginGap ∷ Do Take ∷ Expand (Arguments ArgumentParenthesis) ∷ [])
argument_rest _ = Some (Do BeginQualifiers ∷ Expand (Types CvQualifiers) ∷ Expand (Declarators Declarator) ∷ [])

-- a declarator in parentheses, before which a blank stands
abbrev pub spaced_declarator : List Symbol
spaced_declarator =
    Do FillSpace ∷ Expand (Declarators InnerDeclarator) ∷ Expand (Declarators ParenthesisEnd) ∷ Expand (Declarators DeclaratorSuffix) ∷ []

-- behind that parenthesis: a declarator, or parameters-and-qualifiers ([dcl.fct]), before which no blank stands; a name begins either
abbrev pub argument_parenthesis : Kind → Option (List Symbol)
argument_parenthesis token.Star = Some spaced_declarator
argument_parenthesis token.Reference = Some spaced_declarator
argument_parenthesis token.RvalueReference = Some spaced_declarator
argument_parenthesis token.Name = Some (Expand (Arguments FirstName) ∷ [])
argument_parenthesis token.Scope = Some (Do Skip ∷ Expand (Arguments FirstName) ∷ [])
argument_parenthesis _ = Some (Do LeaveGap ∷ Expand (Types ParameterList) ∷ [])

-- the name that stands first there: the class of a member ([dcl.mptr]), or the type of a parameter
abbrev pub first_name : Kind → Option (List Symbol)
first_name token.Name = Some (Do Take ∷ Expand (Arguments FirstArguments) ∷ [])
first_name _ = None

-- its template arguments
abbrev pub first_arguments : Kind → Option (List Symbol)
first_arguments token.Less =
    Some (Do Take ∷ Expand (Names TemplateArgument) ∷ Expand (Names MoreArguments) ∷ Expand (Arguments FirstEnd) ∷ [])
first_arguments _ = Some (Expand (Arguments FirstEnd) ∷ [])

-- behind it: a parameter ends with its declarator
abbrev pub first_end : Kind → Option (List Symbol)
first_end token.Scope = Some (Do Take ∷ Expand (Arguments FirstNext) ∷ [])
first_end _ =
    Some (Do LeaveGap ∷ Do BeginQualifiers ∷ Expand (Types CvQualifiers) ∷ Expand (Declarators Declarator) ∷ Expand (Types MoreParameters) ∷ [])

-- the rest of a declarator in parentheses behind the class of a member
abbrev pub member_declarator : List Symbol
member_declarator =
    Do FillSpace ∷ Expand (Declarators PtrOperator) ∷ Expand (Declarators InnerRest)
    ∷ Expand (Declarators ParenthesisEnd) ∷ Expand (Declarators DeclaratorSuffix) ∷ []

-- `*`, which makes it the class of a member, or what stands in its scope
abbrev pub first_next : Kind → Option (List Symbol)
first_next token.Star = Some member_declarator
first_next _ = Some (Expand (Arguments FirstName) ∷ [])
