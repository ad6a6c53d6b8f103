-- Declarators without a name: in sight of the next token, what a symbol stands for.
use Rattle.std.specs.Prelude.{List, [], ◌∷◌, Option, Some, None}
use Rattle.cxx_spelling.specs.declared.kind.Kind.{Kind}
use Rattle.cxx_spelling.specs.declared.kind.Kind.TheVariants as token
use Rattle.cxx_spelling.specs.declared.symbol.Symbol.{Symbol}
use Rattle.cxx_spelling.specs.declared.symbol.Symbol.TheVariants.{Do, Expand}
use Rattle.cxx_spelling.specs.declared.symbol.Action.TheVariants.{BeginQualifiers, FillSpace, LeaveGap, Skip, Take, TakeReference, WriteNestedOpen, WriteOpen, WriteSpace}
use Rattle.cxx_spelling.specs.declared.symbol.Nonterminal.TheVariants.{Declarators, Names, Types}
use Rattle.cxx_spelling.specs.declared.symbol.DeclaratorSymbol.TheVariants.{Declarator, DeclaratorSuffix, InnerDeclarator, InnerRest, MemberArguments, MemberName, MemberNext, MemberPointer, MemberScope, NestedDeclarator, NestedSuffix, ParenthesisEnd, PtrOperator}
use Rattle.cxx_spelling.specs.declared.symbol.NameSymbol.TheVariants.{MoreArguments, TemplateArgument}
use Rattle.cxx_spelling.specs.declared.symbol.TypeSymbol.TheVariants.{Array, CvQualifiers, MoreArrays, Parameters}

-- abstract-declarator ([dcl.name]): pointers, references, pointers to members, and functions or arrays behind them
abbrev pub declarator : Kind → Option (List Symbol)
declarator token.Star = Some (Expand (Declarators PtrOperator) ∷ Expand (Declarators Declarator) ∷ [])
declarator token.Reference = Some (Expand (Declarators PtrOperator) ∷ Expand (Declarators Declarator) ∷ [])
declarator token.RvalueReference = Some (Expand (Declarators PtrOperator) ∷ Expand (Declarators Declarator) ∷ [])
declarator token.Name = Some (Do WriteSpace ∷ Expand (Declarators MemberPointer) ∷ Expand (Declarators Declarator) ∷ [])
declarator token.Scope = Some (Do WriteSpace ∷ Expand (Declarators MemberPointer) ∷ Expand (Declarators Declarator) ∷ [])
declarator token.OpenParenthesis =
    Some (Do WriteSpace ∷ Do Take ∷ Expand (Declarators InnerDeclarator) ∷ Expand (Declarators ParenthesisEnd) ∷ Expand (Declarators DeclaratorSuffix) ∷ [])
declarator token.OpenBracket = Some (Do WriteSpace ∷ Expand (Types Array) ∷ Expand (Types MoreArrays) ∷ [])
declarator _ = Some []

-- ptr-operator ([dcl.decl]): a pointer with its qualifiers, or a reference
abbrev pub ptr_operator : Kind → Option (List Symbol)
ptr_operator token.Star = Some (Do Take ∷ Do BeginQualifiers ∷ Expand (Types CvQualifiers) ∷ [])
ptr_operator token.Reference = Some (Do TakeReference ∷ [])
ptr_operator token.RvalueReference = Some (Do TakeReference ∷ [])
ptr_operator _ = None

-- a declarator in parentheses: it begins with a ptr-operator
abbrev pub inner_declarator : Kind → Option (List Symbol)
inner_declarator token.Star = Some (Expand (Declarators PtrOperator) ∷ Expand (Declarators InnerRest) ∷ [])
inner_declarator token.Reference = Some (Expand (Declarators PtrOperator) ∷ Expand (Declarators InnerRest) ∷ [])
inner_declarator token.RvalueReference = Some (Expand (Declarators PtrOperator) ∷ Expand (Declarators InnerRest) ∷ [])
inner_declarator token.Name = Some (Expand (Declarators MemberPointer) ∷ Expand (Declarators InnerRest) ∷ [])
inner_declarator token.Scope = Some (Expand (Declarators MemberPointer) ∷ Expand (Declarators InnerRest) ∷ [])
inner_declarator _ = None

-- further ptr-operators of a declarator in parentheses, and what stands behind them
abbrev pub inner_rest : Kind → Option (List Symbol)
inner_rest token.Star = Some (Expand (Declarators PtrOperator) ∷ Expand (Declarators InnerRest) ∷ [])
inner_rest token.Reference = Some (Expand (Declarators PtrOperator) ∷ Expand (Declarators InnerRest) ∷ [])
inner_rest token.RvalueReference = Some (Expand (Declarators PtrOperator) ∷ Expand (Declarators InnerRest) ∷ [])
inner_rest token.Name = Some (Do WriteSpace ∷ Expand (Declarators MemberPointer) ∷ Expand (Declarators InnerRest) ∷ [])
inner_rest token.Scope = Some (Do WriteSpace ∷ Expand (Declarators MemberPointer) ∷ Expand (Declarators InnerRest) ∷ [])
inner_rest token.OpenParenthesis = Some (Do Skip ∷ Expand (Declarators NestedDeclarator) ∷ [])
inner_rest token.OpenBracket = Some (Do WriteSpace ∷ Expand (Types Array) ∷ Expand (Types MoreArrays) ∷ [])
inner_rest _ = Some []

-- what is in parentheses there, behind a `(` that is not written yet: what it is a pointer to tells whether a blank stands before it
abbrev pub nested_pointer : List Symbol
nested_pointer = Do WriteNestedOpen ∷ Expand (Declarators InnerDeclarator) ∷ Expand (Declarators ParenthesisEnd) ∷ Expand (Declarators NestedSuffix) ∷ []

abbrev pub nested_member : List Symbol
nested_member = Do WriteSpace ∷ Do WriteOpen ∷ Expand (Declarators InnerDeclarator) ∷ Expand (Declarators ParenthesisEnd) ∷ Expand (Declarators DeclaratorSuffix) ∷ []

-- a declarator in parentheses inside of one
abbrev pub nested_declarator : Kind → Option (List Symbol)
nested_declarator token.Star = Some nested_pointer
nested_declarator token.Reference = Some nested_pointer
nested_declarator token.RvalueReference = Some nested_pointer
nested_declarator token.Name = Some nested_member
nested_declarator token.Scope = Some nested_member
nested_declarator _ = None

-- behind it: parameters, or bounds, before which a blank stands
abbrev pub nested_suffix : Kind → Option (List Symbol)
nested_suffix token.OpenParenthesis = Some (Do LeaveGap ∷ Expand (Types Parameters) ∷ [])
nested_suffix token.OpenBracket = Some (Do FillSpace ∷ Do WriteSpace ∷ Expand (Types Array) ∷ Expand (Types MoreArrays) ∷ [])
nested_suffix _ = None

-- behind a declarator in parentheses: parameters or bounds
abbrev pub declarator_suffix : Kind → Option (List Symbol)
declarator_suffix token.OpenParenthesis = Some (Expand (Types Parameters) ∷ [])
declarator_suffix token.OpenBracket = Some (Do WriteSpace ∷ Expand (Types Array) ∷ Expand (Types MoreArrays) ∷ [])
declarator_suffix _ = None

-- the end of parentheses
abbrev pub parenthesis_end : Kind → Option (List Symbol)
parenthesis_end token.CloseParenthesis = Some (Do Take ∷ [])
parenthesis_end _ = None

-- ptr-operator of a member ([dcl.mptr])
abbrev pub member_pointer : Kind → Option (List Symbol)
member_pointer token.Scope = Some (Do Skip ∷ Expand (Declarators MemberName) ∷ [])
member_pointer _ = Some (Expand (Declarators MemberName) ∷ [])

-- the class of a member
abbrev pub member_name : Kind → Option (List Symbol)
member_name token.Name = Some (Do Take ∷ Expand (Declarators MemberArguments) ∷ [])
member_name _ = None

-- its template arguments
abbrev pub member_arguments : Kind → Option (List Symbol)
member_arguments token.Less = Some (Do Take ∷ Expand (Names TemplateArgument) ∷ Expand (Names MoreArguments) ∷ Expand (Declarators MemberScope) ∷ [])
member_arguments _ = Some (Expand (Declarators MemberScope) ∷ [])

-- the `::` behind a class
abbrev pub member_scope : Kind → Option (List Symbol)
member_scope token.Scope = Some (Do Take ∷ Expand (Declarators MemberNext) ∷ [])
member_scope _ = None

-- `*`, or a class inside of the class
abbrev pub member_next : Kind → Option (List Symbol)
member_next token.Star = Some (Expand (Declarators PtrOperator) ∷ [])
member_next _ = Some (Expand (Declarators MemberName) ∷ [])
