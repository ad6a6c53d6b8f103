-- Names and their template arguments: in sight of the next token, what a symbol stands for.
use Rattle.std.specs.Prelude.{List, [], ◌∷◌, Option, Some, None}
use Rattle.cxx_spelling.specs.declared.kind.Kind.{Kind}
use Rattle.cxx_spelling.specs.declared.kind.Kind.TheVariants as token
use Rattle.cxx_spelling.specs.declared.release.Release.{Release}
use Rattle.cxx_spelling.specs.declared.release.Release.TheVariants.{Gdb13, Gdb16}
use Rattle.cxx_spelling.specs.declared.symbol.Symbol.{Symbol}
use Rattle.cxx_spelling.specs.declared.symbol.Symbol.TheVariants.{Do, Expand}
use Rattle.cxx_spelling.specs.declared.symbol.Action.TheVariants.{BeginGap, BeginQualifiers, FillOpen, LeaveGap, Skip, Take, TakeCharacter, TakeFloating, TakeGreater, TakeNumber, WriteClose, WriteSpace}
use Rattle.cxx_spelling.specs.declared.symbol.Nonterminal.TheVariants.{Arguments, Casts, Declarators, Names, Types}
use Rattle.cxx_spelling.specs.declared.symbol.ArgumentSymbol.TheVariants.{ArgumentType}
use Rattle.cxx_spelling.specs.declared.symbol.CastSymbol.TheVariants.{Parenthesised}
use Rattle.cxx_spelling.specs.declared.symbol.DeclaratorSymbol.TheVariants.{MemberPointer, PtrOperator}
use Rattle.cxx_spelling.specs.declared.symbol.NameSymbol.TheVariants.{Address, AddressArguments, AddressMember, AddressName, AddressNext, AddressRest, AddressScope, ConversionPointers, MoreArguments, NameArguments, NameRest, QualifiedName, TemplateArgument}
use Rattle.cxx_spelling.specs.declared.symbol.TypeSymbol.TheVariants.{TypeId, TypeSpecifier}

-- qualified-id without what names the global namespace ([expr.prim.id.qual])
abbrev pub qualified_name : Kind → Option (List Symbol)
qualified_name token.Name = Some (Do Take ∷ Expand (Names NameArguments) ∷ [])
qualified_name _ = None

-- simple-template-id ([temp.names]): a name may have arguments
abbrev pub name_arguments : Kind → Option (List Symbol)
name_arguments token.Less = Some (Do Take ∷ Expand (Names TemplateArgument) ∷ Expand (Names MoreArguments) ∷ Expand (Names NameRest) ∷ [])
name_arguments _ = Some (Expand (Names NameRest) ∷ [])

-- nested-name-specifier: behind `::` a name goes on
abbrev pub name_rest : Kind → Option (List Symbol)
name_rest token.Scope = Some (Do Take ∷ Expand (Names QualifiedName) ∷ [])
name_rest _ = Some []

-- template-argument-list ([temp.names]): it has an argument at least
abbrev pub more_arguments : Kind → Option (List Symbol)
more_arguments token.Comma = Some (Do Take ∷ Do WriteSpace ∷ Expand (Names TemplateArgument) ∷ Expand (Names MoreArguments) ∷ [])
more_arguments token.Greater = Some (Do TakeGreater ∷ [])
more_arguments _ = None

-- a type-id as an argument: gdb 16 reads types of functions there
abbrev pub type_argument : Release → Option (List Symbol)
type_argument Gdb13 = Some (Expand (Types TypeId) ∷ [])
type_argument Gdb16 = Some (Expand (Arguments ArgumentType) ∷ [])

-- template-argument: a type-id or a constant
abbrev pub template_argument : Release → Kind → Option (List Symbol)
template_argument release token.Reference = Some (Do Take ∷ Expand (Names Address) ∷ [])
template_argument release token.OpenParenthesis = Some (Do Skip ∷ Expand (Casts Parenthesised) ∷ [])
template_argument release token.Number = Some (Do TakeNumber ∷ [])
template_argument release token.Character = Some (Do TakeCharacter ∷ [])
template_argument release token.Truth = Some (Do Take ∷ [])
template_argument release token.Floating = Some (Do TakeFloating ∷ [])
template_argument release _ = type_argument release

-- the address of a variable or a function
abbrev pub address : Kind → Option (List Symbol)
address token.Scope = Some (Do Skip ∷ Expand (Names AddressName) ∷ [])
address _ = Some (Expand (Names AddressName) ∷ [])

-- the name whose address is taken, before which a parenthesis may come
abbrev pub address_name : Kind → Option (List Symbol)
address_name token.Name = Some (Do BeginGap ∷ Do Take ∷ Expand (Names AddressRest) ∷ [])
address_name _ = None

-- its arguments, where it is a template
abbrev pub address_rest : Kind → Option (List Symbol)
address_rest token.Less = Some (Do Take ∷ Expand (Names TemplateArgument) ∷ Expand (Names MoreArguments) ∷ Expand (Names AddressScope) ∷ [])
address_rest token.Scope = Some (Do LeaveGap ∷ Do Take ∷ Expand (Names AddressMember) ∷ [])
address_rest _ = Some (Do LeaveGap ∷ [])

-- a template that isn't the scope of a name is written in parentheses
abbrev pub address_scope : Kind → Option (List Symbol)
address_scope token.Scope = Some (Do LeaveGap ∷ Do Take ∷ Expand (Names AddressMember) ∷ [])
address_scope _ = Some (Do FillOpen ∷ Do WriteClose ∷ [])

-- what stands in a scope: a name, or a conversion function ([class.conv.fct])
abbrev pub address_member : Kind → Option (List Symbol)
address_member token.Name = Some (Do Take ∷ Expand (Names AddressArguments) ∷ [])
address_member token.Operator = Some (Do Take ∷ Do WriteSpace ∷ Do BeginQualifiers ∷ Expand (Types TypeSpecifier) ∷ Expand (Names ConversionPointers) ∷ [])
address_member _ = None

-- its arguments
abbrev pub address_arguments : Kind → Option (List Symbol)
address_arguments token.Less = Some (Do Take ∷ Expand (Names TemplateArgument) ∷ Expand (Names MoreArguments) ∷ Expand (Names AddressNext) ∷ [])
address_arguments _ = Some (Expand (Names AddressNext) ∷ [])

-- what stands in it
abbrev pub address_next : Kind → Option (List Symbol)
address_next token.Scope = Some (Do Take ∷ Expand (Names AddressMember) ∷ [])
address_next _ = Some []

-- conversion-declarator: the pointers behind the type to which such a function converts
abbrev pub conversion_pointers : Kind → Option (List Symbol)
conversion_pointers token.Star = Some (Expand (Declarators PtrOperator) ∷ Expand (Names ConversionPointers) ∷ [])
conversion_pointers token.Reference = Some (Expand (Declarators PtrOperator) ∷ Expand (Names ConversionPointers) ∷ [])
conversion_pointers token.RvalueReference = Some (Expand (Declarators PtrOperator) ∷ Expand (Names ConversionPointers) ∷ [])
conversion_pointers token.Name = Some (Do WriteSpace ∷ Expand (Declarators MemberPointer) ∷ Expand (Names ConversionPointers) ∷ [])
conversion_pointers token.Scope = Some (Do WriteSpace ∷ Expand (Declarators MemberPointer) ∷ Expand (Names ConversionPointers) ∷ [])
conversion_pointers _ = Some []
