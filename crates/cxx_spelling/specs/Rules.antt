-- The rules of the grammar.
use Rattle.std.specs.Prelude.{List, Option}
use Rattle.cxx_spelling.specs.declared.kind.Kind.{Kind}
use Rattle.cxx_spelling.specs.declared.release.Release.{Release}
use Rattle.cxx_spelling.specs.declared.symbol.Symbol.{Symbol}
use Rattle.cxx_spelling.specs.declared.symbol.Nonterminal.{Nonterminal}
use Rattle.cxx_spelling.specs.declared.symbol.Nonterminal.TheVariants.{Names, Types, Casts, Declarators, Functions, Arguments}
use Rattle.cxx_spelling.specs.declared.symbol.NameSymbol.{NameSymbol}
use Rattle.cxx_spelling.specs.declared.symbol.NameSymbol.TheVariants as names
use Rattle.cxx_spelling.specs.declared.symbol.TypeSymbol.{TypeSymbol}
use Rattle.cxx_spelling.specs.declared.symbol.TypeSymbol.TheVariants as types
use Rattle.cxx_spelling.specs.declared.symbol.CastSymbol.{CastSymbol}
use Rattle.cxx_spelling.specs.declared.symbol.CastSymbol.TheVariants as casts
use Rattle.cxx_spelling.specs.declared.symbol.DeclaratorSymbol.{DeclaratorSymbol}
use Rattle.cxx_spelling.specs.declared.symbol.DeclaratorSymbol.TheVariants as declarators
use Rattle.cxx_spelling.specs.declared.symbol.FunctionSymbol.{FunctionSymbol}
use Rattle.cxx_spelling.specs.declared.symbol.FunctionSymbol.TheVariants as functions
use Rattle.cxx_spelling.specs.declared.symbol.ArgumentSymbol.{ArgumentSymbol}
use Rattle.cxx_spelling.specs.declared.symbol.ArgumentSymbol.TheVariants as arguments
use Rattle.cxx_spelling.specs.Names.{qualified_name, name_arguments, name_rest, more_arguments, template_argument, address, address_name, address_rest, address_scope, address_member, address_arguments, address_next, conversion_pointers}
use Rattle.cxx_spelling.specs.Types.{type_id, type_specifier, more_words, cv_qualifiers, array, array_bound, bracket_end, more_arrays, parameters, parameter_list, after_void, more_parameters, parameter}
use Rattle.cxx_spelling.specs.Casts.{parenthesised, group_end, cast_words, cast_bool, cast_floating, cast_end, cast_operand, cast_group, integer_operand, bool_operand, floating_operand}
use Rattle.cxx_spelling.specs.Declarators.{declarator, ptr_operator, inner_declarator, inner_rest, nested_declarator, nested_suffix, declarator_suffix, parenthesis_end, member_pointer, member_name, member_arguments, member_scope, member_next}
use Rattle.cxx_spelling.specs.Arguments.{argument_type, argument_rest, argument_parenthesis, first_name, first_arguments, first_end, first_next}
use Rattle.cxx_spelling.specs.Functions.{start, start_rest, start_parenthesis, start_name, start_arguments, start_end, start_next, local, conversion_rest}

-- what a symbol of names and their template arguments stands for in sight of the next token; none where the name is refused
abbrev pub name_rule : Release → NameSymbol → Kind → Option (List Symbol)
name_rule release names.QualifiedName kind = qualified_name kind
name_rule release names.NameArguments kind = name_arguments kind
name_rule release names.NameRest kind = name_rest kind
name_rule release names.MoreArguments kind = more_arguments kind
name_rule release names.TemplateArgument kind = template_argument release kind
name_rule release names.Address kind = address kind
name_rule release names.AddressName kind = address_name kind
name_rule release names.AddressRest kind = address_rest kind
name_rule release names.AddressScope kind = address_scope kind
name_rule release names.AddressMember kind = address_member kind
name_rule release names.AddressArguments kind = address_arguments kind
name_rule release names.AddressNext kind = address_next kind
name_rule release names.ConversionPointers kind = conversion_pointers kind

-- what a symbol of types stands for in sight of the next token; none where the name is refused
abbrev pub type_rule : TypeSymbol → Kind → Option (List Symbol)
type_rule types.TypeId kind = type_id kind
type_rule types.TypeSpecifier kind = type_specifier kind
type_rule types.MoreWords kind = more_words kind
type_rule types.CvQualifiers kind = cv_qualifiers kind
type_rule types.Array kind = array kind
type_rule types.ArrayBound kind = array_bound kind
type_rule types.BracketEnd kind = bracket_end kind
type_rule types.MoreArrays kind = more_arrays kind
type_rule types.Parameters kind = parameters kind
type_rule types.ParameterList kind = parameter_list kind
type_rule types.AfterVoid kind = after_void kind
type_rule types.MoreParameters kind = more_parameters kind
type_rule types.Parameter kind = parameter kind

-- what a symbol of literals in parentheses, and of casts stands for in sight of the next token; none where the name is refused
abbrev pub cast_rule : CastSymbol → Kind → Option (List Symbol)
cast_rule casts.Parenthesised kind = parenthesised kind
cast_rule casts.GroupEnd kind = group_end kind
cast_rule casts.CastWords kind = cast_words kind
cast_rule casts.CastBool kind = cast_bool kind
cast_rule casts.CastFloating kind = cast_floating kind
cast_rule casts.CastEnd kind = cast_end kind
cast_rule casts.CastOperand kind = cast_operand kind
cast_rule casts.CastGroup kind = cast_group kind
cast_rule casts.IntegerOperand kind = integer_operand kind
cast_rule casts.BoolOperand kind = bool_operand kind
cast_rule casts.FloatingOperand kind = floating_operand kind

-- what a symbol of declarators stands for in sight of the next token; none where the name is refused
abbrev pub declarator_rule : DeclaratorSymbol → Kind → Option (List Symbol)
declarator_rule declarators.Declarator kind = declarator kind
declarator_rule declarators.PtrOperator kind = ptr_operator kind
declarator_rule declarators.InnerDeclarator kind = inner_declarator kind
declarator_rule declarators.InnerRest kind = inner_rest kind
declarator_rule declarators.NestedDeclarator kind = nested_declarator kind
declarator_rule declarators.NestedSuffix kind = nested_suffix kind
declarator_rule declarators.DeclaratorSuffix kind = declarator_suffix kind
declarator_rule declarators.ParenthesisEnd kind = parenthesis_end kind
declarator_rule declarators.MemberPointer kind = member_pointer kind
declarator_rule declarators.MemberName kind = member_name kind
declarator_rule declarators.MemberArguments kind = member_arguments kind
declarator_rule declarators.MemberScope kind = member_scope kind
declarator_rule declarators.MemberNext kind = member_next kind

-- what a symbol of whole names and functions stands for in sight of the next token; none where the name is refused
abbrev pub function_rule : FunctionSymbol → Kind → Option (List Symbol)
function_rule functions.Start kind = start kind
function_rule functions.StartRest kind = start_rest kind
function_rule functions.StartParenthesis kind = start_parenthesis kind
function_rule functions.StartName kind = start_name kind
function_rule functions.StartArguments kind = start_arguments kind
function_rule functions.StartEnd kind = start_end kind
function_rule functions.StartNext kind = start_next kind
function_rule functions.Local kind = local kind
function_rule functions.ConversionRest kind = conversion_rest kind

-- what a symbol of types as template arguments stands for in sight of the next token; none where the name is refused
abbrev pub argument_rule : ArgumentSymbol → Kind → Option (List Symbol)
argument_rule arguments.ArgumentType kind = argument_type kind
argument_rule arguments.ArgumentRest kind = argument_rest kind
argument_rule arguments.ArgumentParenthesis kind = argument_parenthesis kind
argument_rule arguments.FirstName kind = first_name kind
argument_rule arguments.FirstArguments kind = first_arguments kind
argument_rule arguments.FirstEnd kind = first_end kind
argument_rule arguments.FirstNext kind = first_next kind

-- what a symbol stands for
abbrev pub rule : Release → Nonterminal → Kind → Option (List Symbol)
rule release (Names symbol) kind = name_rule release symbol kind
rule release (Types symbol) kind = type_rule symbol kind
rule release (Casts symbol) kind = cast_rule symbol kind
rule release (Declarators symbol) kind = declarator_rule symbol kind
rule release (Functions symbol) kind = function_rule symbol kind
rule release (Arguments symbol) kind = argument_rule symbol kind
