-- Literals in parentheses, and casts: in sight of the next token, what a symbol stands for.
use Rattle.std.specs.Prelude.{List, [], ◌∷◌, Option, Some, None}
use Rattle.cxx_spelling.specs.declared.kind.Kind.{Kind}
use Rattle.cxx_spelling.specs.declared.kind.Kind.TheVariants as token
use Rattle.cxx_spelling.specs.declared.symbol.Symbol.{Symbol}
use Rattle.cxx_spelling.specs.declared.symbol.Symbol.TheVariants.{Do, Expand}
use Rattle.cxx_spelling.specs.declared.symbol.Action.TheVariants.{BeginQualifiers, Skip, Take, TakeBoolCast, TakeCharacter, TakeFloating, TakeFloatingCast, TakeIntegerCast, TakeLongDouble, TakeNumber, TakeOperand, TakeWord, WriteBool, WriteOpen, WriteWords}
use Rattle.cxx_spelling.specs.declared.symbol.Nonterminal.TheVariants.{Casts, Declarators, Names, Types}
use Rattle.cxx_spelling.specs.declared.symbol.CastSymbol.TheVariants.{BoolOperand, CastBool, CastEnd, CastFloating, CastGroup, CastOperand, CastWords, FloatingOperand, GroupEnd, IntegerOperand, Parenthesised}
use Rattle.cxx_spelling.specs.declared.symbol.DeclaratorSymbol.TheVariants.{Declarator, ParenthesisEnd}
use Rattle.cxx_spelling.specs.declared.symbol.NameSymbol.TheVariants.{Address}
use Rattle.cxx_spelling.specs.declared.symbol.TypeSymbol.TheVariants.{CvQualifiers, TypeId}

-- behind a `(`, which is not written yet: an address, a literal, or a cast ([expr.cast])
abbrev pub parenthesised : Kind → Option (List Symbol)
parenthesised token.Reference = Some (Do Take ∷ Expand (Names Address) ∷ Expand (Casts GroupEnd) ∷ [])
parenthesised token.Number = Some (Do TakeNumber ∷ Expand (Casts GroupEnd) ∷ [])
parenthesised token.Character = Some (Do TakeCharacter ∷ Expand (Casts GroupEnd) ∷ [])
parenthesised token.Truth = Some (Do Take ∷ Expand (Casts GroupEnd) ∷ [])
parenthesised token.Floating = Some (Do TakeFloating ∷ Expand (Casts GroupEnd) ∷ [])
parenthesised token.OpenParenthesis = Some (Do Skip ∷ Expand (Casts Parenthesised) ∷ Expand (Casts GroupEnd) ∷ [])
parenthesised (token.Integer word) = Some (Do TakeWord ∷ Expand (Casts CastWords) ∷ [])
parenthesised token.Bool = Some (Do Skip ∷ Expand (Casts CastBool) ∷ [])
parenthesised token.Double = Some (Do WriteOpen ∷ Do Take ∷ Expand (Casts CastFloating) ∷ [])
parenthesised token.Float = Some (Do WriteOpen ∷ Do Take ∷ Expand (Casts CastFloating) ∷ [])
parenthesised _ = Some (Do WriteOpen ∷ Expand (Types TypeId) ∷ Expand (Casts CastEnd) ∷ [])

-- the end of a group whose parentheses fall
abbrev pub group_end : Kind → Option (List Symbol)
group_end token.CloseParenthesis = Some (Do Skip ∷ [])
group_end _ = None

-- a cast to an integer type: of a literal, it is written as the literal's suffix where the type has one
abbrev pub cast_words : Kind → Option (List Symbol)
cast_words (token.Integer word) = Some (Do TakeWord ∷ Expand (Casts CastWords) ∷ [])
cast_words token.CloseParenthesis = Some (Do Skip ∷ Expand (Casts IntegerOperand) ∷ [])
cast_words token.Double = Some (Do WriteOpen ∷ Do TakeLongDouble ∷ Expand (Casts CastFloating) ∷ [])
cast_words _ = Some (Do WriteOpen ∷ Do WriteWords ∷ Do BeginQualifiers ∷ Expand (Types CvQualifiers) ∷ Expand (Declarators Declarator) ∷ Expand (Casts CastEnd) ∷ [])

-- a cast to `bool`
abbrev pub cast_bool : Kind → Option (List Symbol)
cast_bool token.CloseParenthesis = Some (Do Skip ∷ Expand (Casts BoolOperand) ∷ [])
cast_bool _ = Some (Do WriteOpen ∷ Do WriteBool ∷ Do BeginQualifiers ∷ Expand (Types CvQualifiers) ∷ Expand (Declarators Declarator) ∷ Expand (Casts CastEnd) ∷ [])

-- a cast to a floating-point type: a literal is written in brackets
abbrev pub cast_floating : Kind → Option (List Symbol)
cast_floating token.CloseParenthesis = Some (Do Take ∷ Expand (Casts FloatingOperand) ∷ [])
cast_floating _ = Some (Do BeginQualifiers ∷ Expand (Types CvQualifiers) ∷ Expand (Declarators Declarator) ∷ Expand (Casts CastEnd) ∷ [])

-- the end of any other cast
abbrev pub cast_end : Kind → Option (List Symbol)
cast_end token.CloseParenthesis = Some (Do Take ∷ Expand (Casts CastOperand) ∷ [])
cast_end _ = None

-- what is cast: a literal, which stands without a suffix, or something in parentheses
abbrev pub cast_operand : Kind → Option (List Symbol)
cast_operand token.Number = Some (Do TakeOperand ∷ [])
cast_operand token.Character = Some (Do TakeOperand ∷ [])
cast_operand token.Truth = Some (Do TakeOperand ∷ [])
cast_operand token.Floating = Some (Do TakeOperand ∷ [])
cast_operand token.OpenParenthesis = Some (Do Skip ∷ Expand (Casts CastGroup) ∷ [])
cast_operand _ = None

-- behind a `(` that is not written yet: a literal, which stands without parentheses, or an address
abbrev pub cast_group : Kind → Option (List Symbol)
cast_group token.Number = Some (Do TakeOperand ∷ Expand (Casts GroupEnd) ∷ [])
cast_group token.Character = Some (Do TakeOperand ∷ Expand (Casts GroupEnd) ∷ [])
cast_group token.Truth = Some (Do TakeOperand ∷ Expand (Casts GroupEnd) ∷ [])
cast_group token.Floating = Some (Do TakeOperand ∷ Expand (Casts GroupEnd) ∷ [])
cast_group token.Reference = Some (Do WriteOpen ∷ Do Take ∷ Expand (Names Address) ∷ Expand (Declarators ParenthesisEnd) ∷ [])
cast_group _ = None

-- the literal of an integer type
abbrev pub integer_operand : Kind → Option (List Symbol)
integer_operand token.Number = Some (Do TakeIntegerCast ∷ [])
integer_operand token.Character = Some (Do TakeIntegerCast ∷ [])
integer_operand token.Truth = Some (Do TakeIntegerCast ∷ [])
integer_operand token.Floating = Some (Do TakeIntegerCast ∷ [])
integer_operand _ = None

-- the literal of `bool`
abbrev pub bool_operand : Kind → Option (List Symbol)
bool_operand token.Number = Some (Do TakeBoolCast ∷ [])
bool_operand token.Character = Some (Do TakeBoolCast ∷ [])
bool_operand token.Truth = Some (Do TakeBoolCast ∷ [])
bool_operand token.Floating = Some (Do TakeBoolCast ∷ [])
bool_operand _ = None

-- the literal of a floating-point type
abbrev pub floating_operand : Kind → Option (List Symbol)
floating_operand token.Number = Some (Do TakeFloatingCast ∷ [])
floating_operand token.Character = Some (Do TakeFloatingCast ∷ [])
floating_operand token.Truth = Some (Do TakeFloatingCast ∷ [])
floating_operand token.Floating = Some (Do TakeFloatingCast ∷ [])
floating_operand _ = None
