-- How a name is read and written anew.
use Rattle.std.specs.Prelude.{ℕ, zero, suc, ◌+◌, ◌-◌, ◌*◌, Bool, not, ◌||◌, ◌==◌, nat_lt, if◌then◌else◌, List, [], ◌∷◌, ◌++◌, length, take, drop, slice_index, slice_set, count_by, codes, bytes_eq, decimal, Option, Some, None, option_map}
use Rattle.std.specs.List.{filter}
use Rattle.cxx_spelling.specs.declared.kind.Kind.{Kind}
use Rattle.cxx_spelling.specs.declared.kind.Kind.TheVariants as token
use Rattle.cxx_spelling.specs.declared.release.Release.{Release}
use Rattle.cxx_spelling.specs.declared.release.Release.TheVariants.{Gdb13, Gdb16}
use Rattle.cxx_spelling.specs.declared.symbol.Symbol.{Symbol}
use Rattle.cxx_spelling.specs.declared.symbol.Symbol.TheVariants.{Do, Expand}
use Rattle.cxx_spelling.specs.declared.symbol.Action.{Action}
use Rattle.cxx_spelling.specs.declared.symbol.Action.TheVariants as action
use Rattle.cxx_spelling.specs.declared.symbol.Nonterminal.TheVariants.{Functions}
use Rattle.cxx_spelling.specs.declared.symbol.FunctionSymbol.TheVariants.{Start}
use Rattle.cxx_spelling.specs.declared.integers.IntegerWords.{IntegerWords}
use Rattle.cxx_spelling.specs.declared.integers.IntegerType.{IntegerType}
use Rattle.cxx_spelling.specs.declared.qualifiers.Qualifiers.{Qualifiers}
use Rattle.cxx_spelling.specs.Bytes.{until, is_suffix_byte, is_long_byte, is_unsigned_byte, is_float_byte}
use Rattle.cxx_spelling.specs.Characters.{character_code}
use Rattle.cxx_spelling.specs.Integers.{no_words, with_word, is_long, integer_type, type_name, suffix_of}
use Rattle.cxx_spelling.specs.Numerals.{decimal_digits}
use Rattle.cxx_spelling.specs.Qualifiers.{no_qualifiers, with_qualifier}
use Rattle.cxx_spelling.specs.Rules.{rule}
use Rattle.cxx_spelling.specs.Tokens.{Lexeme, first_token, last_byte}

-- a name that is being read and written anew
pub record State : Type 0 where
  pub release : Release  -- whose spelling it becomes
  pub token : Lexeme  -- the next token, and what stands behind it
  pub out : List ℕ  -- what has been written
  pub qualifiers : Qualifiers  -- the set of qualifiers that is open
  pub outer : List Qualifiers  -- those around it, the innermost first
  pub words : IntegerWords  -- the words of an integer type
  pub gaps : List ℕ  -- the places of what has been written where a byte may still come, the last one first
  pub parts : List (List Symbol)  -- what is still to come of the rules that were begun, the last one first

-- how far a step comes
pub data Reached : Type 0 where
  Going : State → Reached  -- something is still to be done
  Finished : State → Reached  -- nothing is
  Refused : Reached  -- no rule takes the next token

-- ---- literals

-- a literal without its suffix ([lex.icon])
abbrev pub digits_of : List ℕ → List ℕ
digits_of text = take (until is_suffix_byte text) text

-- the same as a release writes it; none where it refuses the literal
abbrev pub integer_digits : Release → List ℕ → Option (List ℕ)
integer_digits Gdb13 text = Some (digits_of text)
integer_digits Gdb16 text = decimal_digits text

-- a character as it stands, or its code
abbrev pub character_digits : Release → List ℕ → Option (List ℕ)
character_digits Gdb13 text = Some text
character_digits Gdb16 text = option_map decimal (character_code text)

-- the one form of a suffix with so many letters `u` and `l`
abbrev pub suffix_form : ℕ → ℕ → List ℕ
suffix_form units longs =
    if longs == 0 then (if units == 0 then codes "" else codes "u")
    else if longs == 1 then (if units == 0 then codes "l" else codes "ul")
    else (if units == 0 then codes "ll" else codes "ull")

abbrev pub suffix_text : List ℕ → List ℕ
suffix_text text =
    let letters = drop (until is_suffix_byte text) text in
    suffix_form (count_by is_unsigned_byte letters) (count_by is_long_byte letters)

-- a floating-point literal without its suffix ([lex.fcon])
abbrev pub floating_digits : List ℕ → List ℕ
floating_digits text = let last = last_byte text in if is_float_byte last || is_long_byte last then take (length text - 1) text else text

-- its type
abbrev pub floating_type : List ℕ → List ℕ
floating_type text =
    let last = last_byte text in
    if is_float_byte last then codes "(float)" else if is_long_byte last then codes "(long double)" else codes "(double)"

-- a literal of `bool` as a number: `true` begins with `t`
abbrev pub truth_digits : List ℕ → List ℕ
truth_digits text = if slice_index text 0 == 116 then codes "1" else codes "0"

-- the literal in a cast: a number without its suffix
abbrev pub operand_by : Release → Kind → List ℕ → Option (List ℕ)
operand_by release token.Character text = character_digits release text
operand_by release token.Truth text = Some (truth_digits text)
operand_by release token.Floating text = Some (floating_digits text)
operand_by release _ text = integer_digits release text

abbrev pub operand : Release → Lexeme → Option (List ℕ)
operand release t = operand_by release t.kind t.text

-- ---- writing

abbrev pub wrote : List ℕ → State → State
wrote text s = record s { out = s.out ++ text }

abbrev pub wrote_if : Bool → List ℕ → State → State
wrote_if wanted text s = if wanted then wrote text s else s

abbrev pub advanced : State → State
advanced s = record s { token = first_token s.token.rest }

-- a text is written for the token
abbrev pub taken_as : List ℕ → State → State
taken_as text s = advanced (wrote text s)

-- the text ends with a byte
abbrev pub ends_with : ℕ → List ℕ → Bool
ends_with b text = slice_index text (length text - 1) == b

-- qualifiers stand behind their type in one order, each once
abbrev pub wrote_qualifiers : Qualifiers → State → State
wrote_qualifiers set s =
    wrote_if set.restrict (codes " restrict") (wrote_if set.volatile (codes " volatile") (wrote_if set.constant (codes " const") s))

-- an integer literal with its suffix
abbrev pub wrote_number : List ℕ → List ℕ → State → State
wrote_number suffix digits s = wrote suffix (wrote digits s)

-- a character behind its type
abbrev pub wrote_character : List ℕ → State → State
wrote_character digits s = wrote digits (wrote (codes "(char)") s)

-- a literal of an integer type: with its suffix, or behind its type
abbrev pub wrote_typed : IntegerType → Option (List ℕ) → List ℕ → State → State
wrote_typed type (Some suffix) digits s = wrote suffix (wrote digits s)
wrote_typed type None digits s = wrote digits (wrote (codes ")") (wrote (type_name type) (wrote (codes "(") s)))

-- a literal of `bool`
abbrev pub wrote_bool : List ℕ → State → State
wrote_bool digits s =
    if bytes_eq digits (codes "0") then wrote (codes "false") s
    else if bytes_eq digits (codes "1") then wrote (codes "true") s
    else wrote digits (wrote (codes "(bool)") s)

-- a literal of a floating-point type stands in brackets, behind its sign
abbrev pub wrote_bracketed : List ℕ → State → State
wrote_bracketed [] s = wrote (codes "[]") s
wrote_bracketed (first ∷ digits) s =
    if first == 45 then wrote (codes "]") (wrote digits (wrote (codes "-[") s))
    else wrote (codes "]") (wrote (first ∷ digits) (wrote (codes "[") s))

-- a place where a byte may still come: until then a zero byte stands there, or a blank
abbrev pub began_gap : ℕ → State → State
began_gap b s = record s { out = s.out ++ b ∷ []; gaps = length s.out ∷ s.gaps }

abbrev pub with_byte : ℕ → ℕ → List ℕ → List ℕ
with_byte place b text = if nat_lt place (length text) then slice_set text place b else text

-- whether a byte was written; else it is a gap that stayed
abbrev pub is_written : ℕ → Bool
is_written b = not (b == 0)

-- ---- what rules do

abbrev pub leaves_gap : List ℕ → State → Reached
leaves_gap [] s = Refused
leaves_gap (place ∷ outer) s = Going (record s { gaps = outer })

abbrev pub fills_gap : ℕ → List ℕ → State → Reached
fills_gap b [] s = Refused
fills_gap b (place ∷ outer) s = Going (record s { out = with_byte place b s.out; gaps = outer })

-- gdb makes one reference of two, which no rule does
abbrev pub takes_reference : State → Reached
takes_reference s = if ends_with 38 s.out then Refused else Going (taken_as s.token.text s)

abbrev pub takes_qualifier : Kind → State → Reached
takes_qualifier (token.Qualifier one) s = Going (advanced (record s { qualifiers = with_qualifier s.qualifiers one }))
takes_qualifier _ s = Refused

abbrev pub ends_qualifiers : List Qualifiers → State → Reached
ends_qualifiers [] s = Refused
ends_qualifiers (set ∷ outer) s = Going (record (wrote_qualifiers s.qualifiers s) { qualifiers = set; outer = outer })

abbrev pub takes_word : Kind → State → Reached
takes_word (token.Integer word) s = Going (advanced (record s { words = with_word s.words word }))
takes_word _ s = Refused

abbrev pub writes_words : Option IntegerType → State → Reached
writes_words None s = Refused
writes_words (Some type) s = Going (record (wrote (type_name type) s) { words = no_words })

abbrev pub takes_long_double : State → Reached
takes_long_double s = if is_long s.words then Going (taken_as (codes "long double") (record s { words = no_words })) else Refused

-- a literal is written for the token by what is written of it
abbrev pub takes_literal : (List ℕ → State → State) → Option (List ℕ) → State → Reached
takes_literal write None s = Refused
takes_literal write (Some digits) s = Going (advanced (write digits s))

abbrev pub takes_integer_cast : Option IntegerType → State → Reached
takes_integer_cast None s = Refused
takes_integer_cast (Some type) s =
    takes_literal (wrote_typed type (suffix_of type)) (operand s.release s.token) (record s { words = no_words })

abbrev pub act : Action → State → Reached
act action.Take s = Going (taken_as s.token.text s)
act action.Skip s = Going (advanced s)
act action.WriteSpace s = Going (wrote (codes " ") s)
act action.WriteOpen s = Going (wrote (codes "(") s)
act action.WriteClose s = Going (wrote (codes ")") s)
act action.WriteVoid s = Going (wrote (codes "void") s)
act action.WriteBool s = Going (wrote (codes "bool") s)
act action.BeginQualifiers s = Going (record s { qualifiers = no_qualifiers; outer = s.qualifiers ∷ s.outer })
act action.TakeQualifier s = takes_qualifier s.token.kind s
act action.EndQualifiers s = ends_qualifiers s.outer s
act action.TakeWord s = takes_word s.token.kind s
act action.WriteWords s = writes_words (integer_type s.words) s
act action.TakeLongDouble s = takes_long_double s
act action.TakeGreater s = Going (taken_as (if ends_with 62 s.out then codes " >" else codes ">") s)
act action.TakeReference s = takes_reference s
act action.BeginGap s = Going (began_gap 0 s)
act action.LeaveGap s = leaves_gap s.gaps s
act action.FillOpen s = fills_gap 40 s.gaps s
act action.FillSpace s = fills_gap 32 s.gaps s
act action.WriteNestedOpen s = Going (wrote (codes "(") (began_gap (if ends_with 42 s.out then 0 else 32) s))
act action.TakeNumber s = takes_literal (wrote_number (suffix_text s.token.text)) (integer_digits s.release s.token.text) s
act action.TakeOperand s = takes_literal wrote (operand s.release s.token) s
act action.TakeFloating s = Going (advanced (wrote_bracketed (floating_digits s.token.text) (wrote (floating_type s.token.text) s)))
act action.TakeFloatingCast s = takes_literal wrote_bracketed (operand s.release s.token) s
act action.TakeCharacter s = takes_literal wrote_character (character_digits s.release s.token.text) s
act action.TakeIntegerCast s = takes_integer_cast (integer_type s.words) s
act action.TakeBoolCast s = takes_literal wrote_bool (operand s.release s.token) s

-- ---- steps

-- a symbol becomes what its rule says
abbrev pub expanded : Option (List Symbol) → State → Reached
expanded None s = Refused
expanded (Some symbols) s = Going (record s { parts = symbols ∷ s.parts })

-- a rule has come to its end: the one before it goes on
abbrev pub closed : List (List Symbol) → State → Reached
closed [] s = Finished s
closed (symbols ∷ outer) s = Going (record s { parts = symbols ∷ outer })

abbrev pub performed : Symbol → State → Reached
performed (Do what) s = act what s
performed (Expand symbol) s = expanded (rule s.release symbol s.token.kind) s

abbrev pub step_by : List (List Symbol) → State → Reached
step_by [] s = Finished s
step_by ([] ∷ outer) s = closed outer s
step_by ((symbol ∷ symbols) ∷ outer) s = performed symbol (record s { parts = symbols ∷ outer })

abbrev pub step : State → Reached
step s = step_by s.parts s

-- what has been written where the whole name was taken, without the gaps that stayed
abbrev pub finished_by : Kind → List ℕ → Option (List ℕ)
finished_by token.End text = Some (filter is_written text)
finished_by _ text = None

abbrev pub finished : State → Option (List ℕ)
finished s = finished_by s.token.kind s.out

-- what comes of a step, where the rest of the steps goes on
abbrev pub after : (State → Option (List ℕ)) → Reached → Option (List ℕ)
after go (Going s) = go s
after go (Finished s) = finished s
after go Refused = None

-- so many steps at most; None where the grammar refuses the name, or where they don't suffice
unfoldable pub run : ℕ → State → Option (List ℕ)
run zero s = None
run (suc n) s = after (λ t. run n t) (step s)

-- a name that nothing was read of
abbrev pub begun : Release → List ℕ → State
begun release name = record {
  release = release;
  token = first_token name;
  out = [];
  qualifiers = no_qualifiers;
  outer = [];
  words = no_words;
  gaps = [];
  parts = (Expand (Functions Start) ∷ []) ∷ [];
}

-- no name needs as many steps
abbrev pub steps_for : List ℕ → ℕ
steps_for name = 32 * length name + 64

-- the longest name that is read, in bytes
abbrev pub max_length : ℕ
max_length = 1048576

-- a name written anew; None where it stands as it is
unfoldable pub translation : Release → List ℕ → Option (List ℕ)
translation release name = if nat_lt max_length (length name) then None else run (steps_for name) (begun release name)
