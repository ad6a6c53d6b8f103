-- The texts of values stay, where the sections that hold them grow.
use Rattle.std.proofs.Common.{ℕ, ◌+◌, ◌*◌, Bool, List, ◌++◌, drop, Option, None, Result, Ok, sym, subst}
use Rattle.std.specs.Prelude.{codes}
use Rattle.ix_base.specs.declared.code.TheConstants.{BAD_STRING, NO_BASE}
use Rattle.ix_base.specs.Reading.{Input, before_zero, offset, input}
use Rattle.index_model.specs.Meaning.{◌>>=◌, some_or}
use Rattle.index_model.specs.Sections.{Section, section_bytes}
use Rattle.index_model.specs.Forms.{Value, Str, LineStr, StrIndex, Inline}
use Rattle.index_model.specs.Attributes.{name_value, linkage_value}
use Rattle.index_model.specs.Program.{Walked, Located}
use Rattle.index_model.specs.Strings.{offset_size, bounded, string_at, str_offset, text_of, text_in, base_of, texts_of}
use Rattle.grown_alike.specs.Grown.{Grows}
use Rattle.grown_alike.proofs.Kept.{SomeStays, Keeps, keeps_itself, keeps_then, keeps_if_some, read_stays, stays_then}
use Rattle.grown_alike.proofs.Behind.{onwards, input_grown, offset_stays, text_stays}

-- the string at a place of a section that grows
string_keeps : (bytes more : List ℕ) (place : ℕ) → Keeps (string_at bytes place) (string_at (bytes ++ more) place)
unfolding string_at
string_keeps bytes more place =
    keeps_then _ _ bounded bounded (read_stays (λ (t : List ℕ). t) BAD_STRING (before_zero (drop place bytes)) (before_zero (drop place (bytes ++ more))) (text_stays bytes more place)) (λ s _. keeps_itself (bounded s))

-- what is made of an offset at a place of a section that grows
pub offset_keeps : (bytes more : List ℕ) (code : ℕ) (wide : Bool) (place : ℕ) (make : ℕ → ℕ) → Keeps (some_or (offset wide (input bytes place)) code >>= λ o. Ok (make o.0)) (some_or (offset wide (input (bytes ++ more) place)) code >>= λ o. Ok (make o.0))
offset_keeps bytes more code wide place make =
    let g = input_grown bytes more place in
    let here = input bytes place in
    let stays : SomeStays (onwards g.0) (offset wide here) (offset wide (input (bytes ++ more) place)) = subst (λ (i : Input). SomeStays (onwards g.0) (offset wide here) (offset wide i)) (sym g.1) (offset_stays wide g.0 here) in
    stays_then (onwards g.0) (λ (o : ℕ). o) _ _ _ _ (read_stays (onwards g.0) code (offset wide here) (offset wide (input (bytes ++ more) place)) stays) (λ o _. keeps_itself (Ok (make o.0)))

module _ (first second : List Section) (grows : Grows first second) where
  -- what stays where any bytes stand behind a section stays in both files
  pub in_section : {X E : Type 0} (name : List ℕ) (read : List ℕ → Result X E) → ((bytes more : List ℕ) → Keeps (read bytes) (read (bytes ++ more))) → Keeps (read (section_bytes first name)) (read (section_bytes second name))
  in_section name read h =
      let more = grows.others name in
      subst (λ (bytes : List ℕ). Keeps (read (section_bytes first name)) (read bytes)) (sym more.1) (h (section_bytes first name) more.0)

  string_in : (name : List ℕ) (place : ℕ) → Keeps (string_at (section_bytes first name) place) (string_at (section_bytes second name) place)
  string_in name place = in_section name (λ bytes. string_at bytes place) (λ bytes more. string_keeps bytes more place)

  str_offset_keeps : (base : Option ℕ) (wide : Bool) (n : ℕ) → Keeps (str_offset first base wide n) (str_offset second base wide n)
  unfolding str_offset
  str_offset_keeps base wide n =
      keeps_then (some_or base NO_BASE) (some_or base NO_BASE) _ _ (keeps_itself (some_or base NO_BASE)) (λ b _.
      in_section (codes ".debug_str_offsets") (λ bytes. some_or (offset wide (input bytes (b + offset_size wide * n))) BAD_STRING >>= λ o. Ok o.0) (λ bytes more. offset_keeps bytes more BAD_STRING wide (b + offset_size wide * n) (λ o. o)))

  text_keeps : (base : Option ℕ) (wide : Bool) (v : Value) → Keeps (text_of first base wide v) (text_of second base wide v)
  unfolding text_of
  text_keeps base wide (Inline s) = keeps_itself (bounded s)
  text_keeps base wide (Str o) = string_in (codes ".debug_str") o
  text_keeps base wide (LineStr o) = string_in (codes ".debug_line_str") o
  text_keeps base wide (StrIndex n) = keeps_then _ _ _ _ (str_offset_keeps base wide n) (λ o _. string_in (codes ".debug_str") o)
  text_keeps base wide other = keeps_itself (Ok None)

  pub in_unit_keeps : (w : Walked) (v : Option Value) → Keeps (text_in first w v) (text_in second w v)
  in_unit_keeps w v = keeps_if_some v (text_of first (base_of 0x72 w) w.unit.wide) (text_of second (base_of 0x72 w) w.unit.wide) (text_keeps (base_of 0x72 w) w.unit.wide)

  -- both texts of an entry
  pub texts_keep : (d : Located) → Keeps (texts_of first d) (texts_of second d)
  unfolding texts_of
  texts_keep d =
      keeps_then _ _ _ _ (in_unit_keeps d.home (name_value d.item)) (λ name _.
      keeps_then _ _ _ _ (in_unit_keeps d.home (linkage_value d.item)) (λ linkage _.
      keeps_itself (Ok (record { name = name; linkage = linkage }))))
