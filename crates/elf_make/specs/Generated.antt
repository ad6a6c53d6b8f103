-- The generated file: a program of as many units as one likes, whose addresses and references a seed decides.
--
-- Units take turns: those of even number are in C, those of odd number in C++. Numbers of a shape are hexadecimal. Unit i, counted from 0,
-- begins at the address L = 100000 + 1000 * (seed mod 4096) + 100 * i, and H stands for the 8 lower-case hexadecimal digits of i. Of U
-- units Q = U div 2 are in C++.
--   even: compile_unit(name uH.c, language 0C, low L, high 100) { for i = 0 first subprogram(name main, external, low L, high 20);
--         subprogram(name fH, external, low L + 20, high 20) subprogram(name helper, low L + 40, high 20)
--         variable(name vH, external, location L + 80) typedef(name word) }
--   odd:  compile_unit(name uH.cc, language 21, low L, high 100) { namespace(name n) { class_type(name cH) {
--         subprogram(name m, external, declaration) } } subprogram(specification M, low L + 20, high 20) },
--         where M is the declaration m of unit 2 * (((i - 1) div 2 + seed) mod Q) + 1
use Rattle.std.specs.Prelude.{ℕ, ◌+◌, ◌-◌, ◌*◌, ◌/◌, ◌%◌, ◌^◌, nat_lt, ◌==◌, if◌then◌else◌, List, [], ◌∷◌, ◌++◌, length, map, flat_map, sum_by, codes}
use Rattle.index_model.specs.Layout.{below, start_of}
use Rattle.index_model.specs.Tags.{namespace, subprogram, variable}
use Rattle.elf_make.specs.Packed.{packed}
use Rattle.elf_make.specs.PlainForm.{Name, Language, LowPc, HighPc, External, Declaration, Specification, Location, Entries, End, Plain, Braced, abbreviations_of, in_first_use, table_bytes, pieces, unit_header, unit_bytes}

-- ---- names and addresses

-- the sign of a hexadecimal digit
abbrev pub hex_sign : ℕ → ℕ
hex_sign digit = if nat_lt digit 10 then 48 + digit else 87 + digit

-- the 8 lower-case hexadecimal digits of a number
unfoldable pub hex_digits : ℕ → List ℕ
hex_digits n = map (λ k. hex_sign (n / 16 ^ k % 16)) (7 ∷ 6 ∷ 5 ∷ 4 ∷ 3 ∷ 2 ∷ 1 ∷ 0 ∷ [])

-- where the addresses of unit i begin
abbrev pub low_of : ℕ → ℕ → ℕ
low_of seed i = 0x100000 + 0x1000 * (seed % 4096) + 0x100 * i

-- ---- shapes

-- the tags that no other definition names
abbrev pub compile_unit : ℕ
compile_unit = 0x11

abbrev pub class_type : ℕ
class_type = 0x02

abbrev pub typedef : ℕ
typedef = 0x16

-- the function main, before the other entries of unit 0 alone
unfoldable pub main_before : ℕ → ℕ → Entries → Entries
main_before low i others =
    if i == 0 then Plain subprogram (Name (codes "main") ∷ External ∷ LowPc low ∷ HighPc 0x20 ∷ []) others else others

-- what each unit of even number has
unfoldable pub c_entries : ℕ → ℕ → Entries
c_entries low i =
    Plain subprogram (Name (codes "f" ++ hex_digits i) ∷ External ∷ LowPc (low + 0x20) ∷ HighPc 0x20 ∷ []) (
    Plain subprogram (Name (codes "helper") ∷ LowPc (low + 0x40) ∷ HighPc 0x20 ∷ []) (
    Plain variable (Name (codes "v" ++ hex_digits i) ∷ External ∷ Location (low + 0x80) ∷ []) (
    Plain typedef (Name (codes "word") ∷ []) End)))

-- a unit of even number, in C99
unfoldable pub c_unit : ℕ → ℕ → Entries
c_unit low i =
    Braced compile_unit (Name (codes "u" ++ hex_digits i ++ codes ".c") ∷ Language 0x0C ∷ LowPc low ∷ HighPc 0x100 ∷ [])
    (main_before low i (c_entries low i))
    End

-- a namespace with a class that declares a method m, before other entries
abbrev pub class_before : ℕ → Entries → Entries
class_before i others =
    Braced namespace (Name (codes "n") ∷ [])
    (Braced class_type (Name (codes "c" ++ hex_digits i) ∷ []) (Plain subprogram (Name (codes "m") ∷ External ∷ Declaration ∷ []) End) End)
    others

-- a unit of odd number, in C++14, whose subprogram specifies the declaration at an offset in `.debug_info`
unfoldable pub cpp_unit : ℕ → ℕ → ℕ → Entries
cpp_unit low i declared =
    Braced compile_unit (Name (codes "u" ++ hex_digits i ++ codes ".cc") ∷ Language 0x21 ∷ LowPc low ∷ HighPc 0x100 ∷ [])
    (class_before i (Plain subprogram (Specification declared ∷ LowPc (low + 0x20) ∷ HighPc 0x20 ∷ []) End))
    End

-- The shape of unit i. Neither its abbreviations nor its length depends on the offset of the declaration that it specifies, so where
-- these are asked for, the offset is 0 (LawsGenerated).
unfoldable pub unit_shape : ℕ → ℕ → ℕ → Entries
unit_shape seed i declared = if i % 2 == 0 then c_unit (low_of seed i) i else cpp_unit (low_of seed i) i declared

-- ---- the file

-- the abbreviations of all units
unfoldable pub abbreviations : ℕ → ℕ → List (List ℕ)
abbreviations seed units = in_first_use (flat_map (λ i. abbreviations_of (unit_shape seed i 0)) (below units))

-- where unit i begins: behind the units before it
unfoldable pub unit_start : List (List ℕ) → ℕ → ℕ → ℕ
unit_start table seed i = sum_by (λ k. length (unit_bytes table (unit_shape seed k 0))) (below i)

-- where the declaration of a unit of odd number stands: behind its header, the unit's own entry, the namespace's and the class's
unfoldable pub declaration_in : List (List ℕ) → ℕ → ℕ → ℕ
declaration_in table seed i = unit_start table seed i + length (unit_header 0) + start_of (pieces table (unit_shape seed i 0)) 3

-- the unit of odd number whose declaration the unit i of odd number specifies
unfoldable pub specified_by : ℕ → ℕ → ℕ → ℕ
specified_by seed units i = 2 * (((i - 1) / 2 + seed) % (units / 2)) + 1

-- the bytes of unit i
unfoldable pub generated_unit : ℕ → ℕ → ℕ → List ℕ
generated_unit seed units i =
    let table = abbreviations seed units in
    unit_bytes table (unit_shape seed i (declaration_in table seed (specified_by seed units i)))

-- the bytes of all units
abbrev pub generated_info : ℕ → ℕ → List ℕ
generated_info seed units = flat_map (generated_unit seed units) (below units)

-- an executable file (e_type 2) of the abbreviations and the units
unfoldable pub generated_file : ℕ → ℕ → List ℕ
generated_file seed units = packed (record {
  kind = 2;
  sections =
      record { name = codes ".debug_abbrev"; content = table_bytes (abbreviations seed units) } ∷
      record { name = codes ".debug_info"; content = generated_info seed units } ∷
      [];
})
