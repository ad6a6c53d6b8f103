-- The hashes of names, by what each byte adds (GDB manual, index section format; DWARF 5, 7.33).
use Rattle.std.specs.Prelude.{ℕ, ◌+◌, ◌*◌, ◌-◌, ◌^◌, ◌%◌, List, [], ◌∷◌}
use Rattle.index_model.specs.Hashes.{gdb_hash, name_hash, lower}
use Rattle.string_ends.specs.declared.formula.Formula.{Formula}
use Rattle.string_ends.specs.declared.formula.Formula.TheVariants.{GdbIndex, NameIndex}

-- the hash of a name
abbrev pub hash_by : Formula → List ℕ → ℕ
hash_by GdbIndex name = gdb_hash name
hash_by NameIndex name = name_hash name

-- what a hash is multiplied by at each byte
abbrev pub factor : Formula → ℕ
factor GdbIndex = 67
factor NameIndex = 33

-- what a byte adds
abbrev pub term : Formula → ℕ → ℕ
term GdbIndex byte = lower byte + 2 ^ 32 - 113
term NameIndex byte = lower byte

-- the hash of no bytes
abbrev pub start : Formula → ℕ
start GdbIndex = 0
start NameIndex = 5381

-- the factor as often as there are bytes, modulo 2 ^ 32
abbrev pub weight : ℕ → List ℕ → ℕ
weight m [] = 1
weight m (b ∷ bs) = (weight m bs * m) % 2 ^ 32

-- the terms of all bytes, each times the factor as often as bytes follow, modulo 2 ^ 32
abbrev pub sum_by : ℕ → (ℕ → ℕ) → List ℕ → ℕ
sum_by m term [] = 0
sum_by m term (b ∷ bs) = (term b * weight m bs + sum_by m term bs) % 2 ^ 32
