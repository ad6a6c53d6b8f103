-- The areas of a `.gdb_index`, versions 8 and 9 (GDB manual, index section format).
use Rattle.std.specs.Prelude.{ℕ, ◌+◌, ◌*◌, ◌-◌, ◌/◌, ◌&&◌, ◌||◌, nat_le, ◌==◌, if◌then◌else◌, List, [], ◌∷◌, length, take, drop, map, slice_range, Option, Some, None, Result, Ok}
use Rattle.ix_base.specs.declared.fault.Fault.{Fault}
use Rattle.ix_base.specs.Reading.{Input, before_zero}
use Rattle.index_model.specs.declared.index_code.TheConstants.{GDB_VERSION, GDB_OFFSETS}
use Rattle.index_model.specs.Meaning.{◌>>=◌, ◌>>◌, fault, holds_or}
use Rattle.index_model.specs.Layout.{below, field, nth}

-- the areas of an index; version 8 has no bytes of a shortcut
pub record Areas : Type 0 where
  pub cus : Input
  pub types : Input
  pub addresses : Input
  pub table : Input
  pub shortcut : Input
  pub pool : Input

-- the bytes from one place to another
abbrev pub area_at : List ℕ → ℕ → ℕ → Input
area_at bytes from to = record { at = from; rest = slice_range bytes from to }

-- the items of n bytes each in an area
abbrev pub items : ℕ → Input → List Input
items n area = map (λ k. record { at = area.at + n * k; rest = take n (drop (n * k) area.rest) }) (below (length area.rest / n))

-- the offsets in the fields from a place on; none is less than the one before it or past the end
unfoldable pub offsets_from : List ℕ → ℕ → ℕ → List ℕ → Result (List ℕ) Fault
offsets_from bytes at least [] = Ok []
offsets_from bytes at least (offset ∷ others) = do
  holds_or (nat_le least offset && nat_le offset (length bytes)) (fault GDB_OFFSETS at)
  more ← offsets_from bytes (at + 4) offset others
  Ok (offset ∷ more)

-- the areas that begin at these offsets, each up to the next
unfoldable pub areas_at : List ℕ → ℕ → List ℕ → Areas
areas_at bytes version offsets =
    let pool = if version == 9 then nth offsets 5 else nth offsets 4 in
    record {
      cus = area_at bytes (nth offsets 0) (nth offsets 1);
      types = area_at bytes (nth offsets 1) (nth offsets 2);
      addresses = area_at bytes (nth offsets 2) (nth offsets 3);
      table = area_at bytes (nth offsets 3) (nth offsets 4);
      shortcut = area_at bytes (nth offsets 4) pool;
      pool = area_at bytes pool (length bytes);
    }

-- the version, 8 or 9
unfoldable pub version_of : List ℕ → Result ℕ Fault
version_of bytes = do
  holds_or (nat_le 4 (length bytes)) (fault GDB_VERSION 0)
  let version = field 4 0 bytes
  holds_or (version == 8 || version == 9) (fault GDB_VERSION 0)
  Ok version

-- the areas: a header of 24 bytes, or 28 in version 9, has the version and their offsets
unfoldable pub areas : List ℕ → Result Areas Fault
areas bytes = do
  version ← version_of bytes
  let header = if version == 9 then 28 else 24
  holds_or (nat_le header (length bytes)) (fault GDB_OFFSETS 4)
  offsets ← offsets_from bytes 4 header (map (λ k. field 4 (4 * k + 4) bytes) (below (header / 4 - 1)))
  let found = areas_at bytes version offsets
  holds_or (version == 8 || nat_le 8 (length found.shortcut.rest)) (fault GDB_OFFSETS 20)
  Ok found

-- how many units the two lists have
abbrev pub unit_count : Areas → ℕ
unit_count a = length a.cus.rest / 16 + length a.types.rest / 24

-- ---- the constant pool

-- the string at an offset of the pool, if it has an end
abbrev pub string_at : Areas → ℕ → Option (List ℕ)
string_at a offset = if nat_le offset (length a.pool.rest) then before_zero (drop offset a.pool.rest) else None

-- the elements behind their number at an offset of the pool, if all lie in the pool
abbrev pub vector_at : Areas → ℕ → Option (List ℕ)
vector_at a offset =
    let count = field 4 offset a.pool.rest in
    let size = length a.pool.rest in
    let elements = map (λ k. field 4 (offset + 4 + 4 * k) a.pool.rest) (below (if nat_le (4 * count) size then count else 0)) in
    if nat_le (offset + 4) size && nat_le (offset + 4 + 4 * count) size then Some elements else None
