-- The marks that the compiler puts between the parts of a name, and that its decoded form doesn't have (gdb/ada-lang.c, ada_decode).
use Rattle.std.specs.Prelude.{ℕ, ◌+◌, Bool, ◌&&◌, ◌||◌, ◌==◌, nat_lt, if◌then◌else◌, List, length, take, drop, codes, slice_index}
use Rattle.ada_spelling.specs.Bytes.{begins_with, has_end, before_part, digits_in_front}

-- the length of `TK` before `__`, which marks a task; it isn't at the end
abbrev pub task_length : List ℕ → ℕ
task_length rest = if begins_with (codes "TK__") rest && nat_lt 4 (length rest) then 2 else 0

-- whether `__` stands in front, and something behind it
abbrev pub goes_on : List ℕ → Bool
goes_on rest = begins_with (codes "__") rest && nat_lt 2 (length rest)

-- the length of `__B_` with digits before `__`, which marks a block; something stands behind
abbrev pub block_length : List ℕ → ℕ
block_length rest =
    let digits = digits_in_front (drop 4 rest) in
    if begins_with (codes "__B_") rest && nat_lt 0 digits && goes_on (drop (4 + digits) rest) then 4 + digits else 0

-- whether `b` or `s` stands in front, alone or before `_`
unfoldable pub ends_entry : List ℕ → Bool
ends_entry rest = (begins_with (codes "b") rest || begins_with (codes "s") rest) && (length rest == 1 || slice_index rest 1 == 95)

-- the length of `_E` with digits and `b` or `s`, which marks an entry of a task; `_` or nothing stands behind
abbrev pub entry_length : List ℕ → ℕ
entry_length rest =
    let digits = digits_in_front (drop 2 rest) in
    if begins_with (codes "_E") rest && nat_lt 0 digits && ends_entry (drop (2 + digits) rest) then 3 + digits else 0

-- whether lower-case letters and digits alone stand at the end, up to `__` or the beginning
abbrev pub ends_with_part : List ℕ → Bool
ends_with_part before = let outer = before_part before in length outer == 0 || has_end (codes "__") outer

-- the length of the N before `__` that marks a protected subprogram, behind lower-case letters and digits
abbrev pub protected_length : List ℕ → List ℕ → ℕ
protected_length before rest = if begins_with (codes "N__") rest && ends_with_part before then 1 else 0

-- the place behind the marks at a place of the name
unfoldable pub behind_marks : List ℕ → ℕ → ℕ
behind_marks name at =
    let task = at + task_length (drop at name) in
    let block = task + block_length (drop task name) in
    let entry = block + entry_length (drop block name) in
    entry + protected_length (take entry name) (drop entry name)
