-- What is kept of an index reads as the index, and not where what stands before the index is cut.
use Rattle.std.proofs.Common.{◌≡◌, ℕ, ◌+◌, ◌-◌, ◌^◌, ◌<◌, ◌≤◌, leb, cond, List, ◌++◌, length, take, drop, append_assoc, inl, inr, Option, Some, None, Result, Ok, refl, sym, ap, ◌∙◌, arith}
use mathlib.Core.Logic.{◌⊎◌}
use Rattle.std.specs.Prelude.{bytes_eq}
use Rattle.std.proofs.lemmas.Bool.{cases_lt, le-leb, leb-true}
use Rattle.std.proofs.lemmas.List.{drop_at, length-append, length-drop, length-take, take_at}
use Rattle.std.proofs.lemmas.Option.{cond_some}
use Rattle.std.proofs.lemmas.Slice.Eq.{bytes_eq-Decides}
use Rattle.std.proofs.Math.Seq.{take-append-add}
use Rattle.byteorder.specs.Endian.{little_number}
use Rattle.byteorder.specs.Numbers.{little_number-reads_back}
use Rattle.ix_base.specs.declared.fault.Fault.{Fault}
use Rattle.ix_base.specs.Reading.{Input, bytes, input, number, past}
use Rattle.index_model.specs.GdbIndexRead.{GdbIndex, gdb_index}
use Rattle.index_model.specs.Layout.{field, u32_bytes}
use Rattle.index_model.specs.Meaning.{◌>>=◌, ◌>>◌, fault, holds_or, some_or}
use Rattle.index_model.proofs.IndexSizes.{size_4}
use Rattle.index_model.proofs.Meanings.{bind_ok, holds_ok, some_ok}
use Rattle.index_alike.proofs.GdbSteps.{bind_is, some_is, then_is}
use Rattle.reach_model.specs.declared.code.TheConstants.{KEPT_HEADER, KEPT_BUILD_ID}
use Rattle.reach_model.specs.BuildIds.{IsBuildId}
use Rattle.reach_model.specs.KeptIndexes.{kept_bytes, kept_id, kept_index, kept_magic}
use Rattle.kept_alike.proofs.Prefixes.{field_before}

-- what is read behind the length of the build-id, and behind what a kept index begins with
abbrev read_id : ℕ × Input → Result (List ℕ × Input) Fault
read_id size = some_or (bytes size.0 size.1) (fault KEPT_HEADER 0)

abbrev read_size : List ℕ × Input → Result (List ℕ × Input) Fault
read_size magic = holds_or (bytes_eq magic.0 kept_magic) (fault KEPT_HEADER 0) >> (some_or (number 4 magic.1) (fault KEPT_HEADER 0) >>= read_id)

-- ---- readers at the front of bytes

bytes_front : (front rest : List ℕ) (at n : ℕ) → length front ≡ n → bytes n (record { at = at; rest = front ++ rest }) ≡ Some (front, record { at = at + n; rest = rest })
bytes_front front rest at n size =
    let all : List ℕ = front ++ rest in
    ap (λ b. cond b (Some (take n all, past n (record { at = at; rest = all }))) None) (le-leb n (length all) (omega (arith, size, length-append front rest)))
    ∙ (λ i. Some (take_at front rest n size i, record { at = at + n; rest = drop_at front rest n size i }))

number_front : (x : ℕ) (rest : List ℕ) (at : ℕ) → x < 2 ^ 32 → number 4 (record { at = at; rest = u32_bytes x ++ rest }) ≡ Some (x, record { at = at + 4; rest = rest })
number_front x rest at lt =
    let all : List ℕ = u32_bytes x ++ rest in
    ap (λ b. cond b (Some (little_number 4 all, past 4 (record { at = at; rest = all }))) None) (le-leb 4 (length all) (omega (arith, size_4 x, length-append (u32_bytes x) rest)))
    ∙ (λ i. Some (little_number-reads_back 4 x rest (omega (arith, lt)) i, record { at = at + 4; rest = drop_at (u32_bytes x) rest 4 (size_4 x) i }))

some_or_ok : {A E : Type 0} (o : Option A) (e : E) (x : A) → some_or o e ≡ Ok x → o ≡ Some x
some_or_ok (Some y) e x is = cc
some_or_ok None e x is = absurd cc

-- ---- what was read

bytes_read : (n : ℕ) (i : Input) (x : List ℕ × Input) → bytes n i ≡ Some x → (n ≤ length i.rest) × (x.1.rest ≡ drop n i.rest)
bytes_read n i x is =
    let h = cond_some (leb n (length i.rest)) (take n i.rest, past n i) x is in
    (leb-true n (length i.rest) h.0, ap (λ (y : List ℕ × Input). y.1.rest) (sym h.1))

number_read : (i : Input) (x : ℕ × Input) → number 4 i ≡ Some x → (4 ≤ length i.rest) × (x.0 ≡ little_number 4 i.rest) × (x.1.rest ≡ drop 4 i.rest)
number_read i x is =
    let h = cond_some (leb 4 (length i.rest)) (little_number 4 i.rest, past 4 i) x is in
    (leb-true 4 (length i.rest) h.0, ap (λ (y : ℕ × Input). y.0) (sym h.1), ap (λ (y : ℕ × Input). y.1.rest) (sym h.1))

-- a number behind the first 8 bytes of a prefix is that of all bytes
size_read : (n k : ℕ) (rest all : List ℕ) → n ≡ little_number 4 rest → rest ≡ drop 8 (take k all) → 8 + 4 ≤ k → n ≡ field 4 8 all
size_read n k rest all is there long = is ∙ ap (little_number 4) there ∙ field_before 4 8 k all long

module _ (id index : List ℕ) (is_id : IsBuildId id) where
  abbrev size_bytes : List ℕ
  size_bytes = u32_bytes (length id)

  abbrev front : List ℕ
  front = kept_magic ++ size_bytes ++ id

  abbrev behind_magic : List ℕ
  behind_magic = size_bytes ++ (id ++ index)

  grouped : kept_bytes id index ≡ kept_magic ++ behind_magic
  unfolding kept_bytes
  grouped = append_assoc (kept_magic ++ size_bytes) id index ∙ append_assoc kept_magic size_bytes (id ++ index)

  front_size : length front ≡ 12 + length id
  front_size = omega (arith, length-append (kept_magic ++ size_bytes) id, length-append kept_magic size_bytes, size_4 (length id))

  -- ---- what is whole

  id_reads : kept_id (input (kept_magic ++ behind_magic) 0) ≡ Ok (id, record { at = 12 + length id; rest = index })
  unfolding kept_id
  id_reads =
      let wrong : Fault = fault KEPT_HEADER 0 in
      let behind : Input = record { at = 8; rest = behind_magic } in
      let own : Result (List ℕ × Input) Fault = Ok (id, record { at = 12 + length id; rest = index }) in
      some_is (bytes 8 (input (kept_magic ++ behind_magic) 0)) wrong read_size (kept_magic, behind) own (bytes_front kept_magic behind_magic 0 8 refl)
      (then_is (bytes_eq kept_magic kept_magic) wrong (some_or (number 4 behind) wrong >>= read_id) own refl
      (some_is (number 4 behind) wrong read_id (length id, record { at = 12; rest = id ++ index }) own (number_front (length id) (id ++ index) 8 (omega (arith, is_id.few)))
      (ap (λ (o : Option (List ℕ × Input)). some_or o wrong) (bytes_front id index 12 (length id) refl))))

  pub kept_reads : kept_index (kept_bytes id index) id ≡ gdb_index index
  unfolding kept_index
  kept_reads =
      ap (λ (w : List ℕ). kept_index w id) grouped
      ∙ bind_is (kept_id (input (kept_magic ++ behind_magic) 0)) (λ own. holds_or (bytes_eq own.0 id) (fault KEPT_BUILD_ID 0) >> gdb_index own.1.rest) (id, record { at = 12 + length id; rest = index }) (gdb_index index) id_reads
      (then_is (bytes_eq id id) (fault KEPT_BUILD_ID 0) (gdb_index index) (gdb_index index) ((bytes_eq-Decides id id).1 refl) refl)

  -- ---- what is cut before the index

  size_reads : field 4 8 (kept_bytes id index) ≡ length id
  size_reads = ap (field 4 8) grouped ∙ little_number-reads_back 4 (length id) (id ++ index) (omega (arith, is_id.few))

  front_cut : (k : ℕ) → k < 12 + length id → (i : GdbIndex) → kept_index (take k (kept_bytes id index)) id ≡ Ok i → ⊥
  unfolding kept_index kept_id
  front_cut k less i is =
      let whole : List ℕ = kept_bytes id index in
      let cut : List ℕ = take k whole in
      let long : length cut ≤ k = omega (arith, length-take k whole) in
      let o = bind_ok (kept_id (input cut 0)) _ i is in
      let m = some_ok (bytes 8 (input cut 0)) (fault KEPT_HEADER 0) read_size o.0 o.1 in
      let magic = bytes_read 8 (input cut 0) m.0 m.1 in
      let h = holds_ok (bytes_eq m.0.0 kept_magic) (fault KEPT_HEADER 0) (some_or (number 4 m.0.1) (fault KEPT_HEADER 0) >>= read_id) o.0 m.2 in
      let s = some_ok (number 4 m.0.1) (fault KEPT_HEADER 0) read_id o.0 h.1 in
      let size = number_read m.0.1 s.0 s.1 in
      let own = bytes_read s.0.0 s.0.1 o.0 (some_or_ok (bytes s.0.0 s.0.1) (fault KEPT_HEADER 0) o.0 s.2) in
      let reaches : 8 + 4 ≤ k = omega (arith, size.0, ap length magic.1, length-drop 8 cut, long) in
      omega (arith, less, size_read s.0.0 k m.0.1.rest whole size.1 magic.1 reaches, size_reads, own.0, ap length size.2, length-drop 4 m.0.1.rest, ap length magic.1, length-drop 8 cut, long)

  -- ---- what is cut in the index

  index_cut_there : (j : ℕ) → take (12 + length id + j) (kept_bytes id index) ≡ kept_bytes id (take j index)
  unfolding kept_bytes
  index_cut_there j = ap (λ (n : ℕ). take (n + j) (front ++ index)) (sym front_size) ∙ take-append-add front index j

  kept_size : length (kept_bytes id index) ≡ 12 + length id + length index
  unfolding kept_bytes
  kept_size = omega (arith, length-append front index, front_size)

-- where no proper prefix of the index is one, no proper prefix of what is kept opens
pub kept_cut : (id index : List ℕ) → IsBuildId id → ((j : ℕ) → j < length index → (i : GdbIndex) → gdb_index (take j index) ≡ Ok i → ⊥) → (k : ℕ) → k < length (kept_bytes id index) → (i : GdbIndex) → kept_index (take k (kept_bytes id index)) id ≡ Ok i → ⊥
kept_cut id index is_id refused k less i is = by (cases_lt k (12 + length id))
  where
    by : (k < 12 + length id) ⊎ (12 + length id ≤ k) → ⊥
    by (inl short) = front_cut id index is_id k short i is
    by (inr long) =
        let j : ℕ = k - (12 + length id) in
        let within : j < length index = omega (arith, less, long, kept_size id index is_id) in
        let there : k ≡ 12 + length id + j = omega (arith, long) in
        let same : take k (kept_bytes id index) ≡ kept_bytes id (take j index) = ap (λ (n : ℕ). take n (kept_bytes id index)) there ∙ index_cut_there id index is_id j in
        refused j within i (sym (kept_reads id (take j index) is_id) ∙ ap (λ (w : List ℕ). kept_index w id) (sym same) ∙ is)
