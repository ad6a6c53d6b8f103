-- The section headers of added sections.
use Rattle.std.proofs.Common.{◌≡◌, ℕ, ◌+◌, ◌<◌, ◌^◌, List, ◌∷◌, ◌++◌, length, take, drop, refl, arith}
use Rattle.std.proofs.lemmas.List.{take_at, drop_at}
use Rattle.index_model.specs.Layout.{u32_bytes, u64_bytes}
use Rattle.index_model.specs.Sections.{header}
use Rattle.reach_model.specs.Added.{NewSection, new_header, new_headers}
use Rattle.added_alike.proofs.Bytes.{field_there}
use Rattle.added_alike.proofs.Pieces.{start_at}

module _ (name place size : ℕ) where
  abbrev behind_size : List ℕ
  behind_size = u32_bytes 0 ++ (u32_bytes 0 ++ (u64_bytes 4 ++ u64_bytes 0))

  abbrev behind_place : List ℕ
  behind_place = u64_bytes size ++ behind_size

  abbrev behind_flags : List ℕ
  behind_flags = u64_bytes 0 ++ (u64_bytes place ++ behind_place)

  abbrev behind_kind : List ℕ
  behind_kind = u64_bytes 0 ++ behind_flags

  abbrev behind_name : List ℕ
  behind_name = u32_bytes 1 ++ behind_kind

  pub length-new_header : length (new_header name place size) ≡ 64
  unfolding new_header
  length-new_header = refl

  pub new_header_is : name < 2 ^ 32 → place < 2 ^ 64 → size < 2 ^ 64 → header (new_header name place size) ≡ record { name = name; kind = 1; flags = 0; at = place; size = size; link = 0 }
  unfolding header new_header
  new_header_is a b c =
      let n = field_there 4 0 name (new_header name place size) behind_name a refl in
      let k = field_there 4 4 1 (new_header name place size) behind_kind (omega arith) refl in
      let f = field_there 8 8 0 (new_header name place size) behind_flags (omega arith) refl in
      let p = field_there 8 24 place (new_header name place size) behind_place b refl in
      let s = field_there 8 32 size (new_header name place size) behind_size c refl in
      let l = field_there 4 40 0 (new_header name place size) (u32_bytes 0 ++ (u64_bytes 4 ++ u64_bytes 0)) (omega arith) refl in
      λ i. record { name = n i; kind = k i; flags = f i; at = p i; size = s i; link = l i }

-- the first of them
pub first_of : (name place : ℕ) (s : NewSection) (others : List NewSection) → take 64 (new_headers name place (s ∷ others)) ≡ new_header name (start_at place) (length s.content)
unfolding new_headers
first_of name place s others =
    let start : ℕ = start_at place in
    take_at (new_header name start (length s.content)) (new_headers (name + length s.name + 1) (start + length s.content) others) 64 (length-new_header name start (length s.content))

pub behind_first : (name place : ℕ) (s : NewSection) (others : List NewSection) → drop 64 (new_headers name place (s ∷ others)) ≡ new_headers (name + length s.name + 1) (start_at place + length s.content) others
unfolding new_headers
behind_first name place s others =
    let start : ℕ = start_at place in
    drop_at (new_header name start (length s.content)) (new_headers (name + length s.name + 1) (start + length s.content) others) 64 (length-new_header name start (length s.content))
