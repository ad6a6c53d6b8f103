-- Where the pieces behind a program stand.
use Rattle.std.proofs.Common.{◌≡◌, ℕ, ◌+◌, ◌≤◌, List, [], ◌∷◌, ◌++◌, length, take, replicate, refl, ap, ◌∙◌, subst, arith}
use Rattle.std.proofs.lemmas.List.{length-append, length-replicate, take_all, drop_at}
use Rattle.index_model.specs.Sections.{bytes_from}
use Rattle.reach_model.specs.Added.{padded, padding, with_pieces}
use Rattle.added_alike.proofs.Bytes.{Begins, begins_first, begins_itself, begins_length, begins_on, from_begins}

-- the next multiple of 8
abbrev pub start_at : ℕ → ℕ
start_at place = place + padding place

-- the pieces stand in the bytes one after the other, each at the next multiple of 8
abbrev pub StandFrom : List ℕ → ℕ → List (List ℕ) → Type 0
StandFrom bytes place [] = Unit {0}
StandFrom bytes place (c ∷ cs) = (bytes_from (start_at place) (length c) bytes ≡ c) × (start_at place + length c ≤ length bytes) × StandFrom bytes (start_at place + length c) cs

pub length-padded : (bytes : List ℕ) → length (padded bytes) ≡ start_at (length bytes)
unfolding padded
length-padded bytes = omega (arith, length-append bytes (replicate (padding (length bytes)) 0), length-replicate {A = ℕ} (padding (length bytes)) 0)

pub padded_begins : (bytes : List ℕ) → Begins bytes (padded bytes)
unfolding padded
padded_begins bytes = begins_first bytes (replicate (padding (length bytes)) 0)

pub pieces_begin : (bytes : List ℕ) (cs : List (List ℕ)) → Begins bytes (with_pieces bytes cs)
unfolding with_pieces
pieces_begin bytes [] = begins_itself bytes
pieces_begin bytes (c ∷ cs) = begins_on (begins_on (padded_begins bytes) (begins_first (padded bytes) c)) (pieces_begin (padded bytes ++ c) cs)

pub pieces_join : (bytes : List ℕ) (cs ds : List (List ℕ)) → with_pieces bytes (cs ++ ds) ≡ with_pieces (with_pieces bytes cs) ds
unfolding with_pieces
pieces_join bytes [] ds = refl
pieces_join bytes (c ∷ cs) ds = pieces_join (padded bytes ++ c) cs ds

pub pieces_stand : (bytes : List ℕ) (cs : List (List ℕ)) (whole : List ℕ) → Begins (with_pieces bytes cs) whole → StandFrom whole (length bytes) cs
unfolding with_pieces
pieces_stand bytes [] whole begins = tt
pieces_stand bytes (c ∷ cs) whole begins =
    let here : Begins (padded bytes ++ c) whole = begins_on (pieces_begin (padded bytes ++ c) cs) begins in
    let size : length (padded bytes ++ c) ≡ start_at (length bytes) + length c = omega (arith, length-append (padded bytes) c, length-padded bytes) in
    let at : bytes_from (start_at (length bytes)) (length c) whole ≡ c =
    from_begins (start_at (length bytes)) (length c) here (omega (arith, size))
    ∙ ap (take (length c)) (drop_at (padded bytes) c (start_at (length bytes)) (length-padded bytes))
    ∙ take_all (length c) c (omega arith) in
    (at, omega (arith, size, begins_length here), subst (λ (place : ℕ). StandFrom whole place cs) size (pieces_stand (padded bytes ++ c) cs whole begins))

-- also in bytes that are the same from the 64th on
pub stand_also : (cs : List (List ℕ)) (place : ℕ) (bytes others : List ℕ) → length others ≡ length bytes → ((p n : ℕ) → 64 ≤ p → bytes_from p n others ≡ bytes_from p n bytes) → 64 ≤ place → StandFrom bytes place cs → StandFrom others place cs
stand_also [] place bytes others size same behind stands = tt
stand_also (c ∷ cs) place bytes others size same behind stands =
    let later : 64 ≤ start_at place = omega arith in
    (same (start_at place) (length c) later ∙ stands.0, omega (arith, size, stands.1), stand_also cs (start_at place + length c) bytes others size same (omega arith) stands.2)
