-- The places of a file's replies are those of its entries.
use Rattle.std.proofs.Common.{◌≡◌, ℕ, ◌+◌, ◌<◌, List, [], ◌∷◌, length, filter, get_or, Bool, true, false, ltb, leb, Result, Ok, Err, refl, ap, arith, ⊎_elim}
use Rattle.std.specs.Prelude.{All, Contains}
use Rattle.std.specs.List.{enumerate_from}
use Rattle.std.proofs.lemmas.List.Elements.{Contains-get_or}
use Rattle.common_laws.proofs.Members.{contains_cases, of_map, of_filter}
use Rattle.ix_base.specs.declared.fault.Fault.{Fault}
use Rattle.index_model.specs.declared.answer.CacheSize.{CacheSize}
use Rattle.index_model.specs.declared.entry.Entry.{Entry}
use Rattle.index_model.specs.Answers.{answer_to, entries_in, is_named, is_simply_named, places, reply_at, reply_of}
use Rattle.index_model.specs.Faults.{Built, built_of}
use Rattle.index_model.specs.Cache.{size_in}
use Rattle.index_model.specs.Outputs.{Subject}
use Rattle.index_model.specs.Queries.{Query, AskName, AskSimple, AskAddress, AskMain, AskCache, need_of}
use Rattle.index_board.specs.Marks.{file_reply}
use Rattle.query_text.specs.Places.{PlacesFit, PlacesFitAnswer}

below_count : (n : ℕ) (es : List Entry) (e : ℕ × Entry) → Contains (enumerate_from n es) e → e.0 < n + length es
below_count n [] e c = absurd (omega (arith, c.1))
below_count n (x ∷ xs) e c = ⊎_elim
    (λ (same : (n, x) ≡ e). let at : n ≡ e.0 = ap (λ (y : ℕ × Entry). y.0) same in omega (arith, at))
    (λ (later : Contains (enumerate_from (n + 1) xs) e). omega (arith, below_count (n + 1) xs e later))
    (contains_cases (n, x) (enumerate_from (n + 1) xs) e c)

places_fit : (test : Entry → Bool) (es : List Entry) → All (λ k. k < length es) (places test es)
places_fit test es i d lt =
    let m = of_map (λ (e : ℕ × Entry). e.0) (filter (λ (e : ℕ × Entry). test e.1) (enumerate_from 0 es)) (get_or (places test es) i d) (Contains-get_or (places test es) i d lt) in
    let f = of_filter (λ (e : ℕ × Entry). test e.1) (enumerate_from 0 es) m.0 m.1 in
    omega (arith, below_count 0 es m.0 f.0, m.2)

-- an answer of a file has places of its entries alone
pub answer_fits : (b : Built) (size : CacheSize) (q : Query) → PlacesFitAnswer (answer_to b size q)
unfolding answer_to
answer_fits b size (AskName n) = places_fit (is_named n) (entries_in b)
answer_fits b size (AskSimple n) = places_fit (is_simply_named n) (entries_in b)
answer_fits b size (AskAddress a) = tt
answer_fits b size AskMain = tt
answer_fits b size AskCache = tt

file_fits : (r : Result Built Fault) (size : CacheSize) (q : Query) → PlacesFit (reply_of r size q)
file_fits (Ok b) size q = answer_fits b size q
file_fits (Err f) size q = tt

by_stage : (r : Result Built Fault) (size : CacheSize) (q : Query) (n : ℕ) (below upto : Bool) → ltb n (need_of q) ≡ below → leb n 4 ≡ upto → PlacesFit (reply_at r size q n)
unfolding reply_at
by_stage r size q n true upto b u = rw b tt
by_stage r size q n false true b u = rw (b, u) (file_fits r size q)
by_stage r size q n false false b u = rw (b, u) tt

-- what a file replies at a stage has places of its entries
pub reply_fits : (s : Subject) (q : Query) (n : ℕ) → PlacesFit (file_reply s q n)
reply_fits s q n = by_stage (built_of s.file) (size_in s.cache (built_of s.file)) q n (ltb n (need_of q)) (leb n 4) refl refl
