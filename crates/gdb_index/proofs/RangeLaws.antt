-- The entries of a range of units.
use Rattle.std.proofs.Common.{◌≡◌, ◌<◌, ℕ, suc, ◌+◌, List, [], ◌∷◌, ◌++◌, length, map, flat_map, take, append-nil, append_assoc, Ok, refl, sym, ap, subst, ◌∙◌, arith}
use Rattle.std.proofs.Math.Seq.{take-length}
use Rattle.std.proofs.lemmas.List.{map-append}
use Rattle.std.proofs.lemmas.List.Concat.{flat_map-append}
use Rattle.file_image.specs.Images.{Image, image_of}
use Rattle.index_model.specs.declared.entry.Entry.{Entry}
use Rattle.index_model.specs.Faults.{program_of}
use Rattle.index_model.specs.Program.{Program, Walked}
use Rattle.gdb_entries.specs.Entries.{as_listed, entries_of, entries_with, listed}
use Rattle.gdb_entries.specs.Owners.{owner_of}
use Rattle.gdb_index.specs.Listed.{listed_of}
use Rattle.gdb_scopes.specs.Places.{ForUnit}
use Rattle.gdb_index.specs.Ranges.{AreListed, listed_below}
use Rattle.shard_build.proofs.WalkOfUnit.{unit_with, walks_count}

-- ---- ranges

module _ (file : List ℕ) where
  -- no unit
  pub none_listed : (n : ℕ) → AreListed file n n []
  none_listed n p is = append-nil (listed_below p n)

  -- a range, and the one behind it
  pub both_listed : (first middle end : ℕ) (front back : List Entry) → AreListed file first middle front → AreListed file middle end back → AreListed file first end (front ++ back)
  both_listed first middle end front back low high p is =
      sym (append_assoc (listed_below p first) front back) ∙ ap (λ (es : List Entry). es ++ back) (low p is) ∙ high p is

  -- the same in runs
  pub runs_listed : (first middle end : ℕ) (front back both : List (List Entry)) → both ≡ front ++ back → AreListed file first middle (flat_map (λ run. run) front) → AreListed file middle end (flat_map (λ run. run) back) → AreListed file first end (flat_map (λ run. run) both)
  runs_listed first middle end front back both are low high =
      subst (AreListed file first end) (sym (ap (flat_map (λ (run : List Entry). run)) are ∙ flat_map-append (λ (run : List Entry). run) front back))
      (both_listed first middle end (flat_map (λ run. run) front) (flat_map (λ run. run) back) low high)

-- ---- units

below_more : (p : Program) (n : ℕ) (w : Walked) → take (suc n) p.walks ≡ take n p.walks ++ w ∷ [] → listed_below p (n + 1) ≡ listed_below p n ++ listed_of p w
unfolding listed_below
below_more p n w more =
    let next : n + 1 ≡ suc n = omega arith in
    let below : List Entry = flat_map (listed_of p) (take n p.walks) in
    ap (λ (k : ℕ). flat_map (listed_of p) (take k p.walks)) next ∙
    ap (flat_map (listed_of p)) more ∙
    flat_map-append (listed_of p) (take n p.walks) (w ∷ []) ∙
    ap (λ (es : List Entry). below ++ es) (append-nil (listed_of p w))

listed_parts : (p : Program) (ws : List Walked) → flat_map (listed_of p) ws ≡ map as_listed (flat_map (λ w. entries_with p (owner_of p w) w) ws)
listed_parts p [] = refl
listed_parts p (w ∷ ws) =
    ap (λ (es : List Entry). listed_of p w ++ es) (listed_parts p ws) ∙
    sym (map-append as_listed (entries_with p (owner_of p w) w) (flat_map (λ v. entries_with p (owner_of p v) v) ws))

all_below : (p : Program) → listed_below p (length p.walks) ≡ listed p
unfolding listed_below entries_of
all_below p = ap (flat_map (listed_of p)) (take-length p.walks) ∙ listed_parts p p.walks

none_below : (p : Program) → listed_below p 0 ≡ []
unfolding listed_below
none_below p = refl

module _ (im : Image) (image : image_of im.file ≡ Ok im) where
  -- one unit more
  pub next_listed : (first n : ℕ) (old new : List Entry) → n < length im.units → AreListed im.file first n old → ForUnit im.file n (λ p w. new ≡ old ++ listed_of p w) → AreListed im.file first (n + 1) new
  next_listed first n old new within are more p is =
      let w = unit_with im image p is n within in
      let own : List Entry = listed_of p w.walk in
      ap (λ (es : List Entry). listed_below p first ++ es) (more p is w.walk w.member (omega (arith, w.number))) ∙
      sym (append_assoc (listed_below p first) old own) ∙
      ap (λ (es : List Entry). es ++ own) (are p is) ∙
      sym (below_more p n w.walk w.more)

  -- all units
  pub all_listed : (n : ℕ) (entries : List Entry) → n ≡ length im.units → AreListed im.file 0 n entries → (p : Program) → program_of im.file ≡ Ok p → entries ≡ listed p
  all_listed n entries all are p is =
      ap (λ (es : List Entry). es ++ entries) (sym (none_below p)) ∙ are p is ∙ ap (listed_below p) (all ∙ walks_count im image p is) ∙ all_below p
