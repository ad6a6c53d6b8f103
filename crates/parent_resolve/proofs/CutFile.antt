-- The shards of consecutive runs that make up all units of a file.
use Rattle.std.proofs.Common.{◌≡◌, ℕ, ◌+◌, ◌*◌, ◌/◌, ◌<◌, ◌≤◌, List, [], ◌∷◌, ◌++◌, flat_map, length, take, drop, Result, Ok, Err, refl, sym, ap, subst, ◌∙◌, arith}
use Rattle.std.specs.Prelude.{IsOkAnd}
use Rattle.std.specs.List.{AllZip, enumerate_from}
use Rattle.std.proofs.lemmas.Grind.{flat_map-append}
use Rattle.std.proofs.lemmas.List.{append-nil}
use Rattle.std.proofs.lemmas.List.FromFn.{length-enumerate_from}
use Rattle.std.proofs.lemmas.Nat.{le-div}
use Rattle.std.proofs.Math.Nat.{div-le_of_le-mul, div-mul-le_self, mul-div_cancel, mul-le-mul_left, mul-le-mul_right, mul-zero, mul_comm, zero-div}
use Rattle.std.proofs.Math.Seq.{take-add, take-length}
use Rattle.ix_base.specs.declared.fault.Fault.{Fault}
use Rattle.index_model.specs.declared.shard.Shard.{Shard}
use Rattle.index_model.specs.declared.unit.Unit.{Unit as UnitHeader}
use Rattle.index_model.specs.Faults.{scanned}
use Rattle.index_model.specs.Meaning.{◌>>=◌, each}
use Rattle.index_model.specs.Program.{Walked}
use Rattle.index_model.specs.Shards.{StandsFor}
use Rattle.file_image.specs.Images.{Image, image_of}
use Rattle.shard_build.specs.Entries.{AreShardsOfFile}
use Rattle.shard_build.proofs.WholeFile.{program_is}

abbrev Numbered : Type 0
Numbered = ℕ × UnitHeader

-- ---- lists

unit_law : {A : Type 0} (r : Result A Fault) → r ≡ (r >>= λ x. Ok x)
unit_law (Ok x) = refl
unit_law (Err e) = refl

module _ {A B : Type 0} (g : A → Result B Fault) where
  -- of two lists come what both give, or the first that is wrong
  each-append : (xs ys : List A) → each g (xs ++ ys) ≡ (each g xs >>= λ front. each g ys >>= λ back. Ok (front ++ back))
  each-append [] ys = unit_law (each g ys)
  each-append (x ∷ xs) ys = by (g x) (each g xs) (each g ys) (each g (xs ++ ys)) (each-append xs ys)
    where
      by : (r : Result B Fault) (front back both : Result (List B) Fault) → both ≡ (front >>= λ fs. back >>= λ bs. Ok (fs ++ bs)) →
          (r >>= λ y. both >>= λ zs. Ok (y ∷ zs)) ≡ ((r >>= λ y. front >>= λ zs. Ok (y ∷ zs)) >>= λ fs. back >>= λ bs. Ok (fs ++ bs))
      by (Err e) front back both is = refl
      by (Ok y) (Err e) back both is = rw is refl
      by (Ok y) (Ok fs) (Err e) both is = rw is refl
      by (Ok y) (Ok fs) (Ok bs) both is = rw is refl

  pub each_of_two : (xs ys : List A) (front back : List B) → each g xs ≡ Ok front → each g ys ≡ Ok back → each g (xs ++ ys) ≡ Ok (front ++ back)
  each_of_two xs ys front back is more = rw (each-append xs ys, is, more) refl

zip_more : {A B : Type 0} (R : A → B → Type 0) (xs : List A) (ys : List B) (x : A) (y : B) → AllZip R xs ys → R x y → AllZip R (xs ++ x ∷ []) (ys ++ y ∷ [])
zip_more R [] [] x y h r = (r, tt)
zip_more R [] (v ∷ vs) x y h r = absurd h
zip_more R (u ∷ us) [] x y h r = absurd h
zip_more R (u ∷ us) (v ∷ vs) x y h r = (h.0, zip_more R us vs x y h.1 r)

joined : (runs : List (List Walked)) (run : List Walked) → flat_map (λ r. r) (runs ++ run ∷ []) ≡ flat_map (λ r. r) runs ++ run
joined runs run = flat_map-append (λ (r : List Walked). r) runs (run ∷ []) ∙ ap (λ (ws : List Walked). flat_map (λ (r : List Walked). r) runs ++ ws) (append-nil run)

-- ---- where the runs begin

module _ (units count : ℕ) (some : 0 < count) where
  pub begins_at_none : units * 0 / count ≡ 0
  begins_at_none = ap (λ (n : ℕ). n / count) (mul-zero units) ∙ zero-div count

  pub begins_within : (k : ℕ) → k ≤ count → units * k / count ≤ units
  begins_within k h = div-le_of_le-mul count (subst (λ (n : ℕ). n ≤ count * units) (mul_comm k units) (mul-le-mul_right units h))

  pub begins_later : (k : ℕ) → units * k / count ≤ units * (k + 1) / count
  begins_later k =
      let more : units * k ≤ units * (k + 1) = mul-le-mul_left units (omega arith) in
      let below = div-mul-le_self (units * k) count in
      le-div (units * k / count) (units * (k + 1)) count some (omega (arith, more, below))

  pub begins_at_all : units * count / count ≡ units
  begins_at_all = mul-div_cancel units some

-- ---- runs

-- the shards stand for consecutive runs that make up the first n units
pub record StandForFirst (im : Image) (n : ℕ) (shards : List Shard) : Type 0 where
  pub runs : List (List Walked)
  pub all : each (scanned im.sections) (take n (enumerate_from 0 im.units)) ≡ Ok (flat_map (λ run. run) runs)
  pub stand : AllZip (StandsFor im.sections) shards runs

-- no shard stands for no unit
pub first_none : (im : Image) → StandForFirst im 0 []
first_none im = record { runs = []; all = refl; stand = tt }

-- one more shard stands for the next k units
pub first_more : (im : Image) (n k : ℕ) (shards : List Shard) (s : Shard) → StandForFirst im n shards → IsOkAnd (each (scanned im.sections) (take k (drop n (enumerate_from 0 im.units)))) (StandsFor im.sections s) → StandForFirst im (n + k) (shards ++ s ∷ [])
first_more im n k shards s h more = by_walks (each (scanned im.sections) (take k (drop n units))) refl more
  where
    units : List Numbered
    units = enumerate_from 0 im.units

    by_walks : (r : Result (List Walked) Fault) → each (scanned im.sections) (take k (drop n units)) ≡ r → IsOkAnd r (StandsFor im.sections s) → StandForFirst im (n + k) (shards ++ s ∷ [])
    by_walks (Err f) e stands = absurd stands
    by_walks (Ok ws) e stands = record {
      runs = h.runs ++ ws ∷ [];
      all = ap (λ (us : List Numbered). each (scanned im.sections) us) (take-add n k units)
          ∙ each_of_two (scanned im.sections) (take n units) (take k (drop n units)) (flat_map (λ (r : List Walked). r) h.runs) ws h.all e
          ∙ ap (λ (all : List Walked). Ok all) (sym (joined h.runs ws));
      stand = zip_more (StandsFor im.sections) shards h.runs s ws h.stand stands;
    }

-- shards that stand for all units are those of the file
pub cut_file : (im : Image) → image_of im.file ≡ Ok im → (n : ℕ) → n ≡ length im.units → (shards : List Shard) → StandForFirst im n shards → AreShardsOfFile im shards
cut_file im image n all shards h =
    let units : List Numbered = enumerate_from 0 im.units in
    let whole : take n units ≡ units = ap (λ (k : ℕ). take k units) (all ∙ sym (length-enumerate_from 0 im.units)) ∙ take-length units in
    record {
      program = record { sections = im.sections; walks = flat_map (λ (r : List Walked). r) h.runs };
      is = program_is im image (flat_map (λ (r : List Walked). r) h.runs) (ap (λ (us : List Numbered). each (scanned im.sections) us) (sym whole) ∙ h.all);
      are = record { runs = h.runs; all = refl; stand = h.stand };
    }
