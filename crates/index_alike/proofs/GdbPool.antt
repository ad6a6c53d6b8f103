-- Names and vectors read back from the constant pool.
use Rattle.std.proofs.Common.{◌≡◌, ℕ, ◌+◌, ◌*◌, ◌^◌, ◌<◌, ◌≤◌, Bool, true, false, not, ◌&&◌, leb, cond, List, [], ◌∷◌, length, get_or, take, drop, map, Option, Some, None, refl, sym, ap, ◌∙◌, subst, arith, ⊎_elim, zero-add}
use Rattle.std.specs.Prelude.{flat_map, bytes_eq, All, Contains, filter, sum_by}
use Rattle.std.proofs.lemmas.List.{length-append, take-map, map-id}
use Rattle.std.proofs.lemmas.List.Concat.{length-flat_map}
use Rattle.std.proofs.lemmas.List.Folds.{fold-map}
use Rattle.std.proofs.lemmas.Slice.Eq.{bytes_eq-Decides}
use Rattle.std.proofs.lemmas.Bool.{le-leb}
use Rattle.common_laws.proofs.Members.{contains_here, contains_later, contains_cases, to_map, to_filter}
use Rattle.ix_base.specs.Reading.{before_zero}
use Rattle.index_model.specs.declared.entry.Entry.{Entry}
use Rattle.index_model.specs.declared.unit.Unit.{Unit as UnitHeader}
use Rattle.index_model.specs.Layout.{below, field, u32_bytes, ended, start_of}
use Rattle.index_model.specs.Ordered.{distinct, place_of}
use Rattle.index_model.specs.GdbIndex.{Pool, pool_of, pool_bytes, name_place, vector_place, vector_bytes, vector, index_names}
use Rattle.index_model.specs.GdbAreas.{Areas, string_at, vector_at}
use Rattle.index_model.proofs.IndexSizes.{size_4}
use Rattle.index_alike.proofs.GdbPlaces.{Stands, from_there, is_within, stands_in, field_is, stands_first, stands_last, stands_at, stands_item, stands_item_of, length_is, map_below, by_places}
use Rattle.index_alike.proofs.GdbPositions.{place_in, HasNoZero, text_reads}

start_is : {X : Type 0} (f : X → List ℕ) (xs : List X) (k : ℕ) → length (flat_map f (take k xs)) ≡ start_of (map f xs) k
start_is f xs k = length-flat_map f (take k xs) ∙ sym (ap (sum_by length) (take-map f k xs) ∙ fold-map (λ (n : ℕ) (w : List ℕ). n + length w) f 0 (take k xs))

module _ (pool : Pool) where
  abbrev vectors : List ℕ
  vectors = flat_map vector_bytes pool.vectors

  abbrev texts : List ℕ
  texts = flat_map ended pool.names

  pub name_stands : (name : List ℕ) → Contains pool.names name → Stands (name_place pool name) (ended name) (pool_bytes pool)
  name_stands name c =
      let k : ℕ = place_of bytes_eq name pool.names in
      let p = place_in name pool.names c in
      let item : Stands (length (flat_map ended (take k pool.names))) (ended name) texts = subst (λ (t : List ℕ). Stands (length (flat_map ended (take k pool.names))) (ended t) texts) p.there (stands_item ended pool.names k [] p.within) in
      stands_at (ap (λ (n : ℕ). length vectors + n) (start_is ended pool.names k)) (stands_in (stands_last vectors texts) item)

  pub vector_stands : (v : List ℕ) → Contains pool.vectors v → Stands (vector_place pool v) (vector_bytes v) (pool_bytes pool)
  vector_stands v c =
      let k : ℕ = place_of bytes_eq v pool.vectors in
      let p = place_in v pool.vectors c in
      let item : Stands (length (flat_map vector_bytes (take k pool.vectors))) (vector_bytes v) vectors = subst (λ (t : List ℕ). Stands (length (flat_map vector_bytes (take k pool.vectors))) (vector_bytes t) vectors) p.there (stands_item vector_bytes pool.vectors k [] p.within) in
      stands_at (zero-add (length (flat_map vector_bytes (take k pool.vectors))) ∙ start_is vector_bytes pool.vectors k) (stands_in (stands_first vectors texts) item)

  -- names stand behind the vectors
  pub name_behind : (name v : List ℕ) → Contains pool.vectors v → 4 ≤ name_place pool name
  name_behind name v c =
      let p = place_in v pool.vectors c in
      let within = is_within (stands_item vector_bytes pool.vectors (place_of bytes_eq v pool.vectors) [] p.within) in
      omega (arith, within, length-append (u32_bytes (length (get_or pool.vectors (place_of bytes_eq v pool.vectors) []))) (flat_map u32_bytes (get_or pool.vectors (place_of bytes_eq v pool.vectors) [])), size_4 (length (get_or pool.vectors (place_of bytes_eq v pool.vectors) [])))

-- ---- strings and vectors at places

module _ (a : Areas) (bytes : List ℕ) (is : a.pool.rest ≡ bytes) (small : length bytes < 2 ^ 32) where
  pub string_is : (at : ℕ) (text : List ℕ) → HasNoZero text → Stands at (ended text) bytes → string_at a at ≡ Some text
  string_is at text none s =
      let inside : leb at (length bytes) ≡ true = le-leb at (length bytes) (omega (arith, is_within s)) in
      ap (λ (w : List ℕ). cond (leb at (length w)) (before_zero (drop at w)) None) is
      ∙ ap (λ (b : Bool). cond b (before_zero (drop at bytes)) None) inside
      ∙ ap before_zero (from_there s) ∙ text_reads text s.behind none

  vector_size : (v : List ℕ) → length (vector_bytes v) ≡ 4 + 4 * length v
  vector_size v = length-append (u32_bytes (length v)) (flat_map u32_bytes v) ∙ (λ i. size_4 (length v) i + length_is u32_bytes 4 size_4 v i)

  abbrev read_vector : List ℕ → ℕ → ℕ → Option (List ℕ)
  read_vector w at count =
      let elements = map (λ k. field 4 (at + 4 + 4 * k) w) (below (cond (leb (4 * count) (length w)) count 0)) in
      cond (leb (at + 4) (length w) && leb (at + 4 + 4 * count) (length w)) (Some elements) None

  pub vector_is : (at : ℕ) (v : List ℕ) → All (λ e. e < 2 ^ 32) v → Stands at (vector_bytes v) bytes → vector_at a at ≡ Some v
  vector_is at v low s =
      let within : at + (4 + 4 * length v) ≤ length bytes = omega (arith, is_within s, vector_size v) in
      let head : Stands (at + 0) (u32_bytes (length v)) bytes = stands_in s (stands_first (u32_bytes (length v)) (flat_map u32_bytes v)) in
      let count : field 4 at bytes ≡ length v = field_is 4 (length v) at (stands_at (let e : at + 0 ≡ at = omega arith in e) head) (omega (arith, within, small)) in
      let enough : leb (4 * length v) (length bytes) ≡ true = le-leb (4 * length v) (length bytes) (omega (arith, within)) in
      let first : leb (at + 4) (length bytes) ≡ true = le-leb (at + 4) (length bytes) (omega (arith, within)) in
      let last : leb (at + 4 + 4 * length v) (length bytes) ≡ true = le-leb (at + 4 + 4 * length v) (length bytes) (omega (arith, within)) in
      ap (λ (w : List ℕ). read_vector w at (field 4 at w)) is
      ∙ ap (read_vector bytes at) count
      ∙ (λ i. cond (first i && last i) (Some (map (λ k. field 4 (at + 4 + 4 * k) bytes) (below (cond (enough i) (length v) 0)))) None)
      ∙ ap (λ (w : List ℕ). Some w) (map_below 0 (λ k. field 4 (at + 4 + 4 * k) bytes) (λ k. get_or v k 0) (length v) each ∙ by_places (λ (e : ℕ). e) v 0 ∙ map-id v)
    where
      each : (k : ℕ) → k < length v → field 4 (at + 4 + 4 * k) bytes ≡ get_or v k 0
      each k lt =
          let place : at + (length (u32_bytes (length v)) + 4 * k) ≡ at + 4 + 4 * k = omega (arith, size_4 (length v)) in
          field_is 4 (get_or v k 0) (at + 4 + 4 * k) (stands_at place (stands_in s (stands_in (stands_last (u32_bytes (length v)) (flat_map u32_bytes v)) (stands_item_of u32_bytes 4 size_4 v k 0 lt)))) (omega (arith, low k 0 lt))

-- ---- the pool of a file

-- what is in a list is among its distinct items
pub in_distinct : (xs : List (List ℕ)) (y : List ℕ) → Contains xs y → Contains (distinct bytes_eq xs) y
unfolding distinct
in_distinct [] y c = absurd (omega (arith, c.1))
in_distinct (x ∷ xs) y c = ⊎_elim here (λ (l : Contains xs y). by (bytes_eq x y) refl (in_distinct xs y l)) (contains_cases x xs y c)
  where
    here : x ≡ y → Contains (x ∷ filter (λ y. not (bytes_eq x y)) (distinct bytes_eq xs)) y
    here e = subst (Contains (x ∷ filter (λ y. not (bytes_eq x y)) (distinct bytes_eq xs))) e (contains_here x (filter (λ y. not (bytes_eq x y)) (distinct bytes_eq xs)))

    by : (b : Bool) → bytes_eq x y ≡ b → Contains (distinct bytes_eq xs) y → Contains (x ∷ filter (λ y. not (bytes_eq x y)) (distinct bytes_eq xs)) y
    by true e l = here ((bytes_eq-Decides x y).0 e)
    by false e l = contains_later x (filter (λ y. not (bytes_eq x y)) (distinct bytes_eq xs)) y (to_filter (λ y. not (bytes_eq x y)) (distinct bytes_eq xs) y l (ap not e))

pub names_of_pool : (units : List UnitHeader) (entries : List Entry) → (pool_of units entries).names ≡ index_names entries
unfolding pool_of
names_of_pool units entries = refl

-- the vector of each name of an index is among its vectors
pub has_vector : (units : List UnitHeader) (entries : List Entry) (name : List ℕ) → Contains (pool_of units entries).names name → Contains (pool_of units entries).vectors (vector units entries name)
unfolding pool_of
has_vector units entries name c = in_distinct (map (vector units entries) (index_names entries)) (vector units entries name) (to_map (vector units entries) (index_names entries) name c)
