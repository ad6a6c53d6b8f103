-- What was sorted and numbered is the constant pool of the index.
use Rattle.std.proofs.Common.{◌≡◌, ℕ, ◌+◌, ◌*◌, ◌^◌, ◌<◌, not, cond, List, [], ◌∷◌, length, get_or, map, refl, sym, ap, ◌∙◌, arith}
use mathlib.Core.Bool.{◌&&◌}
use Rattle.std.specs.Prelude.{filter, nat_lt, All, bytes_eq, slice_range}
use Rattle.std.proofs.lemmas.List.{map-id}
use Rattle.std.proofs.lemmas.List.Elements.{All-filter, All-head, All-tail}
use Rattle.std.proofs.lemmas.List.FromFn.{get_or-map-range_with_len, length-map-range_with_len}
use Rattle.common_laws.proofs.Filters.{filter_both, map_map}
use Rattle.index_model.specs.declared.entry.Entry.{Entry}
use Rattle.index_model.specs.declared.unit.Unit.{Unit as UnitHeader}
use Rattle.index_model.specs.Layout.{below}
use Rattle.index_model.specs.Answers.{is_named}
use Rattle.index_model.specs.Ordered.{ascending, distinct, place_of}
use Rattle.index_model.specs.GdbIndex.{pool_of, index_names, index_number, vector, element, kind_number}
use Rattle.gdbindex_write.specs.declared.symbols.Symbol.{Symbol}
use Rattle.gdbindex_write.specs.declared.symbols.Symbols.{Symbols}
use Rattle.gdbindex_write.specs.declared.vectors.Vectors.{Vectors}
use Rattle.gdbindex_write.specs.Elements.{element_by, vector_by}
use Rattle.gdbindex_write.specs.Pools.{pool_seen, vectors_seen}
use Rattle.gdbindex_write.specs.Symbols.{Group, group_by, names_of, vectors_of, AreSymbolsOf}
use Rattle.gdbindex_write.specs.Vectors.{AreVectorsOf}
use Rattle.gdbindex_write.specs.Writable.{HasUnit}

-- ---- entries

pub all_in_units : (units : List UnitHeader) (numbers : List ℕ) (entries : List Entry) → length numbers ≡ length units → All (HasUnit units) entries → All (λ e. e.unit < length numbers) entries
all_in_units units numbers entries size all = λ k d lt. omega (arith, all k d lt, size)

pub numbers_length : (units : List UnitHeader) (numbers : List ℕ) → numbers ≡ map (index_number units) (below (length units)) → length numbers ≡ length units
numbers_length units numbers is = ap length is ∙ length-map-range_with_len (index_number units) 0 (length units)

module _ (units : List UnitHeader) (numbers : List ℕ) (numbers_are : numbers ≡ map (index_number units) (below (length units))) where
  number_of : (e : Entry) → HasUnit units e → get_or numbers e.unit 0 ≡ index_number units e.unit
  number_of e is = ap (λ (w : List ℕ). get_or w e.unit 0) numbers_are ∙ get_or-map-range_with_len (index_number units) 0 (length units) e.unit e.unit 0 is (omega arith)

  element_is : (e : Entry) → HasUnit units e → element_by numbers e ≡ element units e
  element_is e is = ap (λ (n : ℕ). n + kind_number e.kind * 2 ^ 28 + cond e.local (2 ^ 31) 0) (number_of e is)

  elements_are : (es : List Entry) → All (HasUnit units) es → map (element_by numbers) es ≡ map (element units) es
  elements_are [] all = refl
  elements_are (e ∷ es) all = λ i. element_is e (All-head (HasUnit units) e es all) i ∷ elements_are es (All-tail (HasUnit units) e es all) i

  -- the vector of a name's entries is that of the name
  pub vector_is : (entries : List Entry) → All (HasUnit units) entries → (n : List ℕ) → vector_by numbers (filter (is_named n) entries) ≡ vector units entries n
  unfolding vector
  vector_is entries all n =
      let plain : filter (λ e. not e.linkage) (filter (is_named n) entries) ≡ filter (λ e. not e.linkage && bytes_eq e.name n) entries = filter_both (λ e. not e.linkage) (is_named n) (λ e. not e.linkage && bytes_eq e.name n) entries (λ e _. refl) in
      let named = filter (λ e. not e.linkage && bytes_eq e.name n) entries in
      ap (λ w. ascending nat_lt (map (element_by numbers) w)) plain
      ∙ ap (ascending nat_lt) (elements_are named (All-filter (λ e. not e.linkage && bytes_eq e.name n) (HasUnit units) entries all))

-- ---- symbols

abbrev group_name : Group → List ℕ
group_name g = g.0

abbrev group_elements : Group → List ℕ
group_elements g = g.1

module _ (units : List UnitHeader) (entries : List Entry) (numbers : List ℕ) (symbols : Symbols) (are : AreSymbolsOf numbers entries symbols) (same : (n : List ℕ) → vector_by numbers (filter (is_named n) entries) ≡ vector units entries n) where
  pub own_names : names_of symbols.list.items ≡ index_names entries
  own_names =
      sym (map_map (λ (s : Symbol). (s.name.now, slice_range symbols.elements.items s.start s.end)) group_name symbols.list.items) ∙ ap (map group_name) are.are
      ∙ map_map (group_by numbers entries) group_name (index_names entries) ∙ map-id (index_names entries)

  pub own_vectors : vectors_of symbols.elements.items symbols.list.items ≡ map (vector units entries) (index_names entries)
  own_vectors =
      sym (map_map (λ (s : Symbol). (s.name.now, slice_range symbols.elements.items s.start s.end)) group_elements symbols.list.items) ∙ ap (map group_elements) are.are
      ∙ map_map (group_by numbers entries) group_elements (index_names entries) ∙ (λ i. map (λ n. same n i) (index_names entries))

  module _ (vectors : Vectors) (vectors_are_those : AreVectorsOf (vectors_of symbols.elements.items symbols.list.items) vectors) where
    pub own_pool : pool_seen symbols.list.items vectors.distinct.items ≡ pool_of units entries
    unfolding pool_of
    own_pool =
        let vs : vectors_seen vectors.distinct.items ≡ distinct bytes_eq (map (vector units entries) (index_names entries)) = vectors_are_those.distinct_are ∙ ap (distinct bytes_eq) own_vectors in
        (λ i. record { names = own_names i; vectors = vs i })

    pub own_numbers : vectors.numbers.items ≡ map (λ w. place_of bytes_eq w (pool_of units entries).vectors) (map (vector units entries) (pool_of units entries).names)
    unfolding pool_of
    own_numbers = vectors_are_those.numbers_are ∙ (λ i. map (λ w. place_of bytes_eq w (distinct bytes_eq (own_vectors i))) (own_vectors i))
