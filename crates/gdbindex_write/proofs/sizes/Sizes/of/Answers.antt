use Rattle.std.proofs.Common.{◌≡◌, ℕ, ◌-◌, ◌*◌, length, not, sym, ap, ◌∙◌, arith}
use Rattle.std.specs.Prelude.{count_by}
use Rattle.std.proofs.lemmas.List.{length-map}
use Rattle.index_model.specs.GdbIndex.{is_type_unit}
use Rattle.index_model.specs.GdbSlots.{slot_count}
use Rattle.gdbindex_write.specs.Pools.{vectors_seen}
use Rattle.gdbindex_write.specs.Sizes.{names_size, vectors_size}
use Rattle.gdbindex_write.specs.Symbols.{names_of}
use Rattle.gdbindex_write.proofs.NumberLaws.{both_counts}
use Rattle.gdbindex_write.proofs.sizes.Sizes.of.Goals as goal

pub returns-then-total-le-MAX_INDEX_BYTES-clause-sizes : goal.returns-then-total-le-MAX_INDEX_BYTES-clause-sizes
returns-then-total-le-MAX_INDEX_BYTES-clause-sizes c =
    let units = c.args.units.now in
    let plain : c.from-plain.result ≡ count_by (λ u. not (is_type_unit u)) units = c.from-plain.ensures ∙ c.count_plain.ensures in
    let first : 16 * c.from-plain.result ≡ 16 * count_by (λ u. not (is_type_unit u)) units = ap (λ (n : ℕ). 16 * n) plain in
    let types : 24 * (length units - c.from-plain.result) ≡ 24 * count_by is_type_unit units = omega (arith, plain, both_counts units) in
    let addresses : c.saturating_mul.result ≡ 20 * length c.args.pieces.now = omega (arith, c.saturating_mul.ensures, c.saturating_add.ensures, c.saturating_add-total.ensures, c.if-total-le-MAX_INDEX_BYTES.true) in
    let slots : 8 * c.slot_count.result ≡ 8 * slot_count (length (names_of c.args.symbols.now)) = ap (λ (n : ℕ). 8 * n) (c.slot_count.ensures.exact ∙ ap slot_count (sym (length-map c.args.symbols.now (λ s. s.name.now)))) in
    let vectors : c.vectors_size.result ≡ vectors_size (vectors_seen c.args.vectors.now) = omega (arith, c.vectors_size.ensures, c.saturating_add-total.ensures, c.if-total-le-MAX_INDEX_BYTES.true) in
    let names : c.names_size-names.result ≡ names_size (names_of c.args.symbols.now) = omega (arith, c.names_size-names.ensures.exact, c.if-names-gt-MAX_INDEX_BYTES.false) in
    (λ i. record { units = first i; types = types i; addresses = addresses i; slots = slots i; vectors = vectors i; names = names i })

pub returns-else-total-le-MAX_INDEX_BYTES-clause-too_large : goal.returns-else-total-le-MAX_INDEX_BYTES-clause-too_large
returns-else-total-le-MAX_INDEX_BYTES-clause-too_large c =
    let units = c.args.units.now in
    let plain : c.from-plain.result ≡ count_by (λ u. not (is_type_unit u)) units = c.from-plain.ensures ∙ c.count_plain.ensures in
    let slots : c.slot_count.result ≡ slot_count (length (names_of c.args.symbols.now)) = c.slot_count.ensures.exact ∙ ap slot_count (sym (length-map c.args.symbols.now (λ s. s.name.now))) in
    omega (arith, plain, both_counts units, slots, c.header_size.ensures, c.saturating_mul.ensures, c.saturating_add.ensures, c.saturating_add-total.ensures, c.vectors_size.ensures, c.names_size-names.ensures.exact, c.if-names-gt-MAX_INDEX_BYTES.false, c.if-total-le-MAX_INDEX_BYTES.false)
