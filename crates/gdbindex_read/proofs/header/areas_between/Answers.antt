use Rattle.std.proofs.Common.{◌≡◌, ℕ, ◌+◌, ◌*◌, ◌≤◌, length, ap, sym, ◌∙◌, arith}
use Rattle.gdbindex_read.specs.declared.header.Version.{Version}
use Rattle.gdbindex_read.specs.declared.header.Version.TheVariants.{Eight, Nine}
use Rattle.gdbindex_read.specs.Header.{header_length, offset_at, pool_field}
use Rattle.gdbindex_read.proofs.Offsets.{areas_are, areas_made, areas_of, length-area}
use Rattle.ix_base.specs.Reading.{Input}
use Rattle.gdbindex_read.proofs.header.areas_between.Goals as goal

long : (n : ℕ) (v : Version) → header_length v ≤ n → 24 ≤ n
long n Eight le = le
long n Nine le = omega (arith, le)

few_offsets : (v : Version) → pool_field v ≤ 5
few_offsets Eight = omega arith
few_offsets Nine = omega arith

pool_inside : (n : ℕ) (v : Version) → header_length v ≤ n → 4 * pool_field v + 8 ≤ n
pool_inside n Eight le = le
pool_inside n Nine le = le

pub offset_at-cus-requires : goal.offset_at-cus-requires
offset_at-cus-requires c = record { few = omega arith; inside = omega (arith, long (length c.args.section.now) c.args.version c.requires.whole) }

pub offset_at-types-requires : goal.offset_at-types-requires
offset_at-types-requires c = record { few = omega arith; inside = omega (arith, long (length c.args.section.now) c.args.version c.requires.whole) }

pub offset_at-addresses-requires : goal.offset_at-addresses-requires
offset_at-addresses-requires c = record { few = omega arith; inside = omega (arith, long (length c.args.section.now) c.args.version c.requires.whole) }

pub offset_at-table-requires : goal.offset_at-table-requires
offset_at-table-requires c = record { few = omega arith; inside = omega (arith, long (length c.args.section.now) c.args.version c.requires.whole) }

pub offset_at-shortcut-requires : goal.offset_at-shortcut-requires
offset_at-shortcut-requires c = record { few = omega arith; inside = omega (arith, long (length c.args.section.now) c.args.version c.requires.whole) }

pub offset_at-pool-requires : goal.offset_at-pool-requires
offset_at-pool-requires c = record {
  few = omega (arith, c.pool_field.ensures, few_offsets c.args.version);
  inside = omega (arith, c.pool_field.ensures, pool_inside (length c.args.section.now) c.args.version c.requires.whole);
}

pub between-requires : goal.between-requires
between-requires c = record {
  order = omega (arith, c.requires.types, c.offset_at-cus.ensures.value, c.offset_at-types.ensures.value);
  inside = omega (arith, c.requires.addresses, c.requires.table, c.requires.shortcut, c.requires.pool, c.requires.end, c.offset_at-types.ensures.value);
}

pub between-requires-2 : goal.between-requires-2
between-requires-2 c = record {
  order = omega (arith, c.requires.addresses, c.offset_at-types.ensures.value, c.offset_at-addresses.ensures.value);
  inside = omega (arith, c.requires.table, c.requires.shortcut, c.requires.pool, c.requires.end, c.offset_at-addresses.ensures.value);
}

pub between-requires-3 : goal.between-requires-3
between-requires-3 c = record {
  order = omega (arith, c.requires.table, c.offset_at-addresses.ensures.value, c.offset_at-table.ensures.value);
  inside = omega (arith, c.requires.shortcut, c.requires.pool, c.requires.end, c.offset_at-table.ensures.value);
}

pub between-requires-4 : goal.between-requires-4
between-requires-4 c = record {
  order = omega (arith, c.requires.shortcut, c.offset_at-table.ensures.value, c.offset_at-shortcut.ensures.value);
  inside = omega (arith, c.requires.pool, c.requires.end, c.offset_at-shortcut.ensures.value);
}

pub between-requires-5 : goal.between-requires-5
between-requires-5 c = record {
  order = omega (arith, c.requires.pool, c.offset_at-shortcut.ensures.value, c.offset_at-pool.ensures.value, ap (offset_at c.args.section.now) c.pool_field.ensures);
  inside = omega (arith, c.requires.end, c.offset_at-pool.ensures.value, ap (offset_at c.args.section.now) c.pool_field.ensures);
}

pub between-requires-6 : goal.between-requires-6
between-requires-6 c = record { order = omega (arith, c.requires.end, c.offset_at-pool.ensures.value, ap (offset_at c.args.section.now) c.pool_field.ensures); inside = omega arith }

pub returns-clause-small : goal.returns-clause-small
returns-clause-small c =
    let size = ap (λ (i : Input). length i.rest) c.between-4.ensures in
    omega (arith, size, length-area c.args.section.now c.offset_at-table.result c.offset_at-shortcut.result, c.offset_at-shortcut.ensures.small)

pub returns-clause-value : goal.returns-clause-value
returns-clause-value c =
    let section = c.args.section.now in
    let pool : c.offset_at-pool.result ≡ offset_at section (pool_field c.args.version) = c.offset_at-pool.ensures.value ∙ ap (offset_at section) c.pool_field.ensures in
    areas_made section c.offset_at-cus.result c.offset_at-types.result c.offset_at-addresses.result c.offset_at-table.result c.offset_at-shortcut.result c.offset_at-pool.result c.between.ensures c.between-2.ensures c.between-3.ensures c.between-4.ensures c.between-5.ensures c.between-6.ensures c.offset_at-cus.ensures.value c.offset_at-types.ensures.value c.offset_at-addresses.ensures.value c.offset_at-table.ensures.value c.offset_at-shortcut.ensures.value
    ∙ sym (areas_are section c.args.version ∙ ap (areas_of section) (sym pool))

pub returns-clause-shortcut : goal.returns-clause-shortcut
returns-clause-shortcut c = λ eight.
    let section = c.args.section.now in
    let size = ap (λ (i : Input). length i.rest) c.between-5.ensures in
    let same : c.offset_at-pool.result ≡ offset_at section 4 = c.offset_at-pool.ensures.value ∙ ap (offset_at section) (c.pool_field.ensures ∙ ap pool_field eight) in
    omega (arith, size, length-area section c.offset_at-shortcut.result c.offset_at-pool.result, same, c.offset_at-shortcut.ensures.value)
