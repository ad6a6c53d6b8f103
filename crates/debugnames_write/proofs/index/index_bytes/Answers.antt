use Rattle.std.proofs.Common.{◌≡◌, length, refl, ap, ◌∙◌, arith}
use Rattle.debugnames_write.specs.Laid.{laid_out, all_buckets}
use Rattle.debugnames_write.proofs.Assembly.{table_too_large, pool_too_large, all_too_large, size_is, assembled}
use Rattle.debugnames_write.proofs.Stops.{stopped}
use Rattle.debugnames_write.proofs.index.index_bytes.Goals as goal

pub returns-in_err-table_size : goal.returns-in_err-table_size
returns-in_err-table_size g c =
    stopped c.from_residual.result c.in_err-table_size.field-0.0 _ c.from_residual.ensures.1 c.in_err-table_size.ensures
    (λ pass. table_too_large c.args.units.now c.args.abbreviations.now c.args.names.now 4294967283 pass)

pub returns-in_err-pool : goal.returns-in_err-pool
returns-in_err-pool g c =
    stopped c.from_residual-in_err-pool.result c.in_err-pool.field-0.0 _ c.from_residual-in_err-pool.ensures.1 c.in_err-pool.ensures
    (λ pass. pool_too_large c.args.units.now c.args.abbreviations.now c.args.names.now 4294967283 pass)

pub returns-in_err-size : goal.returns-in_err-size
returns-in_err-size g c =
    stopped c.from_residual-in_err-size.result c.in_err-size.field-0.0 _ c.from_residual-in_err-size.ensures.1 c.in_err-size.ensures
    (λ pass. all_too_large c.args.units.now c.args.abbreviations.now c.args.names.now 4294967283 c.args.places.now c.requires.places c.in_ok-table_size.table_size c.in_ok-table_size.ensures.0 _ _ refl c.in_ok-pool.ensures.size pass)

pub returns : goal.returns
returns g c =
    let units = c.args.units.now in
    let rows = c.args.abbreviations.now in
    let names = c.args.names.now in
    let size = size_is units rows names 4294967283 c.args.places.now c.requires.places c.in_ok-table_size.table_size c.in_ok-table_size.ensures.0 _ _ c.in_ok-size.size refl c.in_ok-pool.ensures.size c.in_ok-size.ensures.0 in
    let same : c.push_tables.new.out.items ≡ laid_out c.args.units.now c.args.abbreviations.now c.args.names.now =
    assembled units rows names c.args.places.now c.in_ok-size.size c.in_ok-table_size.table_size (all_buckets names) c.deref.result.now c.requires.places c.in_ok-table_size.ensures.0 size
    refl (c.deref.ensures.value ∙ c.in_ok-pool.ensures.starts)
    _ _ _ _ _ c.in_ok-out.ensures.items c.in_ok-push_front.ensures refl refl c.in_ok-push_tables.ensures in
    let long = ap (λ w. length w) same in
    (same, omega (arith, long, size, c.in_ok-size.ensures.1))
