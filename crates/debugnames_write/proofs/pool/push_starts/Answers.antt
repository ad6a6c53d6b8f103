use Rattle.std.proofs.Common.{◌≡◌, ℕ, List, length, ap, ◌∙◌, arith}
use Rattle.index_model.specs.NameIndex.{Row as IndexRow}
use Rattle.debugnames_write.specs.declared.name.Name.{Name}
use Rattle.debugnames_write.specs.Laid.{group_sizes}
use Rattle.debugnames_write.proofs.PoolLaws.{sizes_long, size_known, starts_none, starts_on, starts_pass, starts_all}
use Rattle.debugnames_write.proofs.Stops.{stopped}
use Rattle.debugnames_write.proofs.pool.push_starts.Goals as goal

-- as many names as sizes
many : (sizes : List ℕ) (rows : List IndexRow) (names : List Name) → sizes ≡ group_sizes rows names → length sizes ≡ length names
many sizes rows names are = ap length are ∙ sizes_long rows names

pub loop-size-init : goal.loop-size-init
loop-size-init c = record {
  made = λ rows names are. starts_none rows names c.args.starts.now.items c.requires;
  small = omega arith;
}

pub loop-size-preserved : goal.loop-size-preserved
loop-size-preserved c = record {
  made = λ rows names are.
      let lt = c.loop-size-test.true in
      rw c.in_ok-push.ensures.items (starts_on rows names c.loop-size.size-index c.loop-size.starts.items c.loop-size.end _ c.in_ok-end.end (omega (arith, many c.args.sizes.now rows names are, lt)) (size_known c.args.sizes.now rows names c.loop-size.size-index _ are lt) (c.loop-size.invariant.made rows names are) c.in_ok-end.ensures.0 c.in_ok-end.ensures.1);
  small = c.in_ok-end.ensures.1;
}

pub returns-in_err-end : goal.returns-in_err-end
returns-in_err-end c = λ rows names are.
    let lt = c.loop-size-test.true in
    stopped c.from_residual-in_err-end.result c.in_err-end.field-0.0 _ c.from_residual-in_err-end.ensures.1 c.in_err-end.ensures
    (λ pass. starts_pass rows names c.loop-size.size-index c.loop-size.starts.items c.loop-size.end _ (omega (arith, many c.args.sizes.now rows names are, lt)) (size_known c.args.sizes.now rows names c.loop-size.size-index _ are lt) (c.loop-size.invariant.made rows names are) pass)

pub returns : goal.returns
returns c = λ rows names are.
    starts_all rows names c.loop-size.size-index _ (omega (arith, many c.args.sizes.now rows names are, c.loop-size-test.false, c.loop-size.auto.size-index-end)) (c.loop-size.invariant.made rows names are)
