use Rattle.std.proofs.Common.{◌≡◌, ◌++◌, sym, ◌∙◌}
use Rattle.std.proofs.lemmas.List.Elements.{All-take, All-drop}
use Rattle.debugnames_write.specs.declared.name.Name.{Name}
use Rattle.debugnames_write.specs.Laid.{pool_bytes}
use Rattle.debugnames_write.specs.Names.{HaveRows}
use Rattle.debugnames_write.proofs.PoolLaws.{pool_of_both}
use Rattle.debugnames_write.proofs.pool_halves.+pool.Goals as goal

pub pool_by_halves-pool_of_halves-requires-clause-low_rows : goal.pool_by_halves-pool_of_halves-requires-clause-low_rows
pool_by_halves-pool_of_halves-requires-clause-low_rows g t c κs within = rw c.split_at.ensures.front (All-take (λ (n : Name). HaveRows c.args.abbreviations.now n.items.now) _ c.args.names.now c.requires)

pub pool_by_halves-pool_of_halves-requires-clause-high_rows : goal.pool_by_halves-pool_of_halves-requires-clause-high_rows
pool_by_halves-pool_of_halves-requires-clause-high_rows g t c κs within = rw c.split_at.ensures.back (All-drop (λ (n : Name). HaveRows c.args.abbreviations.now n.items.now) _ c.args.names.now c.requires)

pub pool_of_halves-returns : goal.pool_of_halves-returns
pool_of_halves-returns g t c =
    let rows = c.args.abbreviations.now in
    let front : c.in_ok-pool.pool.items ≡ pool_bytes rows c.args.low.now = rw c.in_ok-pool.was at c.join-front.ensures.first in
    let back : c.in_ok-behind.behind.items ≡ pool_bytes rows c.args.high.now = rw c.in_ok-behind.was at c.join-front.ensures.second in
    c.in_ok-append.ensures.items ∙ (λ i. front i ++ back i) ∙ sym (pool_of_both rows c.args.low.now c.args.high.now)
