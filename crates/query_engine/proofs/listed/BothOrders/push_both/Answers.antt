use Rattle.std.proofs.Common.{length, ap, refl, arith, length-append}
use Rattle.query_engine.specs.Listed.{merged}
use Rattle.query_engine.proofs.listed.BothOrders.push_both.Goals as goal

pub returns : goal.returns
returns c =
    let long = ap (λ w. length w) c.in_ok-push_merged.ensures in
    let sum = length-append c.args.listed.now.places.items (merged c.args.self.now.linkage.now c.args.named.now c.args.plain.now) in
    record {
      own = _;
      name_is = refl;
      count_is = omega (arith, long, sum);
      names = c.in_ok-push.ensures.items;
      places = c.in_ok-push_merged.ensures;
    }
