-- Texts that rise by their bytes.
use Rattle.std.proofs.Common.{ℕ, List, get_or}
use Rattle.std.specs.Prelude.{bytes_eq}
use Rattle.std.specs.List.{IsDistinct}
use Rattle.std.proofs.lemmas.Map.Keys.{IsDistinct-from_apart}
use Rattle.index_model.specs.Ordered.{bytes_lt}
use Rattle.query_engine.proofs.TextOrder.{eq_from_other}
use Rattle.index_model.specs.Order.{Rises}
use Rattle.index_model.proofs.Orders.{bytes_order, pairs_from_rises}

-- texts that rise are distinct
pub rising_distinct : (xs : List (List ℕ)) → Rises bytes_lt xs → IsDistinct bytes_eq xs
rising_distinct xs r = IsDistinct-from_apart bytes_eq xs (λ i j d lt to.
    eq_from_other (get_or xs i d) (get_or xs j d) (λ same. bytes_order.itself (get_or xs j d) (rw same at (pairs_from_rises bytes_lt xs r i j d lt to))))
