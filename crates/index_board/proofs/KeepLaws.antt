-- Kept parts stay.
use Rattle.std.proofs.Common.{◌≡◌, Option, Some, None, refl, ap, sym, ◌∙◌}
use Rattle.std.specs.Option.{option_or}
use Rattle.index_model.specs.Parts.{Parts}
use Rattle.index_board.specs.Kept.{Keeps, filled}
use Rattle.index_board.proofs.Fills.{parts_same}

module _ {A : Type 0} where
  or_itself : (o : Option A) → option_or o o ≡ o
  or_itself None = refl
  or_itself (Some x) = refl

  or_or : (o p q : Option A) → option_or (option_or o p) q ≡ option_or o (option_or p q)
  or_or None p q = refl
  or_or (Some x) p q = refl

filled_twice : (p q r : Parts) → filled (filled p q) r ≡ filled p (filled q r)
filled_twice p q r = parts_same _ _ _ _ _ _ _ _ (or_or p.summary q.summary r.summary) (or_or p.table q.table r.table) (or_or p.cache q.cache r.cache) (or_or p.fault q.fault r.fault)

pub keeps_all : (p : Parts) → Keeps p p
keeps_all p = parts_same _ _ _ _ _ _ _ _ (or_itself p.summary) (or_itself p.table) (or_itself p.cache) (or_itself p.fault)

pub keeps_more : (p q r : Parts) → Keeps p q → Keeps q r → Keeps p r
keeps_more p q r h k =
    ap (filled p) (sym k) ∙ (sym (filled_twice p q r) ∙ (ap (λ (x : Parts). filled x r) h ∙ k))

-- parts that were filled have all that was kept
pub keeps_filled : (p q : Parts) → Keeps p (filled p q)
keeps_filled p q = sym (filled_twice p p q) ∙ ap (λ (x : Parts). filled x q) (keeps_all p)
