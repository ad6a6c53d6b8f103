-- Entry formats are read one after the other.
use Rattle.std.proofs.Common.{◌≡◌, ℕ, suc, List, [], ◌∷◌, ◌++◌, Ok, refl}
use Rattle.ix_base.specs.Reading.{Input}
use Rattle.reach_model.specs.declared.line_table.Format.{Format}
use Rattle.reach_model.specs.LineTables.{format_behind, formats}

-- one more format
pub one_format : (n : ℕ) (earlier : List Format) (i next : Input) (f : Format) → format_behind earlier i ≡ Ok (f, next) → formats (suc n) earlier i ≡ formats n (earlier ++ f ∷ []) next
unfolding formats
one_format n earlier i next f e = rw e refl
