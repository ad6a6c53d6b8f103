use Rattle.std.proofs.Common.{◌≡◌, drop}
use Rattle.std.specs.Prelude.{nat_lt}
use Rattle.std.specs.List.{list_all}
use Rattle.index_model.specs.GdbIndexRead.{unit_in}
use Rattle.gdbindex_read.proofs.elements.Elements.are_of.Given as goal

-- whether all are of units is what the elements that are left say
abbrev pub invariant-loop-i : goal.invariant-loop-i
invariant-loop-i l = list_all (λ e. nat_lt (unit_in e) l.units) (drop l.i l.self) ≡ list_all (λ e. nat_lt (unit_in e) l.units) l.self
