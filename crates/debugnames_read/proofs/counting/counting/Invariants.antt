use Rattle.std.proofs.Common.{◌-◌, ◌++◌, map}
use Rattle.std.specs.Prelude.{IsOk}
use Rattle.index_model.specs.NameAbbreviations.{specs_at}
use Rattle.debugnames_read.specs.Specs.{first_in, spec_seen, specs_in}
use Rattle.debugnames_read.specs.Values.{kept_seen}
use Rattle.debugnames_read.proofs.CountingLaws.{SameValues, StandsFor}
use Rattle.debugnames_read.proofs.counting.counting.Given as goal

-- those that are listed and those that are left have the first values of all
abbrev pub invariant-attributes : goal.invariant-attributes
invariant-attributes l = record {
  ok : IsOk (specs_at 0 (l.end - l.counter) l.specs);
  same : SameValues (map spec_seen l.list.items ++ first_in (specs_at 0 (l.end - l.counter) l.specs)) (specs_in l.fn.specs);
  found : StandsFor (kept_seen l.found) (map spec_seen l.list.items);
}
