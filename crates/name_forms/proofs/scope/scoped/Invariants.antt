use Rattle.std.proofs.Common.{◌≡◌, ◌++◌, reverse}
use Rattle.std.specs.Iterator.Adapters.{rev_source}
use Rattle.std.specs.Slice.Iter.{iter_rest}
use Rattle.name_forms.specs.Scoped.{parts}
use Rattle.name_forms.proofs.ScopeLaws.{prefix}
use Rattle.name_forms.proofs.scope.scoped.Given as goal

abbrev pub invariant-loop-member : goal.invariant-loop-member
invariant-loop-member l = l.text.items ++ prefix (reverse (parts (iter_rest (rev_source l.member-iterator)))) ≡ prefix (reverse (parts l.fn.path))
