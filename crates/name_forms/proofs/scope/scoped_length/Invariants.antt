use Rattle.std.proofs.Common.{◌≡◌, ◌+◌, length, take, min}
use Rattle.name_forms.specs.Scoped.{parts}
use Rattle.name_forms.proofs.ScopeLaws.{prefix}
use Rattle.name_forms.proofs.scope.scoped_length.Given as goal

abbrev pub invariant-loop-member : goal.invariant-loop-member
invariant-loop-member l = l.length ≡ min 18446744073709551615 (length (prefix (parts (take l.member-index l.path))) + length l.name)
