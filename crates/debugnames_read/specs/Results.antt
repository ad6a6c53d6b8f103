-- What has no fault.
use Rattle.std.specs.Prelude.{List, [], Result, Ok, Err}
use Rattle.ix_base.specs.declared.fault.Fault.{Fault}

-- the list that has no fault
abbrev pub list_in : {A : Type 0} → Result (List A) Fault → List A
list_in (Ok xs) = xs
list_in (Err e) = []
