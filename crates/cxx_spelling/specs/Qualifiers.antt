-- The qualifiers of types ([dcl.type.cv]), with `restrict`, which gdb takes for one.
use Rattle.std.specs.Prelude.{true, false}
use Rattle.cxx_spelling.specs.declared.qualifiers.Qualifier.{Qualifier}
use Rattle.cxx_spelling.specs.declared.qualifiers.Qualifier.TheVariants as one
use Rattle.cxx_spelling.specs.declared.qualifiers.Qualifiers.{Qualifiers}

abbrev pub no_qualifiers : Qualifiers
no_qualifiers = record { constant = false; volatile = false; restrict = false }

-- these qualifiers and one more
abbrev pub with_qualifier : Qualifiers → Qualifier → Qualifiers
with_qualifier set one.Const = record set { constant = true }
with_qualifier set one.Volatile = record set { volatile = true }
with_qualifier set one.Restrict = record set { restrict = true }
