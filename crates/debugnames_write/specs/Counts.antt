-- How many entries names have.
use Rattle.std.specs.Prelude.{ℕ}
use Rattle.query_engine.specs.declared.listing.ListedName.{ListedName}

-- how many entries the name has
abbrev pub count_of : ListedName → ℕ
count_of n = n.count
