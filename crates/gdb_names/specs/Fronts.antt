-- What contracts see of what scopes put before names.
use Rattle.std.specs.Prelude.{ℕ, List, option_map, unwrap_or}
use Rattle.cxx_spelling.specs.declared.release.Release.{Release}
use Rattle.cxx_spelling.specs.declared.release.Release.TheVariants.{Gdb13, Gdb16}
use Rattle.gdb_names.specs.declared.fronts.BothFronts.{BothFronts}

-- the text before names, as a release spells it
abbrev pub front_by : Release → BothFronts → List ℕ
front_by Gdb13 front = front.older.items
front_by Gdb16 front = unwrap_or (option_map (λ newer. newer.items) front.newer) front.older.items
