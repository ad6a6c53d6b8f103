-- The abbreviations that are known by their codes.
use Rattle.std.specs.Prelude.{ℕ, ◌≡◌, ◌==◌, List, find, Option, Some, option_map}
use Rattle.std.specs.BTreeMap.{BTreeMap, get}
use Rattle.std.specs.Option.{option_or}
use Rattle.std.specs.Ordering.{nat_cmp}
use Rattle.index_model.specs.NameAbbreviations.{Abbreviation as AbbreviationOf}
use Rattle.debugnames_read.specs.declared.counting.FoundAbbreviation.{FoundAbbreviation}
use Rattle.debugnames_read.specs.declared.counting.KnownAbbreviation.{KnownAbbreviation}
use Rattle.debugnames_read.specs.declared.known.AbbreviationsByCode.{AbbreviationsByCode}
use Rattle.debugnames_read.specs.Abbreviations.{abbreviation_seen}

-- the first with a code
abbrev pub first_with : ℕ → List AbbreviationOf → Option AbbreviationOf
first_with code all = find (λ a. a.code == code) all

-- the abbreviation that is known
abbrev pub known_seen : KnownAbbreviation → AbbreviationOf
known_seen k = abbreviation_seen k.abbreviation

-- the abbreviation that was found
abbrev pub found_seen : FoundAbbreviation → AbbreviationOf
found_seen f = abbreviation_seen f.abbreviation

-- all are known but those that are left: what is kept of a code, else the first of those, is the first of all; nothing is said where nothing is kept
abbrev pub IsKnown : List AbbreviationOf → List AbbreviationOf → AbbreviationsByCode → Type 0
IsKnown left all k = (kept : BTreeMap ℕ KnownAbbreviation) (code : ℕ) → k.by_code ≡ Some kept → option_or (option_map known_seen (get nat_cmp kept code)) (first_with code left) ≡ first_with code all
