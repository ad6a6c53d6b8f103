-- The languages of the units that import others.
use Rattle.std.specs.Prelude.{◌≡◌, ℕ, nat_eq, Bool, true, ◌&&◌, List, Option, is_none}
use Rattle.std.specs.List.{list_any}
use Rattle.std.specs.Option.{option_or}
use Rattle.indexmap.specs.IndexMap.{IndexMap, get}
use Rattle.index_model.specs.declared.shard.Root.{Root}
use Rattle.index_model.specs.declared.shard.Shard.{Shard}
use Rattle.index_model.specs.ShardLanguages.{first_some, importing_in}

-- whether a root is that of a partial unit and has no language itself
abbrev pub takes_importers_language : Root → Bool
takes_importers_language root = root.partial && is_none root.language

-- whether some root of a shard is
abbrev pub any_takes_in : Shard → Bool
any_takes_in s = list_any takes_importers_language s.roots

-- whether some root of some shard is
abbrev pub any_takes : List Shard → Bool
any_takes shards = list_any any_takes_in shards

-- a map with what it had, and where it had nothing what is given
abbrev pub Adds : {S : Type 0} → (ℕ → Option ℕ) → IndexMap ℕ ℕ S → IndexMap ℕ ℕ S → Type 0
Adds given old new = (offset : ℕ) → get nat_eq new offset ≡ option_or (get nat_eq old offset) (given offset)

-- of each offset the map has the language of the first unit that has one itself and imports the entry there
abbrev pub HasImporters : {S : Type 0} → List Shard → IndexMap ℕ ℕ S → Type 0
HasImporters shards m = (offset : ℕ) → get nat_eq m offset ≡ first_some (importing_in offset) shards

-- it has so if some root is that of a partial unit without a language; else it isn't asked
abbrev pub AreImportersOf : {S : Type 0} → List Shard → IndexMap ℕ ℕ S → Type 0
AreImportersOf shards m = any_takes shards ≡ true → HasImporters shards m
