-- Where the index of a program is kept.
use Rattle.std.specs.Prelude.{◌≡◌, ℕ, List, Option, Some, None, Ok, option_map}
use Rattle.std.specs.String.{string_bytes}
use Rattle.ix_base.specs.declared.fault.Fault.{Fault}
use Rattle.file_image.specs.Images.{Image}
use Rattle.reach_model.specs.BuildIds.{build_id_of, cache_name}
use Rattle.cached_command.specs.Caches.{id_of, FaultsEarly}
use Rattle.cached_command.specs.declared.place.KeptFile.{KeptFile}

-- the build-id of a program, and the name of its index
pub record Spot : Type 0 where
  pub id : List ℕ
  pub name : List ℕ

-- the spot of this build-id in a store
abbrev pub spot_in : List ℕ → List ℕ → Spot
spot_in store id = record { id = id; name = cache_name store id }

abbrev pub place_seen : KeptFile → Spot
place_seen place = record { id = place.id.now; name = string_bytes place.name }

-- that of a program with this image, if it has a build-id
abbrev pub spot_of : Option Image → List ℕ → Option Spot
spot_of None store = None
spot_of (Some image) store = option_map (spot_in store) (build_id_of image.sections)

-- that of these bytes, which may have a fault of their sections or their units' headers
pub data IsSpotOf (file store : List ℕ) : Option Spot → Type 0 where
  early : (f : Fault) → FaultsEarly file f → IsSpotOf file store None
  nowhere : id_of file ≡ Ok None → IsSpotOf file store None
  here : (id : List ℕ) → id_of file ≡ Ok (Some id) → IsSpotOf file store (Some (spot_in store id))
