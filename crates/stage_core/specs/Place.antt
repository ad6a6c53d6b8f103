-- What contracts see of a job's place.
use Rattle.index_model.specs.Machine.{JobPlace}
use Rattle.stage_core.specs.declared.place.Place.{Place}

-- the place
abbrev pub place_seen : Place → JobPlace
place_seen p = record { kind = p.kind; number = p.number }
