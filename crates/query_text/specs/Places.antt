-- What the places of a reply have to be.
use Rattle.std.specs.Prelude.{◌<◌, length, All}
use Rattle.index_model.specs.Answers.{Answer, Entries, InUnit, MainIs, CacheIs, Reply, Answered, Pending, Refused, Stopped}

-- each place of an answer is that of one of its entries
abbrev pub PlacesFitAnswer : Answer → Type 0
PlacesFitAnswer (Entries es ks) = All (λ k. k < length es) ks
PlacesFitAnswer (InUnit u) = Unit {0}
PlacesFitAnswer (MainIs m) = Unit {0}
PlacesFitAnswer (CacheIs size) = Unit {0}

-- each place of a reply is that of one of its entries
abbrev pub PlacesFit : Reply → Type 0
PlacesFit (Answered a) = PlacesFitAnswer a
PlacesFit Pending = Unit {0}
PlacesFit (Refused f) = Unit {0}
PlacesFit Stopped = Unit {0}
