-- A table that begins past its section has no length.
use Rattle.std.proofs.Common.{◌≡◌, ◌≤◌, ◌<◌, ℕ, List, length, Err, refl, arith}
use Rattle.std.proofs.lemmas.List.{drop_all}
use Rattle.ix_base.specs.Reading.{initial_length}
use Rattle.reach_model.specs.declared.code.TheConstants.{LINES_LENGTH}
use Rattle.reach_model.specs.LineTables.{own_bytes}

pub own_past : (lines : List ℕ) (place : ℕ) → length lines < place → own_bytes lines place ≡ Err LINES_LENGTH
unfolding own_bytes initial_length
own_past lines place past =
    let le : length lines ≤ place = omega arith in
    rw (drop_all place lines le) refl
