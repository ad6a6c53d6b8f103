use Rattle.std.proofs.Common.{◌≡◌, length, map, refl}
use Rattle.std.proofs.lemmas.List.{length-map}
use Rattle.common_laws.proofs.Appended.{flat_map-map}
use Rattle.line_files.specs.Found.{hit_seen}
use Rattle.reach_model.specs.FileTexts.{text_of_hit, text_of_hits}
use Rattle.files_command.proofs.text.hits_text.Goals as goal

pub returns : goal.returns
unfolding text_of_hits
returns c =
    let same : length (map hit_seen c.args.hits.now) ≡ length c.args.hits.now = length-map c.args.hits.now hit_seen in
    rw (c.in_ok-push_hits.ensures, c.in_ok-text.ensures, same, flat_map-map text_of_hit hit_seen c.args.hits.now) refl
