use Rattle.std.proofs.Common.{◌≡◌, ◌<◌, ◌∷◌, ◌++◌, [], length, get_or, sym, ap, ◌∙◌, arith}
use Rattle.std.proofs.Math.ListN.{get_or-map}
use Rattle.std.proofs.lemmas.List.{length-map, map-append}
use Rattle.reach_model.specs.LineTables as meant
use Rattle.line_files.specs.Found.{hit_seen, hits_seen}
use Rattle.line_files.specs.Runs.{in_unit}
use Rattle.line_files.proofs.RepeatLaws.{index_within, one_repeated}
use Rattle.line_files.proofs.run.repeat.Goals as goal

pub index-requires : goal.index-requires
index-requires c =
    let old = hits_seen c.args.hits.now.items in
    let now = hits_seen c.hits.hits.items in
    let high : c.hits.index < length old = omega (arith, c.hits-test.true, c.len-end.ensures, c.args.hits.now.ok.0, length-map c.args.hits.now.items hit_seen) in
    let within = index_within old now c.args.unit c.args.first c.hits.index c.hits.auto.index high c.hits.invariant in
    omega (arith, within, c.hits.hits.ok.0, length-map c.hits.hits.items hit_seen)

pub hits-preserved : goal.hits-preserved
hits-preserved c =
    let old = hits_seen c.args.hits.now.items in
    let now = hits_seen c.hits.hits.items in
    let hit = c.index.result.now in
    let high : c.hits.index < length old = omega (arith, c.hits-test.true, c.len-end.ensures, c.args.hits.now.ok.0, length-map c.args.hits.now.items hit_seen) in
    let here : hit_seen hit ≡ get_or now c.hits.index (hit_seen hit) = ap hit_seen c.index.ensures ∙ sym (get_or-map hit_seen c.hits.hits.items c.hits.index hit) in
    let more = one_repeated old now c.args.unit c.args.first c.hits.index c.hits.auto.index high c.hits.invariant (hit_seen hit) in
    rw c.in_ok-push.ensures.items (map-append hit_seen c.hits.hits.items _ ∙ ap (λ (h : meant.FileHit). now ++ in_unit c.args.unit h ∷ []) here ∙ more)
