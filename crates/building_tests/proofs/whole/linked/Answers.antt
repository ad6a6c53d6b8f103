use Rattle.std.proofs.Common.{◌∷◌, [], map, sym, subst, ◌∙◌}
use Rattle.std.proofs.lemmas.List.{length-map}
use Rattle.std.specs.Arc.{arc_value}
use Rattle.index_model.specs.declared.shard.Linked.{Linked}
use Rattle.qualified_names.specs.Files.{AreLinkedOfFile}
use Rattle.qualified_names.proofs.RunLaws.{one_run}
use Rattle.building_tests.proofs.whole.linked.Goals as goal

pub returns : goal.returns
returns c =
    let im = c.args.image.now in
    let shards = map arc_value c.args.shards.now in
    let r = c.requires.of_file in
    subst (λ (l : Linked). AreLinkedOfFile im shards (l ∷ [])) (sym c.in_ok-new.ensures.ok) (one_run im shards c.in_ok-linked.linked (length-map c.args.shards.now arc_value ∙ c.requires.one) r (c.in_ok-linked.ensures r.program r.is r.are))
