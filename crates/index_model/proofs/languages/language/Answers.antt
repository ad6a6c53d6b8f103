use Rattle.std.proofs.Common.{map, subst, sym, ◌∙◌}
use Rattle.std.specs.Arc.{arc_value}
use Rattle.index_model.specs.ShardLanguages.{IsLanguageAt}
use Rattle.index_model.proofs.UnitLanguages.{some_right, none_right}
use Rattle.index_model.proofs.languages.language.Goals as goal

pub returns-in-Some : goal.returns-in-Some
returns-in-Some c =
    let shards = map arc_value c.args.shards.now in
    subst (IsLanguageAt shards c.args.unit) (sym c.unwrap_or.ensures) (some_right shards c.args.unit c.in-Some.root c.language_by_root.result (sym c.root_of.ensures ∙ c.in-Some.is) c.language_by_root.ensures)

pub returns-in-None : goal.returns-in-None
returns-in-None c = none_right (map arc_value c.args.shards.now) c.args.unit (sym c.root_of.ensures ∙ c.in-None.is)
