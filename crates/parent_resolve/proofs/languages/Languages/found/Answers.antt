use Rattle.std.proofs.Common.{◌≡◌, List, Some, sym, subst, ◌∙◌}
use Rattle.index_model.specs.declared.shard.Shard.{Shard}
use Rattle.index_model.specs.ShardLanguages.{first_some, root_in, IsLanguageAt}
use Rattle.index_model.proofs.UnitLanguages.{some_right}
use Rattle.parent_resolve.proofs.ImporterLaws.{some_takes, taken}
use Rattle.parent_resolve.proofs.languages.Languages.found.Goals as goal

pub returns-in-Some : goal.returns-in-Some
returns-in-Some c =
    let shards = c.args.self.now in
    let unit = c.args.unit in
    let root = c.in-Some.root in
    let at = subst (λ (ss : List Shard). first_some (root_in unit) ss ≡ Some root) c.self.view_is (sym c.root_of.ensures ∙ c.in-Some.is) in
    let takes = sym c.takes_importers_language.ensures ∙ c.if-takes_importers_language.true in
    let any = some_takes unit shards root at takes in
    subst (IsLanguageAt shards unit) (sym c.unwrap_or.ensures) (some_right shards unit root c.importers_language.result at (λ rise. c.importers_language.ensures any rise ∙ taken shards unit root takes))
