use Rattle.std.proofs.Common.{◌≡◌, ℕ, List, Option, Result, Ok, Err}
use Rattle.index_model.specs.Attributes.{name_value, linkage_value}
use Rattle.index_model.specs.Forms.{Value}
use Rattle.index_model.specs.Gives.{GivesAlways}
use Rattle.index_model.specs.Meaning.{◌>>=◌}
use Rattle.index_model.specs.Strings.{Texts}
use Rattle.file_image.specs.TextLimits.{tested}
use Rattle.shard_build.specs.Texts.{text_by, texts_by}
use Rattle.shard_build.proofs.home.UnitInFile.test_own.Goals as goal

abbrev both : Result (Option (List ℕ)) ℕ → Result (Option (List ℕ)) ℕ → Result Texts ℕ
both name linkage = name >>= λ n. linkage >>= λ l. Ok (record { name = n; linkage = l })

-- where the name is sound the linkage name decides
second_decides : (name linkage : Result (Option (List ℕ)) ℕ) (x : Unit {0}) (r : Result (Unit {0}) ℕ) → tested name ≡ Ok x → GivesAlways (λ done. done) r (tested linkage) → GivesAlways (λ done. done) r (tested (both name linkage))
second_decides (Ok n) (Ok l) x r sound h = h
second_decides (Ok n) (Err e) x r sound h = h
second_decides (Err e) linkage x r sound h = absurd cc

pub returns : goal.returns
unfolding texts_by
returns c =
    let home = c.args.self.now in
    let d = c.args.entry.now in
    let by : Option Value → Result (Option (List ℕ)) ℕ = text_by home.sections.now c.args.base home.unit.wide in
    let linkage = rw c.linkage_attribute.ensures at c.test_in-2.ensures in
    second_decides (by (name_value d)) (by (linkage_value d)) c.in_ok-test_in.field-0 c.test_in-2.result c.in_ok-test_in.ensures linkage
