use Rattle.std.proofs.Common.{ℕ, ◌+◌, List, ◌∷◌, [], ◌++◌, Option, map, drop, ap, ◌∙◌}
use Rattle.std.specs.List.{enumerate_from}
use Rattle.gdb_entries.specs.declared.language.LanguageClass.{LanguageClass}
use Rattle.gdb_entries.specs.declared.language.LanguageClass.TheVariants.{Other}
use Rattle.gdb_items.specs.declared.by_owner.Reading.{Reading}
use Rattle.gdb_items.specs.Readings.{reading_at}
use Rattle.gdb_items.proofs.PartLaws.{each_one}
use Rattle.gdb_items.proofs.by_owner.owned_readings.Goals as goal

pub loop-number-preserved : goal.loop-number-preserved
loop-number-preserved c =
    let owners = c.args.owners.now in
    let classes = c.args.classes.now in
    let f = λ (u : ℕ × LanguageClass). reading_at owners classes u.0 in
    let n = c.loop-number.number in
    let was = c.loop-number.readings.items in
    ap (λ (rs : List (Option Reading)). rs ++ map f (enumerate_from (n + 1) (drop (n + 1) classes))) (c.in_ok-push.ensures.items ∙ ap (λ (r : Option Reading). was ++ r ∷ []) c.reading_at.ensures) ∙
    each_one f classes n Other was (map f (enumerate_from 0 classes)) c.loop-number-test.true c.loop-number.invariant
