use Rattle.std.proofs.Common.{ℕ, List, ◌++◌, ap, ◌∙◌}
use Rattle.index_model.specs.NameIndex.{abbreviation_table}
use Rattle.debugnames_write.specs.Laid.{pool_bytes}
use Rattle.debugnames_write.proofs.index.push_tables.Goals as goal

pub returns : goal.returns
returns g c =
    let rows = c.args.abbreviations.now in
    let table = c.in_ok-push.ensures ∙ ap (λ (w : List ℕ). w ++ abbreviation_table rows) c.in_ok-push_names.ensures in
    c.in_ok-push_pool_by_halves.ensures ∙ ap (λ (w : List ℕ). w ++ pool_bytes rows c.args.names.now) table
