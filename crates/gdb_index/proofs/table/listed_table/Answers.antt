use Rattle.std.proofs.Common.{◌≡◌, List, Ok, length, sym, ap, subst, ◌∙◌}
use Rattle.std.specs.Prelude.{IfOk}
use Rattle.file_image.specs.Images.{Image}
use Rattle.index_model.specs.declared.entry.Entry.{Entry}
use Rattle.index_model.specs.declared.unit.Unit.{Unit as UnitHeader}
use Rattle.index_model.specs.Faults.{program_of}
use Rattle.query_engine.specs.Asked.{TailsFit}
use Rattle.gdb_index.proofs.RangeLaws.{all_listed}
use Rattle.gdb_index.proofs.TailLaws.{listed_tails}
use Rattle.gdb_index.proofs.table.listed_table.Goals as goal

pub merge-requires-clause-tails : goal.merge-requires-clause-tails
merge-requires-clause-tails g c κs within =
    let p = c.requires.0 in
    let im = c.in_ok-file.file in
    let is : program_of im.file ≡ Ok p = ap (λ (e : Image). program_of e.file) c.in_ok-file.ensures ∙ c.requires.1 in
    let all = all_listed im c.units.ensures.of_file (length c.units.result.now) _ (ap (λ (us : List UnitHeader). length us) c.units.ensures.value) c.in_ok-runs.ensures p is in
    subst TailsFit (sym all) (listed_tails p)

pub returns : goal.returns
returns g c p given =
    let im = c.in_ok-file.file in
    let is : program_of im.file ≡ Ok p = ap (λ (e : Image). program_of e.file) c.in_ok-file.ensures ∙ given in
    let all = all_listed im c.units.ensures.of_file (length c.units.result.now) _ (ap (λ (us : List UnitHeader). length us) c.units.ensures.value) c.in_ok-runs.ensures p is in
    subst (λ (es : List Entry). IfOk c.merge.result (λ t. t ≡ es)) all c.merge.ensures
