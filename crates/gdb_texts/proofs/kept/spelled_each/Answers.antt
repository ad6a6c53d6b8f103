use Rattle.std.specs.Prelude.{IfOk}
use Rattle.rayon.proofs.ListFacts.{IfOk-then}
use Rattle.gdb_texts.specs.Spelled.{IsPlaced}
use Rattle.gdb_texts.proofs.SpelledLaws.{all_given}
use Rattle.gdb_texts.proofs.kept.spelled_each.Goals as goal

pub returns : goal.returns
returns g c =
    IfOk-then c.collect.result _ _ c.collect.ensures (λ v h.
    let chain = rw (c.map.ensures.base, c.map.ensures.f, c.with_min_len.ensures.base) at h.1 in
    rw h.2 (all_given (λ name. IfOk name (IsPlaced c.args.sections.now)) chain.0 h.0 chain.2))
