use Rattle.std.proofs.Common.{◌≡◌, ℕ, List, Some, sym, ap, subst, ◌∙◌, arith}
use Rattle.std.specs.Prelude.{option_map, IsOkAnd}
use Rattle.std.specs.Arc.{arc_value}
use Rattle.index_model.specs.declared.job.CacheKind.TheVariants.{Gdb8, Names}
use Rattle.index_model.specs.Cache.{Cache, GdbBytes, NameBytes, cache_in}
use Rattle.index_model.specs.Faults.{built_of}
use Rattle.outside.proofs.WrittenLaws.{appends_none}
use Rattle.stage_core.specs.declared.output.Cache.{Cache as Kept}
use Rattle.stage_core.specs.Outputs.{cache_seen, parts_seen}
use Rattle.drill_command.specs.Summaries.{totals_seen}
use Rattle.drill_command.proofs.DrillLaws.{gdb_large, index_kept, names_large, wrote_summary}
use Rattle.drill_command.proofs.drill.sum_up.Goals as goal

pub returns-in_default-deref : goal.returns-in_default-deref
returns-in_default-deref g c =
    let there = ap (option_map (λ x. cache_seen (arc_value x))) c.in-Some-cache.is ∙ ap (λ (x : Kept). Some (cache_seen x)) (sym c.deref.ensures) in
    let kept = index_kept c.args.image.now (parts_seen c.args.parts.now) c.requires (cache_seen c.deref.result.now) there in
    record {
      wrote = appends_none (g.K.Sink.written c.args.out.now);
      causes = gdb_large c.args.image.now.file c.deref.result.now kept c.in_default-deref.not-Gdb;
      counts = omega arith;
    }

pub returns-in_default-name_cache-2 : goal.returns-in_default-name_cache-2
returns-in_default-name_cache-2 g c = record {
  wrote = appends_none (g.K.Sink.written c.args.out.now);
  causes = names_large c.args.image.now.file c.in-Some-name_cache.name_cache c.in-Some-name_cache.ensures c.in_default-name_cache-2.not-Names;
  counts = omega arith;
}

pub returns-clause-wrote : goal.returns-clause-wrote
returns-clause-wrote g c =
    let there = ap (option_map (λ x. cache_seen (arc_value x))) c.in-Some-cache.is ∙ ap (λ (x : Kept). Some (cache_seen x)) (sym c.deref.ensures) in
    let kept = index_kept c.args.image.now (parts_seen c.args.parts.now) c.requires (cache_seen c.deref.result.now) there in
    let gdb = c.as_slice.result.now in
    let names = c.as_slice-2.result.now in
    let strings = c.as_slice-3.result.now in
    let gdb_is = subst (λ (x : Cache). IsOkAnd (built_of c.args.image.now.file) (λ b. x ≡ cache_in Gdb8 b)) (ap cache_seen c.in-Gdb.is ∙ ap GdbBytes (sym c.as_slice.ensures)) kept in
    let both : cache_seen c.in-Some-name_cache.name_cache ≡ NameBytes names strings = ap cache_seen c.in-Names.is ∙ ap (λ (xs : List ℕ). NameBytes xs c.in-Names.strings) (sym c.as_slice-2.ensures) ∙ ap (NameBytes names) (sym c.as_slice-3.ensures) in
    let names_is = subst (λ (x : Cache). IsOkAnd (built_of c.args.image.now.file) (λ b. x ≡ cache_in Names b)) both c.in-Some-name_cache.ensures in
    wrote_summary c.args.image.now.file gdb names strings (totals_seen c.totals-totals.result) gdb_is names_is c.totals-totals.ensures c.write_line.result (g.K.Sink.written c.args.out.now) (g.K.Sink.written c.write_line.new.out) c.write_line.ensures.wrote
