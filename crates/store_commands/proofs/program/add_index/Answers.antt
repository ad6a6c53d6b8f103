use Rattle.std.proofs.Common.{◌≡◌, [], ap, subst, ◌∙◌}
use Rattle.stage_core.specs.Outputs.{cache_seen}
use Rattle.stage_core.specs.declared.output.Cache.{Cache}
use Rattle.store_commands.specs.Programs.{gdb_section, staged, FitsKind}
use Rattle.store_commands.proofs.KindLaws.{gdb_errs, gdb_rooms, is_gdb, none_staged, of_gdb_bytes}
use Rattle.store_commands.proofs.program.add_index.Goals as goal

pub returns-in-Gdb-clause-err : goal.returns-in-Gdb-clause-err
returns-in-Gdb-clause-err c =
    let fits = subst (λ (x : Cache). FitsKind c.args.kind (cache_seen x)) c.in-Gdb.is c.requires.fits in
    gdb_errs c.args.kind c.args.adder.now.file c.args.adder.now.sections (of_gdb_bytes c.args.kind c.in-Gdb.bytes fits) c.add_section.result c.add_section.ensures.err

pub returns-in-Gdb8 : goal.returns-in-Gdb8
returns-in-Gdb8 c =
    let kind = c.args.kind in
    let gdb = is_gdb kind c.in-Gdb8.is in
    let none : staged kind (cache_seen c.args.cache.now) ≡ gdb_section [] = ap (λ (x : Cache). staged kind (cache_seen x)) c.in-TooLarge.is ∙ none_staged kind gdb in
    record {
      ok = rw none c.add_section-in-Gdb8.ensures.ok;
      room = gdb_rooms kind c.args.adder.now.file c.args.adder.now.sections gdb c.add_section-in-Gdb8.result c.add_section-in-Gdb8.ensures.room;
      err = gdb_errs kind c.args.adder.now.file c.args.adder.now.sections gdb c.add_section-in-Gdb8.result c.add_section-in-Gdb8.ensures.err;
    }
