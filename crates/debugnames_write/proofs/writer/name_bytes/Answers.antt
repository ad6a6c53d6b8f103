use Rattle.std.proofs.Common.{rules, ◌<◌, length, ap, ◌∙◌, arith, All}
use Rattle.debugnames_write.specs.Names.{HaveBuckets, HaveRows}
use Rattle.debugnames_write.proofs.Stops.{stopped_large}
use Rattle.debugnames_write.proofs.Written.{strings_rise, strings_stop, strings_added, names_few, names_buckets, names_rows, index_is, index_stop, index_fits}
use Rattle.debugnames_write.proofs.writer.name_bytes.Goals as goal

pub sorted_names-requires : goal.sorted_names-requires
sorted_names-requires g c = (c.type_bounds.sync-R, strings_rise c.args.units.now c.args.old_strings c.requires.made.0 c.args.groups.now c.requires.made.1.groups_are)

pub returns-in_err-named-clause-too_large : goal.returns-in_err-named-clause-too_large
returns-in_err-named-clause-too_large g c = λ entries made.
    stopped_large c.from_residual.result c.in_err-named.field-0.0 c.from_residual.ensures.1 c.in_err-named.ensures
    (λ pass. strings_stop c.args.units.now c.args.old_strings entries c.args.groups.now made.groups_are pass)

pub both-strings-requires-after_bounds : goal.both-strings-requires-after_bounds
both-strings-requires-after_bounds g c κs within =
    let entries = c.requires.made.0 in
    let made = c.requires.made.1 in
    let n = c.in_ok-named.ensures in
    let few : length c.deref-sorted.result.now < 4294967296 = rw c.deref-sorted.ensures.value (names_few c.args.units.now c.args.old_strings entries c.args.groups.now made.groups_are n.made n.made_are c.in_ok-named.named.names.items n.moved n.in_order) in
    let buckets : HaveBuckets c.deref-sorted.result.now = rw c.deref-sorted.ensures.value (names_buckets c.args.units.now c.args.old_strings entries c.args.groups.now made.groups_are n.made n.made_are c.in_ok-named.named.names.items n.moved n.in_order) in
    let rows : All (λ n. HaveRows c.args.abbreviations.now n.items.now) c.deref-sorted.result.now = rw c.deref-sorted.ensures.value (names_rows c.args.units.now c.args.old_strings entries c.args.groups.now made.groups_are n.made n.made_are c.in_ok-named.named.names.items n.moved n.in_order c.args.abbreviations.now made.rows_are) in
    (tt, ((search rules, c.requires.units, c.requires.starts, c.requires.places, few, buckets, rows), search rules))

pub returns-in_err-names-clause-too_large : goal.returns-in_err-names-clause-too_large
returns-in_err-names-clause-too_large g c = λ entries made.
    let n = c.in_ok-named.ensures in
    let stop = rw c.deref-sorted.ensures.value at (rw c.in_err-names.was at c.both-strings.ensures.second) in
    stopped_large c.from_residual-in_err-names.result c.in_err-names.field-0.0 c.from_residual-in_err-names.ensures.1 stop
    (λ pass. index_stop c.args.units.now c.args.old_strings entries c.args.groups.now made.groups_are n.made n.made_are c.in_ok-named.named.names.items n.moved n.in_order c.args.abbreviations.now made.rows_are pass)

pub returns-clause-names : goal.returns-clause-names
returns-clause-names g c = λ entries made.
    let n = c.in_ok-named.ensures in
    let written = rw c.deref-sorted.ensures.value at (rw c.in_ok-names.was at c.both-strings.ensures.second) in
    c.of.ensures ∙ written.0 ∙ index_is c.args.units.now c.args.old_strings entries c.args.groups.now made.groups_are n.made n.made_are c.in_ok-named.named.names.items n.moved n.in_order c.args.abbreviations.now made.rows_are

pub returns-clause-strings : goal.returns-clause-strings
returns-clause-strings g c = λ entries made.
    let strings = rw c.in_ok-strings.was at c.both-strings.ensures.first in
    c.of-2.ensures ∙ strings ∙ strings_added c.args.units.now c.args.old_strings entries c.args.groups.now made.groups_are

pub returns-clause-fits : goal.returns-clause-fits
returns-clause-fits g c = λ entries made.
    let n = c.in_ok-named.ensures in
    let written = rw c.deref-sorted.ensures.value at (rw c.in_ok-names.was at c.both-strings.ensures.second) in
    let long = ap (λ w. length w) written.0 in
    index_fits c.args.units.now c.args.old_strings entries c.args.groups.now made.groups_are n.made n.made_are c.in_ok-named.named.names.items n.moved n.in_order c.args.abbreviations.now made.rows_are (omega (arith, long, written.1))
