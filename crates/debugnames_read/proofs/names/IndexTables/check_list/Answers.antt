use Rattle.std.proofs.Common.{◌≡◌, ℕ, ◌+◌, ◌-◌, ◌<◌, suc, length, ap, sym, ◌∙◌, arith}
use Rattle.std.proofs.lemmas.Result.{err_from_is_err_and}
use Rattle.index_model.specs.Meaning.{wrong_in}
use Rattle.debugnames_read.specs.Abbreviations.{abbreviations_in}
use Rattle.debugnames_read.specs.Entries.{hit_seen}
use Rattle.debugnames_read.specs.Lists.{list_from}
use Rattle.debugnames_read.specs.Names.{tables_of}
use Rattle.debugnames_read.proofs.LeftLaws.{entry_takes}
use Rattle.debugnames_read.proofs.ListLaws.{ended, next_inside, next_sound, none_wrong, same_list, sound_if, was_checked}
use Rattle.debugnames_read.proofs.Readings.{entries_end, entries_wrong, entries_wrong_goes}
use Rattle.debugnames_read.proofs.names.IndexTables.check_list.Goals as goal

pub returns-then-has-clause-value : goal.returns-then-has-clause-value
returns-then-has-clause-value c =
    let t = tables_of c.args.self.now in
    let i = c.entries.cursor in
    let inside = c.entries.invariant.inside in
    let place : ℕ = c.at.result - c.at-in-entries.result in
    let at : place ≡ i.at - t.pool.at = omega (arith, c.at.ensures, c.at-in-entries.ensures) in
    let ok = was_checked t i inside place at c.entries.checked c.entries.invariant.sound (sym c.has.ensures ∙ c.if-has.true) in
    let most : ℕ = length c.rest.result.now + 1 - c.entries.counter in
    let small : length i.rest < most = omega (arith, c.entries.invariant.few, ap length c.rest.ensures) in
    sym (sym c.entries.invariant.left ∙ ap wrong_in (same_list t i inside most small) ∙ none_wrong (list_from t i) ok)

pub returns-in_err-read_entry-clause-value : goal.returns-in_err-read_entry-clause-value
returns-in_err-read_entry-clause-value c =
    let t = tables_of c.args.self.now in
    let n : ℕ = length c.rest.result.now in
    let less : n + 1 - c.entries.counter ≡ suc (n - c.entries.counter) = omega (arith, c.entries-test.true) in
    let more = rw less at c.entries.invariant.left in
    let p = err_from_is_err_and c.from_residual.result c.from_residual.ensures.1 in
    rw (p.1, p.2) (sym (sym more ∙ ap wrong_in (entries_wrong t (abbreviations_in t.abbreviations) (n - c.entries.counter) c.entries.cursor c.in_err-read_entry.field-0.0 c.in_err-read_entry.ensures.value)))

pub returns-in-None-clause-value : goal.returns-in-None-clause-value
returns-in-None-clause-value c =
    let t = tables_of c.args.self.now in
    let n : ℕ = length c.rest.result.now in
    let less : n + 1 - c.entries.counter ≡ suc (n - c.entries.counter) = omega (arith, c.entries-test.true) in
    let more = rw less at c.entries.invariant.left in
    let end = rw c.in-None.is at c.in_ok-read_entry.ensures.value in
    sym (sym more ∙ ap wrong_in (entries_end t (abbreviations_in t.abbreviations) (n - c.entries.counter) c.entries.cursor end))

pub returns-in-None-clause-checked : goal.returns-in-None-clause-checked
returns-in-None-clause-checked c =
    let t = tables_of c.args.self.now in
    let i = c.entries.cursor in
    let inside = c.entries.invariant.inside in
    let place : ℕ = c.at.result - c.at-in-entries.result in
    let at : place ≡ i.at - t.pool.at = omega (arith, c.at.ensures, c.at-in-entries.ensures) in
    let end = rw c.in-None.is at c.in_ok-read_entry.ensures.value in
    sound_if t i inside place at c.entries.checked c.add.new.self c.add.ensures c.entries.invariant.sound (ended t i inside end)

pub entries-preserved : goal.entries-preserved
entries-preserved c =
    let t = tables_of c.args.self.now in
    let n : ℕ = length c.rest.result.now in
    let i = c.entries.cursor in
    let inside = c.entries.invariant.inside in
    let place : ℕ = c.at.result - c.at-in-entries.result in
    let at : place ≡ i.at - t.pool.at = omega (arith, c.at.ensures, c.at-in-entries.ensures) in
    let less : n + 1 - c.entries.counter ≡ suc (n - c.entries.counter) = omega (arith, c.entries-test.true) in
    let more = rw less at c.entries.invariant.left in
    let next : n + 1 - (c.entries.counter + 1) ≡ n - c.entries.counter = omega arith in
    let h = hit_seen c.in-Some.field-0 in
    let j = c.read_entry.new.cursor in
    let read = rw c.in-Some.is at c.in_ok-read_entry.ensures.value in
    let moves = c.in_ok-read_entry.ensures.place in
    record {
      left = rw next (sym (entries_wrong_goes t (abbreviations_in t.abbreviations) (n - c.entries.counter) i h j read) ∙ more);
      inside = next_inside t i inside place at c.entries.checked c.add.new.self c.add.ensures c.entries.invariant.sound h j read moves;
      few = omega (arith, c.entries.invariant.few, entry_takes t i j h read);
      sound = next_sound t i inside place at c.entries.checked c.add.new.self c.add.ensures c.entries.invariant.sound h j read moves;
    }
