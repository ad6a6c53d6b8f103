use Rattle.std.proofs.Common.{◌+◌, List, map, drop, get_or, ap, sym, ◌∙◌, arith}
use Rattle.index_model.specs.NameAbbreviations.{Spec}
use Rattle.debugnames_read.specs.Counting.{kept_behind}
use Rattle.debugnames_read.specs.Specs.{spec_seen}
use Rattle.debugnames_read.specs.Values.{Kept, kept_seen, value_seen}
use Rattle.debugnames_read.proofs.CountingLaws.{behind_cut, behind_none, behind_one, first_behind, next_left, none_left}
use Rattle.debugnames_read.proofs.attributes.IndexAttributes.read_listed.Goals as goal

pub returns-in_err-value-clause-value : goal.returns-in_err-value-clause-value
returns-in_err-value-clause-value c =
    let xs = c.args.specs.now in
    let left = next_left xs c.loop-listed.listed-index (record { attribute = 0; form = 0 }) c.loop-listed-test.true in
    rw c.from_residual.ensures (first_behind c.args.wide (map spec_seen xs) c.args.cursor.now
    ∙ sym c.loop-listed.invariant.value
    ∙ ap (λ (ss : List Spec). kept_behind c.args.wide (kept_seen c.loop-listed.found) ss c.loop-listed.cursor) left
    ∙ behind_cut c.args.wide (kept_seen c.loop-listed.found) _ _ c.loop-listed.cursor c.in_err-value.ensures.value)

pub loop-listed-preserved : goal.loop-listed-preserved
loop-listed-preserved c =
    let xs = c.args.specs.now in
    let left = next_left xs c.loop-listed.listed-index (record { attribute = 0; form = 0 }) c.loop-listed-test.true in
    let one = behind_one c.args.wide (kept_seen c.loop-listed.found) (spec_seen (get_or xs c.loop-listed.listed-index (record { attribute = 0; form = 0 }))) (map spec_seen (drop (c.loop-listed.listed-index + 1) xs)) c.loop-listed.cursor (value_seen c.in_ok-value.value) c.read_value.new.cursor c.in_ok-value.ensures.value in
    record {
      value =
          ap (λ (k : Kept). kept_behind c.args.wide k (map spec_seen (drop (c.loop-listed.listed-index + 1) xs)) c.read_value.new.cursor) c.keep.ensures
          ∙ sym one
          ∙ ap (λ (ss : List Spec). kept_behind c.args.wide (kept_seen c.loop-listed.found) ss c.loop-listed.cursor) (sym left)
          ∙ c.loop-listed.invariant.value;
      place = record { onwards = omega (arith, c.loop-listed.invariant.place.onwards, c.read_value.ensures.place.onwards); end = c.read_value.ensures.place.end ∙ c.loop-listed.invariant.place.end };
    }

pub returns-clause-value : goal.returns-clause-value
returns-clause-value c =
    let xs = c.args.specs.now in
    first_behind c.args.wide (map spec_seen xs) c.args.cursor.now
    ∙ sym c.loop-listed.invariant.value
    ∙ ap (λ (ss : List Spec). kept_behind c.args.wide (kept_seen c.loop-listed.found) ss c.loop-listed.cursor) (none_left xs c.loop-listed.listed-index c.loop-listed-test.false)
    ∙ behind_none c.args.wide (kept_seen c.loop-listed.found) c.loop-listed.cursor
