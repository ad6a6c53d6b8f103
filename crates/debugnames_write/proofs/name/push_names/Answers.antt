use Rattle.std.proofs.Common.{refl}
use Rattle.std.proofs.lemmas.List.Elements.{All-push}
use Rattle.debugnames_write.specs.Groups.{group_names}
use Rattle.debugnames_write.specs.Names.{IsNameOf}
use Rattle.debugnames_write.proofs.NamesMade.{hash_read, name_right, end_more, end_passes, kept_more}
use Rattle.debugnames_write.proofs.Stops.{stopped}
use Rattle.debugnames_write.proofs.name.push_names.Goals as goal

pub returns-in_err-end-2 : goal.returns-in_err-end-2
returns-in_err-end-2 c =
    stopped c.from_residual-in_err-end-2.result c.in_err-end-2.field-0.0 _ c.from_residual-in_err-end-2.ensures.1 c.in_err-end-2.ensures
    (λ pass. end_passes c.args.groups.now c.loop-place.place _ c.loop-place-test.true c.args.old_strings c.loop-place.end 4294967295 c.loop-place.invariant.end pass)

pub loop-place-preserved : goal.loop-place-preserved
loop-place-preserved c =
    let gs = c.args.groups.now in
    let k = c.loop-place.place in
    let lt = c.loop-place-test.true in
    let inv = c.loop-place.invariant in
    rw c.in_ok-push.ensures.items (record {
      kept = kept_more gs k _ lt c.loop-place.names.items _ inv.kept refl;
      each = All-push (IsNameOf (group_names gs) c.args.old_strings) c.loop-place.names.items _ inv.each (name_right gs k _ lt c.requires.rises c.args.old_strings c.loop-place.end _ refl (hash_read gs k _ lt c.args.hashes.now _ c.requires.hashes) refl refl inv.end);
      end = end_more gs k _ lt c.args.old_strings c.loop-place.end c.in_ok-end-2.end inv.end c.in_ok-end-2.ensures.0;
      fits = c.in_ok-end-2.ensures.1;
    })
