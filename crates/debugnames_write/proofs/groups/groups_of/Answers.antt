use Rattle.std.proofs.Common.{◌≡◌, ℕ, ◌+◌, ◌-◌, take, drop, get_or, [], ap, arith}
use Rattle.std.proofs.lemmas.List.Sums.{sum_by-drop_more}
use Rattle.query_engine.specs.declared.listing.ListedName.{ListedName}
use Rattle.debugnames_write.specs.Counts.{count_of}
use Rattle.debugnames_write.proofs.GroupLaws.{cut_more, cut_all}
use Rattle.debugnames_write.proofs.groups.groups_of.Goals as goal

pub loop-name-preserved : goal.loop-name-preserved
loop-name-preserved c =
    let items = c.args.items.now in
    let names = c.args.names.now in
    let start : ℕ = c.loop-name.start in
    let k : ℕ = c.loop-name.name-index in
    let d : ListedName = record { name = record { ref_ptr = (0, 0); now = [] }; count = 0 } in
    let count : ℕ = (get_or names k d).count in
    let width : (start + count) - start ≡ count = omega arith in
    let rest = sum_by-drop_more count_of names k d c.loop-name-test.true in
    record {
      fits = omega (arith, c.loop-name.invariant.fits, rest);
      cut_is = cut_more items names c.loop-name.groups.items start k d _ _ c.loop-name-test.true c.loop-name.invariant.cut_is
          (ap (λ (m : ℕ). ((get_or names k d).name.now, take m (drop start items))) width) c.in_ok-push.ensures.items;
    }

pub returns : goal.returns
returns c = cut_all c.args.items.now c.args.names.now c.loop-name.groups.items c.loop-name.start c.loop-name.name-index c.loop-name-test.false c.loop-name.invariant.cut_is
