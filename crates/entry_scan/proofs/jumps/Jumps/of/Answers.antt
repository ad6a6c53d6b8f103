use Rattle.std.proofs.Common.{◌%◌, Option, None, refl, ◌∙◌, sym, subst, arith}
use Rattle.std.specs.Prelude.{IfSome, IsSome}
use Rattle.std.proofs.lemmas.Bool.{false≢true}
use Rattle.std.proofs.lemmas.List.{get_or-replicate}
use Rattle.entry_scan.specs.declared.jumps.Jump.{Jump}
use Rattle.entry_scan.specs.Jumps.{IsJump, Take}
use Rattle.entry_scan.proofs.JumpLaws.{none_take, one_more, jumps_added, lacks_added}
use Rattle.entry_scan.proofs.jumps.Jumps.of.Goals as goal

pub loop-spec-init : goal.loop-spec-init
loop-spec-init c = record {
  count = refl;
  takes = none_take c.args.specs.now;
  are = λ number.
      let none = get_or-replicate 64 (number % 64) (let nothing : Option Jump = None in nothing) None (omega arith) in
      subst (λ (o : Option Jump). IfSome o (IsJump c.args.specs.now number)) (sym none) tt;
  lacks = λ number none j d lt same. absurd (omega (arith, lt));
}

pub loop-spec-preserved : goal.loop-spec-preserved
loop-spec-preserved c =
    let all = c.args.specs.now in
    let k = c.loop-spec.spec-index in
    let old = c.loop-spec.jumps in
    let new = c.add.new.self in
    let at = c.loop-spec.invariant in
    let lt = c.loop-spec-test.true in
    let next = c.in-Some-with_next.ensures in
    let here : Take k c.in-Some.jump.bytes all = rw c.in-Some.ensures.bytes at.takes in
    record {
      count = omega (arith, next.count, at.count);
      takes = rw next.bytes (one_more all k c.loop-spec.front.bytes next.size lt at.takes next.takes);
      are = jumps_added all old new k c.in-Some.jump _ at.are at.lacks c.add.ensures.each lt (c.in-Some.ensures.index ∙ at.count) here;
      lacks = lacks_added all old new k c.in-Some.jump _ at.lacks c.add.ensures.each lt refl (λ none. false≢true (subst (λ (o : Option Jump). IsSome o) none c.add.ensures.own));
    }
