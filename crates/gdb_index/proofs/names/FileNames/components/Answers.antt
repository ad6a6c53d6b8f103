use Rattle.std.proofs.Common.{◌≡◌, ℕ, ◌-◌, ◌++◌, List, Ok, Option, map, refl, ap, ◌∙◌, arith}
use Rattle.std.specs.Prelude.{option_to_list}
use Rattle.file_image.specs.Images.{Image}
use Rattle.index_model.specs.Faults.{program_of}
use Rattle.gdb_index.specs.Texts.{text_by}
use Rattle.gdb_index.proofs.PathLaws.{follow_end, follow_long, follow_none, follow_one, next_member, one_fewer}
use Rattle.gdb_index.proofs.names.FileNames.components.Goals as goal

pub loop-next-init : goal.loop-next-init
loop-next-init c = record {
  same = refl;
  range = omega arith;
  followed = λ p is o d here scope. follow_none c.args.self.now.file p is o d here c.new-texts.result.items c.new-texts.ensures.items c.args.scope scope;
}

pub loop-next-preserved : goal.loop-next-preserved
loop-next-preserved c = record {
  same = c.count_formed.ensures ∙ c.step.ensures.kept ∙ c.loop-next.invariant.same;
  range = omega (arith, c.loop-next.invariant.range);
  followed = λ p is o d here scope.
      let f = c.args.self.now.file in
      let s = c.loop-next.invariant.followed p is o d here scope in
      let after : program_of c.loop-next.self.file ≡ Ok p = ap (λ (e : Image). program_of e.file) c.loop-next.invariant.same ∙ is in
      let m = next_member f p is d c.loop-next.left c.loop-next.texts.items c.loop-next.next s c.in-Some.member c.in-Some.is in
      let own = c.in_ok-step.ensures.value p after m.located m.is in
      follow_one f p is d c.loop-next.left c.loop-next.texts.items c.loop-next.next s c.in-Some.member m (c.loop-next.left - 1) (one_fewer c.loop-next.left c.if-left-eq0.false)
      c.add.new.texts.items (λ release. c.in_ok-add.ensures release ∙ ap (λ (o : Option (List ℕ)). map (text_by release) c.loop-next.texts.items ++ option_to_list o) (own.component release)) c.in_ok-step.step.scope own.scope;
}

pub returns-then-left-eq0-clause-value : goal.returns-then-left-eq0-clause-value
returns-then-left-eq0-clause-value c p is o d here scope release =
    let f = c.args.self.now.file in
    let s = c.loop-next.invariant.followed p is o d here scope in
    let m = next_member f p is d c.loop-next.left c.loop-next.texts.items c.loop-next.next s c.in-Some.member c.in-Some.is in
    ap (map (text_by release)) c.new.ensures.items ∙ follow_long f p is d c.loop-next.left c.loop-next.texts.items c.loop-next.next s c.in-Some.member m c.if-left-eq0.true release

pub returns-clause-value : goal.returns-clause-value
returns-clause-value c p is o d here scope release =
    follow_end c.args.self.now.file p is d c.loop-next.left c.loop-next.texts.items c.loop-next.next (c.loop-next.invariant.followed p is o d here scope) c.in_default.not-Some release
