use Rattle.std.proofs.Common.{◌≡◌, Ok, refl, sym, ap, ◌∙◌}
use Rattle.file_image.specs.Images.{Image}
use Rattle.index_model.specs.Faults.{program_of}
use Rattle.gdb_scopes.proofs.ScopeLaws.{one_sought, seeks_first, seeks_none, seeks_on, sought}
use Rattle.gdb_scopes.proofs.file.FilePlaces.first_around.Goals as goal

pub loop-offset-init : goal.loop-offset-init
loop-offset-init c = record {
  same = refl;
  sought = λ p is ds are. seeks_first p ds c.args.offsets.now are;
}

pub loop-offset-preserved : goal.loop-offset-preserved
loop-offset-preserved c = record {
  same = c.open_around.ensures.kept ∙ c.loop-offset.invariant.same;
  sought = λ p is ds are.
      let here : program_of c.loop-offset.self.file ≡ Ok p = ap (λ (e : Image). program_of e.file) c.loop-offset.invariant.same ∙ is in
      let s = c.loop-offset.invariant.sought p is ds are in
      let n = one_sought p ds c.args.offsets.now c.loop-offset.offset-index 0 c.loop-offset-test.true s in
      seeks_on p ds c.args.offsets.now c.loop-offset.offset-index 0 c.loop-offset-test.true s c.in_ok-around.around (c.in_ok-around.ensures.value p here n.item n.is) (sym c.is_some.ensures ∙ c.if-is_some.false);
}

pub returns-then-is_some-clause-value : goal.returns-then-is_some-clause-value
returns-then-is_some-clause-value c p is ds are =
    let here : program_of c.loop-offset.self.file ≡ Ok p = ap (λ (e : Image). program_of e.file) c.loop-offset.invariant.same ∙ is in
    let s = c.loop-offset.invariant.sought p is ds are in
    let n = one_sought p ds c.args.offsets.now c.loop-offset.offset-index 0 c.loop-offset-test.true s in
    sought p ds c.args.offsets.now c.loop-offset.offset-index 0 c.loop-offset-test.true s c.in_ok-around.around (c.in_ok-around.ensures.value p here n.item n.is) (sym c.is_some.ensures ∙ c.if-is_some.true)

pub returns-clause-value : goal.returns-clause-value
returns-clause-value c p is ds are = seeks_none p ds c.args.offsets.now c.loop-offset.offset-index c.loop-offset-test.false (c.loop-offset.invariant.sought p is ds are)

pub returns-in_err-around-clause-kept : goal.returns-in_err-around-clause-kept
returns-in_err-around-clause-kept c = c.open_around.ensures.kept ∙ c.loop-offset.invariant.same
