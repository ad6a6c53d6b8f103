use Rattle.std.proofs.Common.{◌≡◌, ◌<◌, ℕ, ◌+◌, ◌∷◌, [], ◌++◌, List, length, take, sym, ap, subst, ◌∙◌, arith}
use Rattle.std.proofs.Math.Seq.{take-length}
use Rattle.index_model.specs.Program.{Walked}
use Rattle.gdb_entries.specs.declared.language.LanguageClass.{LanguageClass}
use Rattle.gdb_units.specs.declared.units.UnitRoot.{UnitRoot}
use Rattle.shard_build.proofs.WalkOfUnit.{walks_count, unit_with}
use Rattle.gdb_items.proofs.RootsLaws.{AreRootsTo, roots_more}
use Rattle.gdb_items.proofs.roots.Roots.of.Goals as goal

pub loop-number-preserved : goal.loop-number-preserved
loop-number-preserved c =
    let im = c.args.image.now in
    let n = c.loop-number.number in
    let within : n < length im.units = omega (arith, c.loop-number-test.true, ap length c.units.ensures.value, c.units.ensures.few) in
    record {
      read = λ p file.
          let w = unit_with im c.units.ensures.of_file p file n within in
          let own = c.in_ok-root.ensures.root p file w.walk w.member (omega (arith, w.number)) in
          let more = roots_more p n w.walk w.more c.loop-number.units.items c.loop-number.classes.items (c.loop-number.invariant.read p file) c.in_ok-root.root own in
          subst (λ (us : List UnitRoot). AreRootsTo p (take (n + 1) p.walks) us c.push-in-loop-number.new.self.items) (sym c.in_ok-push.ensures.items)
          (subst (λ (cs : List LanguageClass). AreRootsTo p (take (n + 1) p.walks) (c.loop-number.units.items ++ c.in_ok-root.root.unit ∷ []) cs) (sym c.in_ok-push-2.ensures.items) more);
      same = c.in_ok-root.ensures.same ∙ c.loop-number.invariant.same;
    }

pub returns-clause-roots : goal.returns-clause-roots
returns-clause-roots c p file =
    let im = c.args.image.now in
    let count = walks_count im c.units.ensures.of_file p file in
    let all : take c.loop-number.number p.walks ≡ p.walks = ap (λ (n : ℕ). take n p.walks) (omega (arith, c.loop-number-test.false, c.loop-number.auto.number-end, count, ap length c.units.ensures.value, c.units.ensures.few)) ∙ take-length p.walks in
    let read = subst (λ (ws : List Walked). AreRootsTo p ws c.loop-number.units.items c.loop-number.classes.items) all (c.loop-number.invariant.read p file) in
    record { units = read.units_; classes = read.classes_ }
