use Rattle.std.proofs.Common.{◌≡◌, ℕ, ◌++◌, ◌+◌, List, None, Vec, Global, drop, length, ap, ◌∙◌, arith}
use Rattle.gdb_units.specs.Imported.{targets_in, targets_of}
use Rattle.gdb_units.proofs.FoundLaws.{settled}
use Rattle.gdb_units.proofs.TargetLaws.{found_here, import_next, added_next}
use Rattle.gdb_units.proofs.imported.imported.Goals as goal
use Rattle.gdb_units.proofs.imported.imported.Goals.{in-Some+in_ok-add_target, in_default}

pub loop-import-preserved : goal.loop-import-preserved
loop-import-preserved c =
    let us = c.args.units.now in
    let imports = c.args.imports.now in
    let n = c.loop-import.import-index in
    let inv = c.loop-import.invariant in
    let old = c.loop-import.targets.items in
    elim c.match-unit_at.branch [
      | in-Some+in_ok-add_target w ↦
          let new = w.add_target.new.targets in
          let long : length new ≡ length old = omega (arith, w.in_ok-add_target.ensures.length, ap (λ (ts : List (Vec ℕ Global)). length ts) w.deref_mut.ensures.value) in
          let same : c.match-unit_at.targets.items ≡ new = ap (λ (v : Vec (Vec ℕ Global) Global). v.items) w.targets-is ∙ settled c.loop-import.targets.len new old long (omega arith) in
          record {
            long = ap (λ (ts : List (Vec ℕ Global)). length ts) same ∙ long ∙ inv.long;
            added = λ rise u lt. ap (λ (ts : List (Vec ℕ Global)). targets_in ts u ++ targets_of us u (drop (n + 1) imports)) same ∙
                added_next us imports n _ u old w.deref_mut.result.now new w.in-Some.target w.deref_mut.ensures.value w.in_ok-add_target.ensures.added c.loop-import-test.true
                (found_here us c.deref.result.now c.in_ok-roots.roots.items c.unit_at.result _ c.deref.ensures.value c.in_ok-roots.ensures c.unit_at.ensures rise ∙ w.in-Some.is)
                (inv.added rise u lt) (omega (arith, lt, inv.long));
          }
      | in_default w ↦ record {
        long = ap (λ (v : Vec (Vec ℕ Global) Global). length v.items) w.targets-is ∙ inv.long;
        added = λ rise u lt. ap (λ (v : Vec (Vec ℕ Global) Global). targets_in v.items u ++ targets_of us u (drop (n + 1) imports)) w.targets-is ∙
            import_next us imports n _ u (targets_in old u) None c.loop-import-test.true
            (found_here us c.deref.result.now c.in_ok-roots.roots.items c.unit_at.result _ c.deref.ensures.value c.in_ok-roots.ensures c.unit_at.ensures rise ∙ w.in_default.is)
            (inv.added rise u lt);
      }
    ]
