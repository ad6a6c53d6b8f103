use Rattle.std.proofs.Common.{◌≡◌, ℕ, Some, None, length, get_or, sym, ap, ◌∙◌, below_more}
use Rattle.index_model.specs.Hashes.{slot_on_path}
use Rattle.gdbindex_read.proofs.Paths.{next_on_path}
use Rattle.gdbindex_read.proofs.WalkLaws.{IsMet, met_still, still_found}
use Rattle.gdbindex_read.proofs.walks.FoundSlots.walk.Goals as goal
use Rattle.gdbindex_read.proofs.walks.FoundSlots.walk.Goals.{then-left-eq0-via-then-left-eq0, then-left-eq0-via-else-left-eq0+then-not-add, then-home-begin+else-left-eq0+else-not-add, else-home-begin}

pub returns-then-left-eq0 : goal.returns-then-left-eq0
returns-then-left-eq0 c slots are size old =
    let inv = c.loop-steps.invariant in
    let there : get_or c.args.homes.now (slot_on_path (length c.args.homes.now) c.args.begin c.loop-steps._steps) None ≡ Some c.in-Some.home = ap (λ (k : ℕ). get_or c.args.homes.now k None) (sym inv.place) ∙ c.in-Some.is in
    elim c.then-left-eq0.branch [
      | then-left-eq0-via-then-left-eq0 w ↦ rw w.self-is (inv.found slots are size old)
      | then-left-eq0-via-else-left-eq0+then-not-add w ↦
          rw w.self-is (still_found slots c.args.homes.now c.args.begin c.loop-steps.self.prints are size c.loop-steps._steps c.loop-steps-test.true inv.met c.in-Some.home there c.if-home-begin.true c.loop-steps.path.place inv.place c.loop-steps.self.places.items w.add.new.self.places.items (inv.found slots are size old) w.add.ensures.places)
    ]

pub loop-steps-preserved : goal.loop-steps-preserved
loop-steps-preserved c =
    let homes = c.args.homes.now in
    let begin = c.args.begin in
    let inv = c.loop-steps.invariant in
    let i = c.loop-steps._steps in
    let h = c.in-Some.home in
    let there : get_or homes (slot_on_path (length homes) begin i) None ≡ Some h = ap (λ (k : ℕ). get_or homes k None) (sym inv.place) ∙ c.in-Some.is in
    let place = c.advance.ensures.place ∙ next_on_path c.loop-steps.path.place c.loop-steps.path.step c.loop-steps.path.slots (length homes) begin i inv.place inv.step inv.slots in
    let step = c.advance.ensures.step ∙ inv.step in
    let count = c.advance.ensures.slots ∙ inv.slots in
    elim c.if-home-begin.branch [
      | then-home-begin+else-left-eq0+else-not-add w ↦
          let own : IsMet homes begin w.add.new.self.prints (slot_on_path (length homes) begin i) = record { home = h; there = there; kept = λ _. w.add.ensures.added w.if-not-add.false } in
          record {
            place = place;
            step = step;
            slots = count;
            met = rw w.self-is (below_more _ _ (λ j lt. met_still homes begin c.loop-steps.self.prints w.add.new.self.prints (slot_on_path (length homes) begin j) w.add.ensures.kept (inv.met j lt)) own);
            found = rw w.self-is (λ slots are size old. still_found slots homes begin c.loop-steps.self.prints are size i c.loop-steps-test.true inv.met h there w.if-home-begin.true c.loop-steps.path.place inv.place c.loop-steps.self.places.items w.add.new.self.places.items (inv.found slots are size old) w.add.ensures.places);
          }
      | else-home-begin w ↦
          let own : IsMet homes begin c.loop-steps.self.prints (slot_on_path (length homes) begin i) = record { home = h; there = there; kept = λ is. absurd (w.if-home-begin.false is) } in
          record {
            place = place;
            step = step;
            slots = count;
            met = rw w.self-is (below_more _ _ inv.met own);
            found = rw w.self-is inv.found;
          }
    ]
