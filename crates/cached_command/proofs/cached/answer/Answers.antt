use Rattle.std.proofs.Common.{ℕ, List, Option, sym, ap, subst, ◌∙◌}
use Rattle.std.specs.Prelude.{option_map}
use Rattle.query_text.specs.Questions.{question_seen}
use Rattle.outside.specs.Counts.{Rose}
use Rattle.command_base.specs.Replies.{Wrote}
use Rattle.cached_command.specs.Askings.{IsMissedAt}
use Rattle.cached_command.specs.Buildings.{CausesOfBuilt, SaysBuilt}
use Rattle.cached_command.proofs.SpotLaws.{built_causes, built_wrote, early_fault, early_place, hit_wrote, missed_is, place_spot, spot_behind}
use Rattle.cached_command.proofs.cached.answer.Goals as goal

pub returns-in-Ended-clause-wrote : goal.returns-in-Ended-clause-wrote
returns-in-Ended-clause-wrote g c =
    let file = c.args.board.now.subject.file in
    let store = c.args.store.now in
    let spot = spot_behind c.as_ref-place.result in
    let own = place_spot file store c.as_ref-place.result c.in-Ok.place (option_map (λ i. i.now) c.image.result) c.as_ref-place.ensures.value c.in-Ok.ensures.place c.image.ensures in
    hit_wrote file store (g.F.Shelf.files c.args.shelf.now) (g.F.Shelf.files c.ask.new.shelf) (question_seen c.args.question.now) (Rose (g.F.Shelf.kept_faults c.args.shelf.now) (g.F.Shelf.kept_faults c.ask.new.shelf)) (Rose (g.F.Shelf.store_faults c.args.shelf.now) (g.F.Shelf.store_faults c.ask.new.shelf)) c.in-Ended.ensures.same spot own c.in-Ended.status (g.K.Sink.written c.args.out.now) (g.K.Sink.written c.ask.new.out) c.in-Ended.ensures.wrote

pub returns-in-Ok-clause-wrote : goal.returns-in-Ok-clause-wrote
returns-in-Ok-clause-wrote g c =
    let file = c.args.board.now.subject.file in
    let store = c.args.store.now in
    let q = question_seen c.args.question.now in
    let why = c.in-Missed.stale in
    let spot = spot_behind c.as_ref-place.result in
    let own = place_spot file store c.as_ref-place.result c.in-Ok.place (option_map (λ i. i.now) c.image.result) c.as_ref-place.ensures.value c.in-Ok.ensures.place c.image.ensures in
    let before = g.F.Shelf.files c.args.shelf.now in
    let mid = g.F.Shelf.files c.ask.new.shelf in
    let after = g.F.Shelf.files c.build.new.shelf in
    let new = g.K.Sink.written c.build.new.out in
    let kept = g.F.Shelf.kept_faults c.args.shelf.now in
    let stores = g.F.Shelf.store_faults c.build.new.shelf in
    let kept_reads = Rose kept (g.F.Shelf.kept_faults c.build.new.shelf) in
    let rose = Rose (g.F.Shelf.store_faults c.args.shelf.now) stores in
    let at = subst (λ (n : ℕ). IsMissedAt before spot (Rose kept n) why) (sym c.build.ensures.kept_reads) c.in-Missed.ensures.missed in
    let missed = missed_is file store before kept_reads spot own why at in
    let told = subst (λ (n : ℕ). Wrote (SaysBuilt mid after (Rose n stores) file spot why q) c.build.result (g.K.Sink.written c.ask.new.out) new) c.in-Missed.ensures.stores c.build.ensures.wrote in
    let w = subst (λ (o : Option (List ℕ)). Wrote (SaysBuilt mid after rose file spot why q) c.build.result o new) (ap g.K.Sink.written c.in-Missed.ensures.quiet) told in
    built_wrote file store before mid after q kept_reads rose c.in-Missed.ensures.same why spot own missed c.build.result (g.K.Sink.written c.args.out.now) new w

pub returns-in-Ok-clause-causes : goal.returns-in-Ok-clause-causes
returns-in-Ok-clause-causes g c =
    let file = c.args.board.now.subject.file in
    let store = c.args.store.now in
    let q = question_seen c.args.question.now in
    let why = c.in-Missed.stale in
    let spot = spot_behind c.as_ref-place.result in
    let own = place_spot file store c.as_ref-place.result c.in-Ok.place (option_map (λ i. i.now) c.image.result) c.as_ref-place.ensures.value c.in-Ok.ensures.place c.image.ensures in
    let before = g.F.Shelf.files c.args.shelf.now in
    let mid = g.F.Shelf.files c.ask.new.shelf in
    let after = g.F.Shelf.files c.build.new.shelf in
    let kept = g.F.Shelf.kept_faults c.args.shelf.now in
    let kept_reads = Rose kept (g.F.Shelf.kept_faults c.build.new.shelf) in
    let rose = Rose (g.F.Shelf.store_faults c.args.shelf.now) (g.F.Shelf.store_faults c.build.new.shelf) in
    let at = subst (λ (n : ℕ). IsMissedAt before spot (Rose kept n) why) (sym c.build.ensures.kept_reads) c.in-Missed.ensures.missed in
    let missed = missed_is file store before kept_reads spot own why at in
    let writes = g.K.Sink.write_faults c.build.new.out in
    let causes = subst (λ (n : ℕ). CausesOfBuilt mid after file (Rose n writes) c.build.result) (ap g.K.Sink.write_faults c.in-Missed.ensures.quiet) c.build.ensures.causes in
    built_causes file store before mid after q kept_reads rose c.in-Missed.ensures.same why spot own missed (Rose (g.K.Sink.write_faults c.args.out.now) writes) c.build.result causes

pub returns-in-Ok-clause-untouched : goal.returns-in-Ok-clause-untouched
returns-in-Ok-clause-untouched g c = λ f e.
    let file = c.args.board.now.subject.file in
    let store = c.args.store.now in
    let none = early_place file store f e c.as_ref-place.result c.in-Ok.place (option_map (λ i. i.now) c.image.result) c.as_ref-place.ensures.value c.in-Ok.ensures.place c.image.ensures in
    c.build.ensures.untouched f (early_fault file store f e) ∙ c.in-Missed.ensures.untouched none
