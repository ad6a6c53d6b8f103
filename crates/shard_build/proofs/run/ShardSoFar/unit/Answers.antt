use Rattle.std.proofs.Common.{◌≡◌, ℕ, ◌+◌, ◌-◌, Ok, List, reverse, refl, sym, ap, subst, ◌∙◌, rules}
use Rattle.std.specs.Prelude.{Contains}
use Rattle.ix_base.specs.Reading.{Input}
use Rattle.index_model.specs.declared.unit.Unit.{Unit as UnitHeader}
use Rattle.index_model.specs.Faults.{scanned}
use Rattle.index_model.specs.Gives.{StopsAs}
use Rattle.index_model.specs.LawsTexts.{StandsIn}
use Rattle.index_model.specs.Program.{items_of}
use Rattle.index_model.specs.Walk.{Walk, walk_of, items}
use Rattle.index_model.proofs.TextLaws.{attribute_texts_in}
use Rattle.shard_build.specs.declared.kept.ItemsSoFar.{ItemsSoFar}
use Rattle.shard_build.specs.declared.open.Open.{Open}
use Rattle.shard_build.specs.declared.run.ShardSoFar.{ShardSoFar}
use Rattle.shard_build.specs.Kept.{kept_seen}
use Rattle.shard_build.specs.Tokens.{behind_walk}
use Rattle.shard_build.proofs.RunLaws.{holds_more, body_is}
use Rattle.shard_build.proofs.UnitEnd.{Starts, w, is_walked, unit_ok, unit_stops}
use Rattle.shard_build.proofs.run.ShardSoFar.unit.Goals as goal

pub walk-requires-clause-texts : goal.walk-requires-clause-texts
walk-requires-clause-texts c = λ d member n text is.
    let ss = c.args.home.now.sections.now in
    let unit = c.args.home.now.unit in
    let u : ℕ × UnitHeader = (c.args.home.now.number, unit) in
    let rest = body_is ss unit c.args.home.now.bytes.now c.requires.own c.requires.header in
    let walk : c.new.result ≡ (w ss u c.args.abbrevs.now c.requires.table).walk = c.new.ensures ∙ ap (λ (xs : List ℕ). let i : Input = record { at = unit.start + unit.body; rest = xs } in walk_of unit c.args.abbrevs.now i) rest in
    let here : Contains (items_of (w ss u c.args.abbrevs.now c.requires.table)) d = subst (λ (x : Walk). Contains (items x) d) walk member in
    subst (λ (bytes : List ℕ). StandsIn bytes text (d.at - unit.start) (d.after - unit.start)) (sym c.requires.own) (attribute_texts_in ss u (w ss u c.args.abbrevs.now c.requires.table) (is_walked ss u c.args.abbrevs.now c.requires.table) d here n text is)

pub returns-in_err-walk : goal.returns-in_err-walk
returns-in_err-walk c =
    let ss = c.args.home.now.sections.now in
    let unit = c.args.home.now.unit in
    let u : ℕ × UnitHeader = (c.args.home.now.number, unit) in
    let rest = body_is ss unit c.args.home.now.bytes.now c.requires.own c.requires.header in
    let walk : c.new.result ≡ (w ss u c.args.abbrevs.now c.requires.table).walk = c.new.ensures ∙ ap (λ (xs : List ℕ). let i : Input = record { at = unit.start + unit.body; rest = xs } in walk_of unit c.args.abbrevs.now i) rest in
    let k : ItemsSoFar = record { frame = c.blank-self.result; opened = c.clear.new.self; nodes = c.args.self.now.kept.nodes; spans = c.args.self.now.kept.spans; imports = c.args.self.now.kept.imports; places = c.args.self.now.kept.places } in
    let starts : Starts (kept_seen k) = record { frame = c.blank-self.ensures; opened = ap (λ (os : List Open). reverse os) c.clear.ensures.items } in
    let stop = c.in_err-walk.field-0.0 in
    let here : StopsAs stop (behind_walk ss u (kept_seen k) (w ss u c.args.abbrevs.now c.requires.table).walk) = subst (λ (x : Walk). StopsAs stop (behind_walk ss u (kept_seen k) x)) walk c.in_err-walk.ensures.value in
    let stops : StopsAs stop (scanned ss u) = unit_stops ss u c.args.abbrevs.now c.requires.table (kept_seen k) starts stop here in
    search rules

pub returns : goal.returns
returns c =
    let ss = c.args.home.now.sections.now in
    let unit = c.args.home.now.unit in
    let u : ℕ × UnitHeader = (c.args.home.now.number, unit) in
    let rest = body_is ss unit c.args.home.now.bytes.now c.requires.own c.requires.header in
    let walk : c.new.result ≡ (w ss u c.args.abbrevs.now c.requires.table).walk = c.new.ensures ∙ ap (λ (xs : List ℕ). let i : Input = record { at = unit.start + unit.body; rest = xs } in walk_of unit c.args.abbrevs.now i) rest in
    let k : ItemsSoFar = record { frame = c.blank-self.result; opened = c.clear.new.self; nodes = c.args.self.now.kept.nodes; spans = c.args.self.now.kept.spans; imports = c.args.self.now.kept.imports; places = c.args.self.now.kept.places } in
    let starts : Starts (kept_seen k) = record { frame = c.blank-self.ensures; opened = ap (λ (os : List Open). reverse os) c.clear.ensures.items } in
    let here = subst (λ (x : Walk). behind_walk ss u (kept_seen k) x ≡ Ok (kept_seen c.walk.new.self)) walk c.in_ok-walk.ensures.value in
    let ok = unit_ok ss u c.args.abbrevs.now c.requires.table (kept_seen k) starts (kept_seen c.walk.new.self) here in
    let new : ShardSoFar = record { roots = c.push.new.self; kept = c.walk.new.self } in
    rw ok.0 (holds_more ss c.args.self.now new (w ss u c.args.abbrevs.now c.requires.table) (kept_seen k) refl c.in_ok-walk.ensures.strings refl refl ok.1 c.in_ok-push.ensures.items)
