use Rattle.std.proofs.Common.{◌≡◌, ℕ, ◌<◌, List, [], ◌∷◌, ◌++◌, Option, length, sym, subst, ◌∙◌, arith}
use Rattle.std.specs.Prelude.{Contains}
use Rattle.std.proofs.lemmas.List.Elements.{Contains-push}
use Rattle.gdb_units.specs.Imported.{targets_in}
use Rattle.gdb_units.specs.Spread.{Claims}
use Rattle.gdb_units.proofs.TargetLaws.{kept_of}
use Rattle.gdb_units.proofs.SpreadLaws.{Spreading, waiting_within, goes_on, spread_ends, nil_of}
use Rattle.gdb_units.proofs.spread.spread.Goals as goal

-- who waited for longest in the rest, and waits no more
last_within : (targets : ℕ → List ℕ) (owner : ℕ) (old new : List (Option ℕ)) (waits rest : List ℕ) (unit n : ℕ) → waits ≡ rest ++ unit ∷ [] → Spreading targets owner old new waits → owner < n → length old ≡ n → unit < n
last_within targets owner old new waits rest unit n is s lt long =
    let waited : Contains waits unit = subst (λ (ws : List ℕ). Contains ws unit) (sym is) (Contains-push rest unit) in
    omega (arith, waiting_within targets owner old new waits unit s (omega (arith, lt, long)) waited, long)

pub bounds-targets-unit : goal.bounds-targets-unit
bounds-targets-unit c = last_within (targets_in c.args.targets.now) c.args.owner c.args.owners.now c.loop-unit.owners c.loop-unit.waiting.items c.pop.new.self.items c.in-Some.unit (length c.args.targets.now) c.in-Some.ensures.items c.loop-unit.invariant c.requires.within c.requires.length

pub offset_bounds-targets-unit : goal.offset_bounds-targets-unit
offset_bounds-targets-unit c = omega (arith, last_within (targets_in c.args.targets.now) c.args.owner c.args.owners.now c.loop-unit.owners c.loop-unit.waiting.items c.pop.new.self.items c.in-Some.unit (length c.args.targets.now) c.in-Some.ensures.items c.loop-unit.invariant c.requires.within c.requires.length)

pub loop-unit-preserved : goal.loop-unit-preserved
loop-unit-preserved c =
    let targets = targets_in c.args.targets.now in
    let owner = c.args.owner in
    let old = c.args.owners.now in
    let mid = c.loop-unit.owners in
    let new = c.claim_each.new.owners in
    let rest = c.pop.new.self.items in
    let waits = c.claim_each.new.waiting.items in
    let unit = c.in-Some.unit in
    let within : unit < length c.args.targets.now = last_within targets owner old mid c.loop-unit.waiting.items rest unit (length c.args.targets.now) c.in-Some.ensures.items c.loop-unit.invariant c.requires.within c.requires.length in
    let own : c.as_slice.result.now ≡ targets unit = c.as_slice.ensures.value ∙ kept_of c.args.targets.now unit c.index-targets-unit.result within c.index-targets-unit.is in
    goes_on targets owner old mid new rest waits unit
    (subst (λ (ws : List ℕ). Spreading targets owner old mid ws) c.in-Some.ensures.items c.loop-unit.invariant)
    (subst (λ (us : List ℕ). Claims us owner mid rest new waits) own c.in_ok-claim_each.ensures.claims)

pub returns-clause-spreads : goal.returns-clause-spreads
returns-clause-spreads c =
    let targets = targets_in c.args.targets.now in
    let none : c.loop-unit.waiting.items ≡ [] = nil_of c.loop-unit.waiting.items (omega (arith, c.in_default.ensures.cases.0)) in
    spread_ends targets c.args.owner c.args.owners.now c.loop-unit.owners (subst (λ (ws : List ℕ). Spreading targets c.args.owner c.args.owners.now c.loop-unit.owners ws) none c.loop-unit.invariant)
