use Rattle.std.proofs.Common.{List, suc, Result, sym, subst, ◌∙◌, arith}
use Rattle.std.specs.List.{All}
use Rattle.std.specs.Prelude.{IfOk, Ok}
use Rattle.index_model.specs.Sections.{Section}
use Rattle.ix_base.specs.declared.fault.NoMemory.{NoMemory}
use Rattle.gdb_texts.specs.declared.kept.PlacedName.{PlacedName}
use Rattle.gdb_texts.specs.Spelled.{IsPlaced}
use Rattle.gdb_texts.proofs.kept.SpelledTexts.new.Goals as goal

pub loop-name-init : goal.loop-name-init
loop-name-init g c = record { same = c.none-texts.ensures; left = rw c.into_iter-name-iterator.ensures.into_iter_gives.0 c.in_ok-names.ensures }

pub keep-requires : goal.keep-requires
keep-requires g c =
    let is = (rw c.in_ok-name.was at c.in-Some.ensures.steps).0 in
    let all = subst (All (λ (name : Result PlacedName NoMemory). IfOk name (IsPlaced c.args.sections.now))) is c.loop-name.invariant.left in
    subst (λ (ss : List Section). IsPlaced ss c.in_ok-name.field-0) (sym c.loop-name.invariant.same) (all 0 (Ok c.in_ok-name.field-0) (omega arith))

pub loop-name-preserved : goal.loop-name-preserved
loop-name-preserved g c =
    let is = (rw c.in_ok-name.was at c.in-Some.ensures.steps).0 in
    let all = subst (All (λ (name : Result PlacedName NoMemory). IfOk name (IsPlaced c.args.sections.now))) is c.loop-name.invariant.left in
    record { same = c.in_ok-keep.ensures ∙ c.loop-name.invariant.same; left = λ k d lt. all (suc k) d (omega (arith, lt)) }

pub returns : goal.returns
returns g c = c.loop-name.invariant.same
