use Rattle.std.proofs.Common.{sym, ◌∙◌, arith}
use Rattle.entry_scan.specs.SeenAbbreviations.{abbrev_seen}
use Rattle.entry_scan.specs.Tokens.{levels_seen, joint}
use Rattle.entry_scan.proofs.EntryLaws.{too_deep, no_root, bad_value, entry_read, joint_values, joint_fault}
use Rattle.entry_scan.proofs.MarkLaws.{values_marked}
use Rattle.entry_scan.proofs.token.UnitAbbrevs.entry.Goals as goal

pub returns-then-levels-gt-MAX_DEPTH-clause-value : goal.returns-then-levels-gt-MAX_DEPTH-clause-value
returns-then-levels-gt-MAX_DEPTH-clause-value c = too_deep _ _ (levels_seen c.args.levels) _ _ _ c.if-levels-gt-MAX_DEPTH.true

pub returns-then-not-may_stand-clause-value : goal.returns-then-not-may_stand-clause-value
returns-then-not-may_stand-clause-value c = no_root _ _ (levels_seen c.args.levels) _ (abbrev_seen 0 c.args.shape.abbrev) _ c.if-levels-gt-MAX_DEPTH.false (sym c.may_stand.ensures ∙ c.if-not-may_stand.true)

pub returns-in-Err-clause-value : goal.returns-in-Err-clause-value
returns-in-Err-clause-value c =
    let fault = joint_fault c.args.self.now.unit c.args.self.now.abbrevs.now c.args.shape.abbrev.specs.now c.args.self.now.unit.start c.args.cursor.now _ c.in-Err.ensures.value in
    bad_value _ _ (levels_seen c.args.levels) _ (abbrev_seen 0 c.args.shape.abbrev) _ c.if-levels-gt-MAX_DEPTH.false (sym c.may_stand.ensures ∙ c.if-not-may_stand.false) _ fault

pub returns-clause-value : goal.returns-clause-value
returns-clause-value c =
    let read = joint_values c.args.self.now.unit c.args.self.now.abbrevs.now c.args.shape.abbrev.specs.now c.args.self.now.unit.start c.args.cursor.now c.pass_all.new.cursor c.in_default.ensures.value in
    let made = entry_read c.args.self.now.unit c.args.self.now.abbrevs.now (levels_seen c.args.levels) c.args.at (abbrev_seen 0 c.args.shape.abbrev) (joint c.args.self.now.unit.start c.args.cursor.now) c.if-levels-gt-MAX_DEPTH.false (sym c.may_stand.ensures ∙ c.if-not-may_stand.false) _ _ read in
    rw (c.offset.ensures, c.copied-begin.ensures) made

pub invariant_of-result : goal.invariant_of-result
invariant_of-result c = (
  c.if-levels-gt-MAX_DEPTH.false,
  c.requires.place,
  omega (arith, c.offset.ensures, c.pass_all.ensures.place.end, c.requires.small),
  values_marked _ c.args.shape.marks c.args.shape.abbrev.specs.now _ c.requires.marks,
  (c.pass_all.new.cursor, rw c.copied-begin.ensures c.in_default.ensures.value),
  c.requires.jumps,
)
