use Rattle.std.proofs.Common.{option_map, sym, ◌∙◌, ap}
use Rattle.entry_scan.specs.declared.abbreviations.Shape.{Shape}
use Rattle.entry_scan.specs.SeenAbbreviations.{abbrev_seen}
use Rattle.entry_scan.specs.Tokens.{levels_seen, joint}
use Rattle.entry_scan.proofs.EntryLaws.{code_cut, null_read, code_unknown, entry_next, code_free, joint_cut, joint_code}
use Rattle.entry_scan.proofs.token.UnitAbbrevs.token.Goals as goal

pub returns-in_default-clause-value : goal.returns-in_default-clause-value
returns-in_default-clause-value c = code_cut _ _ (levels_seen c.args.levels) _ (joint_cut c.args.self.now.unit.start c.args.cursor.now c.in_default.ensures.value.0)

pub returns-then-is_null-clause-value : goal.returns-then-is_null-clause-value
returns-then-is_null-clause-value c =
    let code = joint_code c.args.self.now.unit.start _ c.args.cursor.now c.uleb.new.self c.in-Some.ensures.value in
    rw c.offset.ensures (null_read _ _ (levels_seen c.args.levels) _ _ _ code (sym c.is_null.ensures ∙ c.if-is_null.true))

pub returns-in_default-shape-clause-value : goal.returns-in_default-shape-clause-value
returns-in_default-shape-clause-value c =
    let code = joint_code c.args.self.now.unit.start _ c.args.cursor.now c.uleb.new.self c.in-Some.ensures.value in
    code_unknown _ _ (levels_seen c.args.levels) _ _ _ code (sym c.is_null.ensures ∙ c.if-is_null.false) (sym c.shape.ensures.value ∙ ap (option_map (λ (s : Shape). abbrev_seen c.in-Some.code s.abbrev)) c.in_default-shape.is)

pub returns-clause-value : goal.returns-clause-value
returns-clause-value c =
    let code = joint_code c.args.self.now.unit.start _ c.args.cursor.now c.uleb.new.self c.in-Some.ensures.value in
    let found = sym c.shape.ensures.value ∙ ap (option_map (λ (s : Shape). abbrev_seen c.in-Some.code s.abbrev)) c.in-Some-shape.is in
    let entry = entry_next c.args.self.now.unit c.args.self.now.abbrevs.now (levels_seen c.args.levels) (joint c.args.self.now.unit.start c.args.cursor.now) _ _ code (sym c.is_null.ensures ∙ c.if-is_null.false) (abbrev_seen c.in-Some.code c.in-Some-shape.shape.abbrev) found in
    let free = code_free c.args.self.now.unit c.args.self.now.abbrevs.now (levels_seen c.args.levels) (joint c.args.self.now.unit.start c.args.cursor.now).at c.in-Some.code c.in-Some-shape.shape.abbrev (joint c.args.self.now.unit.start c.uleb.new.self) in
    let value = rw c.offset-at.ensures at c.entry.ensures.value in
    rw (entry ∙ free) value
