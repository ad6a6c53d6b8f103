use Rattle.std.proofs.Common.{◌≡◌, ap}
use Rattle.entry_scan.specs.declared.abbreviation.AbbrevsSoFar.{AbbrevsSoFar}
use Rattle.entry_scan.specs.AbbreviationTables.{head_seen}
use Rattle.entry_scan.proofs.AbbreviationKept.{head_added, all_added}
use Rattle.entry_scan.proofs.abbreviation.read_abbrev.Goals as goal
use Rattle.entry_scan.proofs.abbreviation.read_abbrev.Goals.{then-not-is_empty+in_ok-push, else-not-is_empty+else-code-index}

pub returns-clause-value : goal.returns-clause-value
returns-clause-value c =
    let specs : c.if-not-is_empty.parts.specs.items ≡ c.read_head.new.specs.items = elim c.if-not-is_empty.branch [ then-not-is_empty+in_ok-push w ↦ ap (λ (p : AbbrevsSoFar). p.specs.items) w.parts-is | else-not-is_empty+else-code-index w ↦ ap (λ (p : AbbrevsSoFar). p.specs.items) w.parts-is ] in
    let heads : c.if-not-is_empty.parts.heads.items ≡ c.args.parts.now.heads.items = elim c.if-not-is_empty.branch [ then-not-is_empty+in_ok-push w ↦ ap (λ (p : AbbrevsSoFar). p.heads.items) w.parts-is | else-not-is_empty+else-code-index w ↦ ap (λ (p : AbbrevsSoFar). p.heads.items) w.parts-is ] in
    let h = c.in_ok-head.head in
    (head_seen c.read_head.new.specs.items h, c.in_ok-head.ensures.value, rw (c.in_ok-push-2.ensures.items, specs, heads) (head_added c.args.parts.now.specs.items c.read_head.new.specs.items c.args.parts.now.heads.items h c.requires.within c.in_ok-head.ensures.kept))

pub returns-clause-within : goal.returns-clause-within
returns-clause-within c =
    let specs : c.if-not-is_empty.parts.specs.items ≡ c.read_head.new.specs.items = elim c.if-not-is_empty.branch [ then-not-is_empty+in_ok-push w ↦ ap (λ (p : AbbrevsSoFar). p.specs.items) w.parts-is | else-not-is_empty+else-code-index w ↦ ap (λ (p : AbbrevsSoFar). p.specs.items) w.parts-is ] in
    let heads : c.if-not-is_empty.parts.heads.items ≡ c.args.parts.now.heads.items = elim c.if-not-is_empty.branch [ then-not-is_empty+in_ok-push w ↦ ap (λ (p : AbbrevsSoFar). p.heads.items) w.parts-is | else-not-is_empty+else-code-index w ↦ ap (λ (p : AbbrevsSoFar). p.heads.items) w.parts-is ] in
    let h = c.in_ok-head.head in
    rw (c.in_ok-push-2.ensures.items, specs, heads) (all_added c.args.parts.now.specs.items c.read_head.new.specs.items c.args.parts.now.heads.items h c.requires.within c.in_ok-head.ensures.kept c.in_ok-head.ensures.within)
