use Rattle.std.proofs.Common.{◌≡◌, ◌==◌, position, Some, refl, sym}
use Rattle.index_model.specs.Abbreviations as meant
use Rattle.entry_scan.proofs.AbbreviationLookup.{find_none, head_found}
use Rattle.entry_scan.proofs.abbreviations.Abbrevs.shape.Goals as goal

pub returns-in_err-index_of-clause-value : goal.returns-in_err-index_of-clause-value
returns-in_err-index_of-clause-value c =
    rw c.from_residual.ensures (sym (find_none (λ (a : meant.Abbrev). a.code == c.args.code) c.args.self.now (sym c.in_err-index_of.ensures)))

pub returns-clause-value : goal.returns-clause-value
returns-clause-value c =
    let h = c.index-head.result.now in
    let own : position (λ (a : meant.Abbrev). a.code == c.args.code) c.args.self.now ≡ Some c.in_ok-index_of.field-0 = sym c.in_ok-index_of.ensures in
    let at = rw (← c.self.view_is) at own in
    let p = head_found c.self.inside.specs.items c.self.inside.heads.items c.args.code c.in_ok-index_of.field-0 h at c.index-head.ensures in
    let specs = c.deref.ensures.value in
    rw (← c.self.view_is, p.0, ← p.1, specs) refl
