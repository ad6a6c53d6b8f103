use Rattle.std.proofs.Common.{◌≡◌, ◌<◌, ◌≤◌, ◌-◌, ℕ, Some, None, ap, sym, ◌∙◌, arith}
use Rattle.std.proofs.lemmas.List.{take_rest}
use Rattle.ix_base.specs.Reading.{before_zero}
use Rattle.index_model.specs.Layout.{nth}
use Rattle.debugnames_read.specs.Names.{tables_of}
use Rattle.string_ends.specs.Texts.{text_in}
use Rattle.debugnames_read.proofs.Counted.{string_total}
use Rattle.debugnames_read.proofs.NameLaws.{string_below, string_from}
use Rattle.string_ends.proofs.TextLaws.{text_from, text_inside}
use Rattle.debugnames_read.proofs.names.IndexTables.has_text.Goals as goal

pub get-offset-requires : goal.get-offset-requires
get-offset-requires c = omega (arith, string_total c.args.self.now.tables, c.requires)

pub returns-then-offset-self : goal.returns-then-offset-self
returns-then-offset-self c = λ text e.
    let n = c.args.self.now in
    let below : nth (tables_of n).strings.numbers c.args.number < n.base = omega (arith, c.get-offset.ensures, c.if-offset-self.true) in
    let clash : None ≡ Some text = sym (string_below (tables_of n) n.strings.now n.base c.args.number below) ∙ e in
    absurd (cc)

pub returns-then-offset-self-2 : goal.returns-then-offset-self-2
returns-then-offset-self-2 c = λ text e.
    let n = c.args.self.now in
    let k = c.args.number in
    let le : n.base ≤ nth (tables_of n).strings.numbers k = omega (arith, c.get-offset.ensures, c.if-offset-self.false) in
    let inside = text_inside n.strings.now text _ (sym (string_from (tables_of n) n.strings.now n.base k le) ∙ e) in
    absurd (omega (arith, inside, c.get-offset.ensures, c.if-offset-self-2.true))

pub returns : goal.returns
returns c = λ text e.
    let n = c.args.self.now in
    let k = c.args.number in
    let le : n.base ≤ nth (tables_of n).strings.numbers k = omega (arith, c.get-offset.ensures, c.if-offset-self.false) in
    let offset : ℕ = c.get-offset.result - n.base in
    let there : text_in n.strings.now offset ≡ Some text = ap (λ (o : ℕ). text_in n.strings.now (o - n.base)) c.get-offset.ensures ∙ sym (string_from (tables_of n) n.strings.now n.base k le) ∙ e in
    c.is_text.ensures.text text (ap before_zero (take_rest n.strings.now offset) ∙ text_from n.strings.now text offset there)
