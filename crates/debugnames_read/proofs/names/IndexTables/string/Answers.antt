use Rattle.std.proofs.Common.{◌<◌, ◌≤◌, sym, ◌∙◌, arith}
use Rattle.index_model.specs.Layout.{nth}
use Rattle.debugnames_read.specs.Names.{tables_of}
use Rattle.debugnames_read.proofs.Counted.{string_total}
use Rattle.debugnames_read.proofs.NameLaws.{string_below, string_from}
use Rattle.debugnames_read.proofs.names.IndexTables.string.Goals as goal

pub get-offset-requires : goal.get-offset-requires
get-offset-requires c = omega (arith, string_total c.args.self.now.tables, c.requires)

pub returns-then-offset-self : goal.returns-then-offset-self
returns-then-offset-self c =
    let n = c.args.self.now in
    let below : nth (tables_of n).strings.numbers c.args.number < n.base = omega (arith, c.get-offset.ensures, c.if-offset-self.true) in
    sym (string_below (tables_of n) n.strings.now n.base c.args.number below)

pub returns : goal.returns
returns c =
    let n = c.args.self.now in
    let le : n.base ≤ nth (tables_of n).strings.numbers c.args.number = omega (arith, c.get-offset.ensures, c.if-offset-self.false) in
    c.text_at.ensures ∙ rw (c.get-offset.ensures) (sym (string_from (tables_of n) n.strings.now n.base c.args.number le))
