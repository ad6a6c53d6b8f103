use Rattle.std.proofs.Common.{Bool, eqb, ap, sym, ◌∙◌}
use mathlib.Core.Bool.{◌||◌}
use Rattle.index_model.specs.Hashes.{name_hash}
use Rattle.index_model.specs.Layout.{nth}
use Rattle.debugnames_read.specs.Names.{tables_of}
use Rattle.debugnames_read.proofs.NameLaws.{hashed_text}
use Rattle.debugnames_read.proofs.names.IndexTables.has_hash.Goals as goal

pub returns-then-known : goal.returns-then-known
returns-then-known c name there =
    let n = c.args.self.now in
    let k = c.args.number in
    let h = c.in-Some.known in
    let is = hashed_text n k h name there (c.requires.known h c.in-Some.is) in
    c.if-known.true ∙ sym (ap (λ (b : Bool). b || eqb (nth (tables_of n).hashes.numbers k) (name_hash name)) (sym is.1 ∙ c.if-known.true))

pub returns-else-known : goal.returns-else-known
returns-else-known c name there =
    let n = c.args.self.now in
    let k = c.args.number in
    let h = c.in-Some.known in
    let is = hashed_text n k h name there (c.requires.known h c.in-Some.is) in
    c.has_number.ensures ∙ ap (eqb (nth (tables_of n).hashes.numbers k)) is.0 ∙ sym (ap (λ (b : Bool). b || eqb (nth (tables_of n).hashes.numbers k) (name_hash name)) (sym is.1 ∙ c.if-known.false))
