use Rattle.std.proofs.Common.{ℕ, List, [], ap, sym, ◌∙◌}
use Rattle.std.specs.Prelude.{Option, bytes_eq, unwrap_or}
use Rattle.debugnames_read.proofs.HitLaws.{other_name, text_at}
use Rattle.debugnames_read.proofs.names.IndexTables.is_named.Goals as goal

pub returns-then-has_other_hash : goal.returns-then-has_other_hash
returns-then-has_other_hash c = sym (other_name c.args.self.now c.requires.opened c.args.sought.now c.args.number c.requires.hash c.requires.within (sym c.has_other_hash.ensures ∙ c.if-has_other_hash.true))

pub returns : goal.returns
returns c =
    let s = text_at c.args.self.now c.requires.opened c.args.number c.requires.within in
    c.has_text.ensures s.0 s.1 ∙ sym (ap (λ (o : Option (List ℕ)). bytes_eq (unwrap_or o []) c.args.sought.now.name.now) s.1)
