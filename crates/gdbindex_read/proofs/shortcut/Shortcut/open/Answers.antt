use Rattle.std.proofs.Common.{length, sym, ◌∙◌}
use Rattle.std.proofs.lemmas.Bool.{eqb-true}
use Rattle.gdbindex_read.specs.Areas.{areas_seen}
use Rattle.gdbindex_read.proofs.Shortcuts.{no_bytes, no_language, named, unnamed}
use Rattle.gdbindex_read.proofs.shortcut.Shortcut.open.Goals as goal

pub returns-then-is_empty : goal.returns-then-is_empty
returns-then-is_empty c = no_bytes (areas_seen c.args.areas.now) (eqb-true (length c.args.areas.now.shortcut.bytes.now) 0 (sym c.is_empty.ensures ∙ c.if-is_empty.true))

pub returns-then-language-eq0 : goal.returns-then-language-eq0
returns-then-language-eq0 c = no_language (areas_seen c.args.areas.now) (sym c.u32_at-language.ensures ∙ c.if-language-eq0.true)

pub returns-in-Some : goal.returns-in-Some
returns-in-Some c = rw c.u32_at-language.ensures (named (areas_seen c.args.areas.now) (λ z. c.if-language-eq0.false (c.u32_at-language.ensures ∙ z)) c.in-Some.name.now (sym (rw c.u32_at.ensures at c.in-Some.ensures)))

pub returns-in-None : goal.returns-in-None
returns-in-None c = rw c.fault.ensures (unnamed (areas_seen c.args.areas.now) (λ z. c.if-language-eq0.false (c.u32_at-language.ensures ∙ z)) (sym (rw c.u32_at.ensures at c.in-None.ensures)))
