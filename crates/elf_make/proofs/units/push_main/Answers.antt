use Rattle.std.proofs.Common.{◌++◌, ap, sym, ◌∙◌}
use Rattle.std.proofs.lemmas.Bool.{eq-eqb, ne_eqb}
use Rattle.std.proofs.lemmas.List.{append-nil}
use Rattle.elf_make.proofs.Chains.{◌▸◌, nothing}
use Rattle.elf_make.proofs.Encodings.{main_bytes, main_is}
use Rattle.elf_make.proofs.units.push_main.Goals as goal

pub returns-in_ok-push_addresses : goal.returns-in_ok-push_addresses
returns-in_ok-push_addresses c =
    let parts = c.in_ok-push.ensures.items ▸ c.in_ok-push_text.ensures ▸ c.in_ok-push_addresses.ensures ▸ nothing _ in
    let main = main_is c.args.low c.args.index ∙ ap (λ first. main_bytes first c.args.low) (eq-eqb _ _ c.if-index-eq0.true) in
    parts.is ∙ ap (λ xs. c.args.out.now.items ++ xs) (sym main)

pub returns-else-index-eq0 : goal.returns-else-index-eq0
returns-else-index-eq0 c =
    let main = main_is c.args.low c.args.index ∙ ap (λ first. main_bytes first c.args.low) (ne_eqb _ _ c.if-index-eq0.false) in
    sym (append-nil _) ∙ ap (λ xs. c.args.out.now.items ++ xs) (sym main)
