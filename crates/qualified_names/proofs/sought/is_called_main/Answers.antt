use Rattle.std.proofs.Common.{ℕ, List, Bool, ◌&&◌, Option, unwrap_or, [], sym, ap, ◌∙◌}
use Rattle.std.specs.Prelude.{bytes_eq, codes}
use Rattle.std.proofs.lemmas.Bool.{eq-eqb, ne_eqb}
use Rattle.qualified_names.proofs.LinkLaws.{is_named, length_is}
use Rattle.qualified_names.proofs.NameLaws.{main_by_length}
use Rattle.qualified_names.proofs.sought.is_called_main.Goals as goal

pub returns-then-entry : goal.returns-then-entry
returns-then-entry c p k h on =
    let x = c.args.entry.now in
    c.eq.ensures ∙
    ap (λ (b : Bool). b && bytes_eq x.name.now (codes "main")) (sym (eq-eqb x.length 4 c.if-entry.true)) ∙
    main_by_length k.class k.path x.name.now x.length (length_is p x k h) on ∙
    ap (λ (o : Option (List ℕ)). bytes_eq (unwrap_or o []) (codes "main")) (sym (is_named p x k h).qualified)

pub returns-else-entry : goal.returns-else-entry
returns-else-entry c p k h on =
    let x = c.args.entry.now in
    let no_match = ne_eqb x.length 4 c.if-entry.false in
    no_match ∙
    ap (λ (b : Bool). b && bytes_eq x.name.now (codes "main")) (sym no_match) ∙
    main_by_length k.class k.path x.name.now x.length (length_is p x k h) on ∙
    ap (λ (o : Option (List ℕ)). bytes_eq (unwrap_or o []) (codes "main")) (sym (is_named p x k h).qualified)
