use Rattle.std.proofs.Common.{◌≡◌, ℕ, List, Option, Ok, sym, ap, subst, ◌∙◌, ⊎_elim, arith}
use Rattle.std.specs.Prelude.{IfOk, option_map}
use Rattle.file_image.specs.Images.{Image}
use Rattle.index_model.specs.Faults.{program_of}
use Rattle.gdb_entries.specs.Chains.{next_of}
use Rattle.gdb_items.specs.declared.item.UnitItem.{UnitItem}
use Rattle.gdb_items.specs.Files.{IsItemIn}
use Rattle.gdb_items.proofs.ChainLaws.{none_there, one_there, none_of, linkage_own, linkage_last, linkage_behind, no_linkage_behind}
use Rattle.gdb_items.proofs.file.FileItems.+linkage_within.Goals as goal

pub returns-then-is_some-clause-value : goal.returns-then-is_some-clause-value
returns-then-is_some-clause-value t c p is d h =
    let own = c.text-own.ensures p is ∙ h.linkage in
    ⊎_elim
    (λ some. linkage_own p d (λ b. b.now) c.args.hops c.text-own.result own (sym c.is_some.ensures ∙ some))
    (λ last. linkage_last p d c.args.hops (option_map (λ b. b.now) c.text-own.result) own last.1)
    c.then-is_some.either

pub returns-in-Some-clause-value : goal.returns-in-Some-clause-value
returns-in-Some-clause-value t c p is d h =
    let none = none_of (λ b. b.now) c.text-own.result (sym c.is_some.ensures ∙ c.if-is_some.false) ∙ c.text-own.ensures p is ∙ h.linkage in
    let x = one_there p.sections c.in-Some.target (next_of p d) (subst (λ (o : Option UnitItem). IsItemIn p.sections o (next_of p d)) c.in-Some.is (c.in_ok-target.ensures.value p is d h)) in
    let here : program_of c.target.new.self.file ≡ Ok p = ap (λ (e : Image). program_of e.file) c.target.ensures.kept ∙ is in
    let behind = linkage_behind p d c.args.hops _ x.0 none x.1 (let more : _ ≡ _ = omega arith in more) in
    subst (λ (l : Option (List ℕ)). IfOk c.linkage_within.result (λ text. option_map (λ b. b.now) text ≡ l)) (sym behind) (c.linkage_within.ensures.value p here x.0 x.2)

pub returns-in-None-clause-value : goal.returns-in-None-clause-value
returns-in-None-clause-value t c p is d h =
    let none = none_of (λ b. b.now) c.text-own.result (sym c.is_some.ensures ∙ c.if-is_some.false) ∙ c.text-own.ensures p is ∙ h.linkage in
    let end = none_there p.sections (next_of p d) (subst (λ (o : Option UnitItem). IsItemIn p.sections o (next_of p d)) c.in-None.is (c.in_ok-target.ensures.value p is d h)) in
    no_linkage_behind p d c.args.hops none end
