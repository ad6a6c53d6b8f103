use Rattle.std.proofs.Common.{◌≡◌, Ok, refl, ap, ◌∙◌}
use Rattle.file_image.specs.Images.{Image}
use Rattle.index_model.specs.Faults.{program_of}
use Rattle.gdb_entries.specs.Chains.{linkage_of}
use Rattle.gdb_entries.specs.ItemNames.{ItemNames}
use Rattle.gdb_scopes.proofs.WalkLaws.{name_told, told_tag}
use Rattle.gdb_index.proofs.ItemNameLaws.{names_told, own_stands, texts_told}
use Rattle.gdb_index.proofs.item_names.listed_names.Goals as goal

pub returns-clause-value : goal.returns-clause-value
returns-clause-value c p is d here own read told =
    let i = c.args.seen.now.item in
    let class = c.args.class in
    let name = c.name_of-name.ensures ∙ name_told p class d i.facts.tag _ (told_tag p.sections d i own.item) told.name in
    let names = c.in_ok-own.ensures.value p is d own.item ∙ names_told p class d i.facts _ _ own.item.facts name refl in
    let after : program_of c.own_names.new.names.file ≡ Ok p = ap (λ (e : Image). program_of e.file) c.own_names.ensures.kept ∙ is in
    let stands = own_stands p.sections p class d c.args.chain.now.place told.place (linkage_of p d) _ (ap (λ (n : ItemNames). n.name) names) in
    texts_told p class d _ names _ _ (c.in_ok-full.ensures.value p after d here own read told stands) c.in_ok-second.ensures
