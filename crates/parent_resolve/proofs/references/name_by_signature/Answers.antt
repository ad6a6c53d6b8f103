use Rattle.std.proofs.Common.{ℕ, true, List, Option, Some, None, option_map, refl, ap, sym, subst, ◌∙◌}
use denote.Ref.{Bor}
use Rattle.ix_base.specs.declared.code.TheConstants.{BAD_REFERENCE}
use Rattle.index_model.specs.declared.shard.Next.{Next}
use Rattle.index_model.specs.declared.shard.Node.{Node}
use Rattle.index_model.specs.Chains.{name_by_signature}
use Rattle.index_model.specs.Meaning.{at_place}
use Rattle.index_model.specs.Strings.{own_name}
use Rattle.shard_build.specs.Entries.{IsNodeIn, entry_meant}
use Rattle.parent_resolve.specs.Followed.{IsText}
use Rattle.parent_resolve.proofs.ChainLaws.{says, meant, nothing_meant, gives_for, stops_at}
use Rattle.parent_resolve.proofs.SignatureLaws.{Same, type_unit_of, type_place, name_unsigned, name_of_no_unit, name_meant, name_fault}
use Rattle.parent_resolve.proofs.references.name_by_signature.Goals as goal

abbrev text : Option (Bor (List ℕ)) → Option (List ℕ)
text o = option_map (λ t. t.now) o

pub returns-in_default-clause-value : goal.returns-in_default-clause-value
returns-in_default-clause-value c p file d there is =
    gives_for IsText None None (at_place c.args.at (name_by_signature p d)) (ap (at_place c.args.at) (name_unsigned p d (sym (says p.sections c.args.node.now d is).signature ∙ c.in_default.is))) refl

pub returns-in_default-find-clause-value : goal.returns-in_default-find-clause-value
returns-in_default-find-clause-value c p file d there is =
    let s = c.in-Some.signature in
    let image = c.args.entries.now.image in
    let u = type_unit_of image p s c.requires.of_file file in
    let none = c.find.ensures image.units c.requires.signed in
    let same : Same s p.walks None = subst (Same s p.walks) (sym none ∙ c.in_default-find.is) u in
    gives_for IsText None None (at_place c.args.at (name_by_signature p d)) (ap (at_place c.args.at) (name_of_no_unit p d s (sym (says p.sections c.args.node.now d is).signature ∙ c.in-Some.is) same)) refl

pub returns-in-Some-2-clause-value : goal.returns-in-Some-2-clause-value
returns-in-Some-2-clause-value c p file d there is =
    let s = c.in-Some.signature in
    let image = c.args.entries.now.image in
    let u = type_unit_of image p s c.requires.of_file file in
    let t = c.in-Some-find.unit in
    let w : Same s p.walks (Some t) = subst (Same s p.walks) (sym (c.find.ensures image.units c.requires.signed) ∙ c.in-Some-find.is) u in
    let v = c.in_ok-node.ensures.value p file w.0 w.1.member w.1.number (type_place w.0) (ap (λ (n : ℕ). let q : Next = record { target = n; near = true } in q) (sym w.1.type_offset)) in
    let m = meant p.sections c.in-Some-2.node (entry_meant p w.0 (type_place w.0)) (subst (λ (o : Option Node). IsNodeIn p.sections o (entry_meant p w.0 (type_place w.0))) c.in-Some-2.is v) in
    gives_for IsText c.in-Some-2.node.name (own_name p.sections m.0) (at_place c.args.at (name_by_signature p d)) (ap (at_place c.args.at) (name_meant p d s (sym (says p.sections c.args.node.now d is).signature ∙ c.in-Some.is) w.0 w.1.found m.0 m.1)) m.2.name

pub returns-in-None-clause-value : goal.returns-in-None-clause-value
returns-in-None-clause-value c p file d there is =
    let s = c.in-Some.signature in
    let image = c.args.entries.now.image in
    let u = type_unit_of image p s c.requires.of_file file in
    let t = c.in-Some-find.unit in
    let w : Same s p.walks (Some t) = subst (Same s p.walks) (sym (c.find.ensures image.units c.requires.signed) ∙ c.in-Some-find.is) u in
    let v = c.in_ok-node.ensures.value p file w.0 w.1.member w.1.number (type_place w.0) (ap (λ (n : ℕ). let q : Next = record { target = n; near = true } in q) (sym w.1.type_offset)) in
    let m = nothing_meant p.sections (entry_meant p w.0 (type_place w.0)) (subst (λ (o : Option Node). IsNodeIn p.sections o (entry_meant p w.0 (type_place w.0))) c.in-None.is v) in
    stops_at c.args.at BAD_REFERENCE (name_by_signature p d) _ refl (name_fault p d s (sym (says p.sections c.args.node.now d is).signature ∙ c.in-Some.is) w.0 w.1.found m)
