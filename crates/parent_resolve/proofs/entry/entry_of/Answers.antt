use Rattle.std.proofs.Common.{◌≡◌, ℕ, ◌<◌, ◌≤◌, min, length, Some, None, true, false, Result, Err, refl, sym, ap, ◌∙◌, rules, arith}
use Rattle.std.specs.Prelude.{is_some}
use Rattle.ix_base.specs.declared.code.TheConstants.{NAME_TOO_LONG}
use Rattle.ix_base.specs.declared.limits.TheConstants.{MAX_QUALIFIED_NAME}
use Rattle.ix_base.specs.declared.fault.Fault.{Fault}
use Rattle.index_model.specs.declared.rules.Class.{Class}
use Rattle.index_model.specs.Languages.{class_of_unit}
use Rattle.index_model.specs.Links.{Link}
use Rattle.index_model.specs.Meaning.{at_place, fault}
use Rattle.index_model.specs.Names.{qualified_name}
use Rattle.index_model.specs.Rules.{is_indexed, is_static}
use Rattle.parent_resolve.specs.Scopes.{greatest}
use Rattle.parent_resolve.proofs.LinkParts.{not_indexed, nameless, named_by, is_long, entry_given, tag_is}
use Rattle.parent_resolve.proofs.NodeLaws.{node_parts}
use Rattle.parent_resolve.proofs.TableLaws.{tag_fits}
use Rattle.parent_resolve.proofs.entry.entry_of.Goals as goal

pub overflow_cast-result : goal.overflow_cast-result
overflow_cast-result c =
    let on : c.indexed.result ≡ true = search rules in
    omega (arith, tag_fits c.facts_of-facts.result (sym c.indexed.ensures ∙ on))

pub returns-in_default : goal.returns-in_default
returns-in_default c p d n node class h path scope =
    not_indexed p d n path (nameless p d n path (named_by p d n path c.args.traced.now h c.name_with.result (c.name_with.ensures p.sections d node) None c.in_default.is))

pub returns-then-not-indexed : goal.returns-then-not-indexed
returns-then-not-indexed c p d n node class h path scope =
    let named = named_by p d n path c.args.traced.now h c.name_with.result (c.name_with.ensures p.sections d node) (Some c.in-Some.name) c.in-Some.is in
    let same = ap is_indexed (c.facts_of-facts.ensures p d n node class h path (ap is_some named)) in
    let off : c.indexed.result ≡ false = search rules in
    not_indexed p d n path (sym same ∙ sym c.indexed.ensures ∙ off)

pub returns-then-length-gt-MAX_QUALIFIED_NAME : goal.returns-then-length-gt-MAX_QUALIFIED_NAME
returns-then-length-gt-MAX_QUALIFIED_NAME c p d n node class h path scope =
    let named = named_by p d n path c.args.traced.now h c.name_with.result (c.name_with.ensures p.sections d node) (Some c.in-Some.name) c.in-Some.is in
    let same = ap is_indexed (c.facts_of-facts.ensures p d n node class h path (ap is_some named)) in
    let on : c.indexed.result ≡ true = search rules in
    let same_on = sym same ∙ sym c.indexed.ensures in
    let whole : c.qualified_length-length.result ≡ min greatest (length (qualified_name (class_of_unit p d.home) path c.in-Some.name.now)) = c.qualified_length-length.ensures path scope ∙ ap (λ (k : Class). min greatest (length (qualified_name k path c.in-Some.name.now))) class in
    let gt : MAX_QUALIFIED_NAME < length (qualified_name (class_of_unit p d.home) path c.in-Some.name.now) = omega (arith, whole, c.if-length-gt-MAX_QUALIFIED_NAME.true) in
    ap (λ (r : Result Link ℕ). at_place d.item.at r) (is_long p d n path (same_on ∙ on) c.in-Some.name.now named gt) ∙ ap {B = Result Link Fault} (λ (at : ℕ). Err (fault NAME_TOO_LONG at)) (sym (node_parts p.sections c.args.node.now d node).0)

pub returns : goal.returns
returns c p d n node class h path scope =
    let named = named_by p d n path c.args.traced.now h c.name_with.result (c.name_with.ensures p.sections d node) (Some c.in-Some.name) c.in-Some.is in
    let same = ap is_indexed (c.facts_of-facts.ensures p d n node class h path (ap is_some named)) in
    let on : c.indexed.result ≡ true = search rules in
    let same_on = sym same ∙ sym c.indexed.ensures in
    let whole : c.qualified_length-length.result ≡ min greatest (length (qualified_name (class_of_unit p d.home) path c.in-Some.name.now)) = c.qualified_length-length.ensures path scope ∙ ap (λ (k : Class). min greatest (length (qualified_name k path c.in-Some.name.now))) class in
    let le : c.qualified_length-length.result ≤ MAX_QUALIFIED_NAME = omega (arith, c.if-length-gt-MAX_QUALIFIED_NAME.false) in
    let facts = c.facts_of-facts.ensures p d n node class h path (ap is_some named) in
    entry_given p d n path c.args.node.now node c.args.traced.now h (same_on ∙ on) c.in-Some.name.now named c.qualified_length-length.result whole le _ refl refl (tag_is p d n path _ facts) (c.is_static.ensures ∙ ap is_static facts) refl refl refl refl refl
