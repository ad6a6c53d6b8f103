use Rattle.std.proofs.Common.{ℕ, List, Option, sym, subst, ◌∙◌}
use Rattle.index_model.specs.Strings.{own_name}
use Rattle.gdb_items.specs.Chains.{StandsAt}
use Rattle.gdb_items.proofs.ChainLaws.{external_is, first_one, or_false}
use Rattle.gdb_items.proofs.chain.Chain.of.Goals as goal

pub returns-clause-told : goal.returns-clause-told
returns-clause-told c ss d h named = record {
  name = named ∙ sym (first_one (own_name ss d));
  place = subst (λ (t : Option (List ℕ)). StandsAt ss c.place_of.result t) (named ∙ sym (first_one (own_name ss d))) (c.place_of.ensures ss (named ∙ sym h.name));
  external = external_is ss c.args.item.now d h ∙ or_false _;
  scoped = h.scoped ∙ or_false _;
  targets = c.new.ensures;
}
