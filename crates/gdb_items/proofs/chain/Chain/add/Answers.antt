use Rattle.std.proofs.Common.{◌≡◌, ℕ, List, Option, Bool, ◌||◌, ◌∷◌, ◌++◌, [], rules, sym, ap, subst, ◌∙◌}
use Rattle.std.specs.Prelude.{option_map}
use Rattle.std.specs.Option.{option_or}
use Rattle.std.proofs.lemmas.List.{map-append}
use Rattle.index_model.specs.Attributes.{has_external, has_enum_class}
use Rattle.index_model.specs.Program.{Located}
use Rattle.index_model.specs.Strings.{own_name}
use Rattle.gdb_items.specs.Chains.{StandsAt}
use Rattle.gdb_items.proofs.ChainLaws.{both, external_is, first_more, any_more}
use Rattle.gdb_items.proofs.chain.Chain.add.Goals as goal

pub returns-clause-told : goal.returns-clause-told
returns-clause-told c ss d e passed was h named =
    let external : c.if-self.self ≡ (c.args.self.now.external || c.args.target.now.facts.external) = search rules in
    let scoped : c.if-self-2.self ≡ (c.args.self.now.scoped || c.args.target.now.scoped) = search rules in
    let first = named ∙ ap (λ (x : Option (List ℕ)). option_or x (own_name ss e)) was.name ∙ sym (first_more (own_name ss) (d ∷ passed) e) in
    let before = subst (λ (t : Option (List ℕ)). StandsAt ss c.args.self.now.place t) (sym was.name) was.place in
    let known = option_map (λ b. b.now) c.args.self.now.name in
    let called = named ∙ ap (λ (t : Option (List ℕ)). option_or known t) (sym h.name) in
    record {
      name = first;
      place = subst (λ (t : Option (List ℕ)). StandsAt ss c.first_place-self.result t) first (c.first_place-self.ensures ss before called);
      external = external ∙ both (λ (x y : Bool). x || y) was.external (external_is ss c.args.target.now e h) ∙ sym (any_more (λ (l : Located). has_external l.item) (d ∷ passed) e);
      scoped = scoped ∙ both (λ (x y : Bool). x || y) was.scoped h.scoped ∙ sym (any_more (λ (l : Located). has_enum_class l.item) (d ∷ passed) e);
      targets = c.push.ensures.items ∙ both (λ (xs ys : List ℕ). xs ++ ys) was.targets (ap (λ (o : ℕ). o ∷ []) h.offset) ∙ sym (map-append (λ (l : Located). l.item.at) passed (e ∷ []));
    }
