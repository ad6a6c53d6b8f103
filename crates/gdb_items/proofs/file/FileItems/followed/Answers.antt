use Rattle.std.proofs.Common.{◌≡◌, ℕ, List, Option, ◌<◌, Ok, length, rules, ap, subst, ◌∙◌, arith}
use Rattle.std.specs.Prelude.{option_map}
use Rattle.std.specs.Option.{option_or}
use Rattle.std.proofs.lemmas.List.{length-map}
use Rattle.file_image.specs.Images.{Image}
use Rattle.index_model.specs.Faults.{program_of}
use Rattle.index_model.specs.Program.{Located}
use Rattle.gdb_entries.specs.Chains.{next_of}
use Rattle.gdb_items.specs.declared.item.UnitItem.{UnitItem}
use Rattle.gdb_items.specs.Files.{IsItemIn}
use Rattle.gdb_items.proofs.ChainLaws.{follow_end, follow_full, follow_one, none_there, one_there}
use Rattle.gdb_items.proofs.file.FileItems.followed.Goals as goal

pub returns-in-None-clause-value : goal.returns-in-None-clause-value
returns-in-None-clause-value c p is d h =
    let f = c.loop-last.invariant.followed p is d h in
    let here : program_of c.loop-last.self.file ≡ Ok p = ap (λ (e : Image). program_of e.file) c.loop-last.invariant.same ∙ is in
    let said = c.in_ok-next.ensures.value p here f.item f.is in
    let end = none_there p.sections (next_of p f.item) (subst (λ (o : Option UnitItem). IsItemIn p.sections o (next_of p f.item)) c.in-None.is said) in
    follow_end p d c.loop-last.chain c.loop-last.last f end

pub loop-last-preserved : goal.loop-last-preserved
loop-last-preserved c = record {
  same = c.target.ensures.kept ∙ c.loop-last.invariant.same;
  few = let less : length c.loop-last.chain.targets.items < 8 = search rules in omega (arith, c.add.ensures.count, less);
  followed = λ p is d h.
      let f = c.loop-last.invariant.followed p is d h in
      let here : program_of c.loop-last.self.file ≡ Ok p = ap (λ (e : Image). program_of e.file) c.loop-last.invariant.same ∙ is in
      let said = c.in_ok-next.ensures.value p here f.item f.is in
      let x = one_there p.sections c.in-Some.target (next_of p f.item) (subst (λ (o : Option UnitItem). IsItemIn p.sections o (next_of p f.item)) c.in-Some.is said) in
      let long : length c.loop-last.chain.targets.items ≡ length f.passed = ap (λ (os : List ℕ). length os) f.told.targets ∙ length-map f.passed (λ (e : Located). e.item.at) in
      let less : length c.loop-last.chain.targets.items < 8 = search rules in
      let same : program_of c.target.new.self.file ≡ Ok p = ap (λ (e : Image). program_of e.file) c.target.ensures.kept ∙ here in
      let named = c.first_name-name.ensures p same ∙ ap (λ (o : Option (List ℕ)). option_or (option_map (λ b. b.now) c.loop-last.chain.name) o) x.2.name in
      follow_one p d c.loop-last.chain c.loop-last.last f x.0 x.1 (omega (arith, long, less)) c.in-Some.target x.2 c.add.new.self (c.add.ensures.told p.sections d x.0 f.passed f.told x.2 named);
}

pub returns-clause-value : goal.returns-clause-value
returns-clause-value c p is d h =
    let f = c.loop-last.invariant.followed p is d h in
    let long : length c.loop-last.chain.targets.items ≡ length f.passed = ap (λ (os : List ℕ). length os) f.told.targets ∙ length-map f.passed (λ (e : Located). e.item.at) in
    let full : length c.loop-last.chain.targets.items ≡ 8 = search rules in
    follow_full p d c.loop-last.chain c.loop-last.last f (omega (arith, long, full))
