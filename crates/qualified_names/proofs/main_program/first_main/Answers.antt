use Rattle.std.proofs.Common.{List, find, Option, Some, None, refl, sym, ap, subst, ◌∙◌, arith}
use Rattle.std.specs.Arc.{arc_value}
use Rattle.std.specs.List.{AllZip}
use Rattle.std.specs.Option.{option_or}
use Rattle.index_model.specs.declared.shard.LinkedEntry.{LinkedEntry}
use Rattle.index_model.specs.declared.shard.Linked.{Linked}
use Rattle.index_model.specs.Links.{Link}
use Rattle.index_model.specs.Shards.{AreShardsOf}
use Rattle.qualified_names.specs.Indexed.{IsIndexed}
use Rattle.qualified_names.specs.Sought.{is_main_by, IsFound}
use Rattle.qualified_names.proofs.Mains.{Left, all_left, found_or, from_run, front_left, last_run, next_run, none_found, none_left}
use Rattle.qualified_names.proofs.main_program.first_main.Goals as goal

pub loop-links-init : goal.loop-links-init
loop-links-init c = record { kept = refl; left = λ f p file are ks z. all_left p (is_main_by p c.args.sought) ks _ z }

pub returns-in-Some-clause-value : goal.returns-in-Some-clause-value
returns-in-Some-clause-value c f p file are ks z =
    let shared = c.args.linked.now in
    let k = c.loop-links.links-index in
    let item = c.links-item.result in
    let q = is_main_by p c.args.sought in
    let inv = c.loop-links.invariant in
    let fl = front_left p q ks (arc_value item).entries (from_run shared _) (subst (Left p q ks) (next_run shared k item c.links-item.is c.loop-links-test.true) (inv.left f p file are ks z)) in
    let shards = subst (AreShardsOf p) (sym inv.kept) are in
    let own = c.as_slice.ensures ∙ ap (λ (l : Linked). l.entries) c.deref.ensures in
    let here = c.in-Some.ensures.value f p file shards fl.0 (subst (λ (xs : List LinkedEntry). AllZip (IsIndexed p) xs fl.0) (sym own) fl.2) in
    subst (IsFound p (Some c.in-Some.found)) (sym fl.4) (found_or p c.in-Some.found (find q fl.0) (find q fl.1) here)

pub loop-links-preserved : goal.loop-links-preserved
loop-links-preserved c =
    let shared = c.args.linked.now in
    let k = c.loop-links.links-index in
    let item = c.links-item.result in
    let inv = c.loop-links.invariant in
    record {
      kept = c.in_default.ensures.kept ∙ inv.kept;
      left = λ f p file are ks z.
          let q = is_main_by p c.args.sought in
          let fl = front_left p q ks (arc_value item).entries (from_run shared _) (subst (Left p q ks) (next_run shared k item c.links-item.is c.loop-links-test.true) (inv.left f p file are ks z)) in
          let shards = subst (AreShardsOf p) (sym inv.kept) are in
          let own = c.as_slice.ensures ∙ ap (λ (l : Linked). l.entries) c.deref.ensures in
          let none = none_found p (find q fl.0) (c.in_default.ensures.value f p file shards fl.0 (subst (λ (xs : List LinkedEntry). AllZip (IsIndexed p) xs fl.0) (sym own) fl.2)) in
          record { rest = fl.1; zip = fl.3; same = fl.4 ∙ ap (λ (o : Option Link). option_or o (find q fl.1)) none };
    }

pub returns-clause-value : goal.returns-clause-value
returns-clause-value c f p file are ks z =
    let q = is_main_by p c.args.sought in
    let over = last_run c.args.linked.now c.loop-links.links-index (omega (arith, c.loop-links-test.false)) in
    let l = subst (Left p q ks) over (c.loop-links.invariant.left f p file are ks z) in
    subst (IsFound p None) (sym (none_left p q ks l)) tt
