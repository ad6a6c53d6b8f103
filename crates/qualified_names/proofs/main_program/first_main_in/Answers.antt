use Rattle.std.proofs.Common.{Some, None, refl, sym, subst, ◌∙◌, arith}
use Rattle.index_model.specs.Shards.{AreShardsOf}
use Rattle.qualified_names.specs.Sought.{is_main_by, IsFound}
use Rattle.qualified_names.proofs.Mains.{all_left, at_left, end_left}
use Rattle.qualified_names.proofs.main_program.first_main_in.Goals as goal

pub loop-entry-init : goal.loop-entry-init
loop-entry-init c = record { kept = refl; left = λ f p file are ks z. all_left p (is_main_by p c.args.sought) ks c.args.entries.now z }

pub returns-then-tells-clause-value : goal.returns-then-tells-clause-value
returns-then-tells-clause-value c f p file are ks z =
    let q = is_main_by p c.args.sought in
    let inv = c.loop-entry.invariant in
    let s = at_left p q ks c.args.entries.now c.loop-entry.entry-index _ c.loop-entry-test.true (inv.left f p file are ks z) in
    let shards = subst (AreShardsOf p) (sym inv.kept) are in
    subst (IsFound p (Some _)) (sym (s.2 (sym (c.tells.ensures.value f p file shards s.0 s.1) ∙ c.if-tells.true))) s.1

pub loop-entry-preserved : goal.loop-entry-preserved
loop-entry-preserved c = record {
  kept = c.tells.ensures.kept ∙ c.loop-entry.invariant.kept;
  left = λ f p file are ks z.
      let q = is_main_by p c.args.sought in
      let inv = c.loop-entry.invariant in
      let s = at_left p q ks c.args.entries.now c.loop-entry.entry-index _ c.loop-entry-test.true (inv.left f p file are ks z) in
      let shards = subst (AreShardsOf p) (sym inv.kept) are in
      s.3 (sym (c.tells.ensures.value f p file shards s.0 s.1) ∙ c.if-tells.false);
}

pub returns-clause-value : goal.returns-clause-value
returns-clause-value c f p file are ks z =
    let q = is_main_by p c.args.sought in
    subst (IsFound p None) (sym (end_left p q ks c.args.entries.now c.loop-entry.entry-index (omega (arith, c.loop-entry-test.false)) (c.loop-entry.invariant.left f p file are ks z))) tt
