use Rattle.std.proofs.Common.{◌≡◌, ◌∷◌, Ok, Err, refl, ap, sym, subst, ◌∙◌, arith}
use Rattle.std.proofs.lemmas.Result.{err_from_is_err_and}
use Rattle.ix_base.specs.declared.code.TheConstants.{REFERENCE_CHAIN}
use Rattle.index_model.specs.Chains.{next_of, chain_of, chain_end}
use Rattle.index_model.specs.Faults.{program_of}
use Rattle.index_model.specs.Meaning.{at_place}
use Rattle.shard_build.specs.Entries.{EntriesOf}
use Rattle.parent_resolve.specs.Chained.{IsChain}
use Rattle.parent_resolve.proofs.ChainLaws.{begins, ends, breaks, too_long, hops_on, gives_for, was_next, was_none, stops_like, stops_at, gives_stop}
use Rattle.parent_resolve.proofs.chain.chain_of.Goals as goal

pub loop-target-init : goal.loop-target-init
loop-target-init c = record {
  kept = refl;
  few = omega arith;
  so_far = λ p file d there is. begins p d c.of-chain.result (c.of-chain.ensures p d is there);
}

pub returns-in_err-target-clause-value : goal.returns-in_err-target-clause-value
returns-in_err-target-clause-value c p file d there is =
    let s = c.loop-target.invariant.so_far p file d there is in
    let of_file : program_of c.loop-target.entries.image.file ≡ Ok p = subst (λ (e : EntriesOf). program_of e.image.file ≡ Ok p) (sym c.loop-target.invariant.kept) file in
    let v = c.in_err-target.ensures.value p of_file (chain_end d s.seen) s.is.there s.is.unit s.is.next in
    let stop = stops_like c.args.at (next_of p (chain_end d s.seen)) (chain_of p d) (breaks p d c.loop-target.chain c.loop-target.hops s) c.in_err-target.field-0.0 v in
    let e = err_from_is_err_and c.from_residual.result c.from_residual.ensures.1 in
    gives_stop (IsChain p d) c.from_residual.result c.in_err-target.field-0.0 (at_place c.args.at (chain_of p d)) (e.1 ∙ ap Err e.2) stop

pub returns-then-hops-eq-MAX_CHAIN_HOPS-clause-value : goal.returns-then-hops-eq-MAX_CHAIN_HOPS-clause-value
returns-then-hops-eq-MAX_CHAIN_HOPS-clause-value c p file d there is =
    let s = c.loop-target.invariant.so_far p file d there is in
    let of_file : program_of c.loop-target.entries.image.file ≡ Ok p = subst (λ (e : EntriesOf). program_of e.image.file ≡ Ok p) (sym c.loop-target.invariant.kept) file in
    let v = c.in_ok-target.ensures.value p of_file (chain_end d s.seen) s.is.there s.is.unit s.is.next in
    let g = was_next p c.args.at (next_of p (chain_end d s.seen)) c.in_ok-target.field-0 c.in-Some.target c.in-Some.is v in
    stops_at c.args.at REFERENCE_CHAIN (chain_of p d) _ refl (too_long p d c.loop-target.chain c.loop-target.hops s g.0 g.1 c.if-hops-eq-MAX_CHAIN_HOPS.true)

pub loop-target-preserved : goal.loop-target-preserved
loop-target-preserved c = record {
  kept = c.next_of.ensures.kept ∙ c.loop-target.invariant.kept;
  few = let few = c.loop-target.invariant.few in let off = c.if-hops-eq-MAX_CHAIN_HOPS.false in omega arith;
  so_far = λ p file d there is.
      let s = c.loop-target.invariant.so_far p file d there is in
      let of_file : program_of c.loop-target.entries.image.file ≡ Ok p = subst (λ (e : EntriesOf). program_of e.image.file ≡ Ok p) (sym c.loop-target.invariant.kept) file in
      let v = c.in_ok-target.ensures.value p of_file (chain_end d s.seen) s.is.there s.is.unit s.is.next in
      let g = was_next p c.args.at (next_of p (chain_end d s.seen)) c.in_ok-target.field-0 c.in-Some.target c.in-Some.is v in
      let few = c.loop-target.invariant.few in
      let off = c.if-hops-eq-MAX_CHAIN_HOPS.false in
      hops_on p d c.loop-target.chain c.loop-target.hops s g.0 g.1 c.with-chain.result (omega arith) (c.with-chain.ensures p d g.0 (d ∷ s.seen) s.is g.2.0 g.2.1);
}

pub returns-clause-value : goal.returns-clause-value
returns-clause-value c p file d there is =
    let s = c.loop-target.invariant.so_far p file d there is in
    let of_file : program_of c.loop-target.entries.image.file ≡ Ok p = subst (λ (e : EntriesOf). program_of e.image.file ≡ Ok p) (sym c.loop-target.invariant.kept) file in
    let v = c.in_ok-target.ensures.value p of_file (chain_end d s.seen) s.is.there s.is.unit s.is.next in
    let none = was_none p c.args.at (next_of p (chain_end d s.seen)) c.in_ok-target.field-0 c.in_default.is v in
    gives_for (IsChain p d) c.loop-target.chain (d ∷ s.seen) (at_place c.args.at (chain_of p d)) (ap (at_place c.args.at) (ends p d c.loop-target.chain c.loop-target.hops s none)) s.is
