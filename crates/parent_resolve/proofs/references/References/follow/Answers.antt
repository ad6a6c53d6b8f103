use Rattle.std.proofs.Common.{◌≡◌, Ok, Err, ap, sym, subst, ◌∙◌}
use Rattle.std.proofs.lemmas.Result.{err_from_is_err_and}
use Rattle.index_model.specs.Chains.{chain_of, name_by_signature}
use Rattle.index_model.specs.Faults.{program_of}
use Rattle.index_model.specs.Meaning.{at_place}
use Rattle.shard_build.specs.Entries.{EntriesOf}
use Rattle.parent_resolve.specs.Chained.{IsChain}
use Rattle.parent_resolve.specs.Followed.{IsText, followed_of}
use Rattle.parent_resolve.specs.Traced.{IsTraced}
use Rattle.parent_resolve.proofs.ChainLaws.{given_for, gives_for, gives_stop, stops_like}
use Rattle.parent_resolve.proofs.FollowLaws.{IsSpelled, text, of_chain, of_signature, wrong_chain, wrong_signature, whole, is_traced}
use Rattle.parent_resolve.proofs.references.References.follow.Goals as goal
use Rattle.parent_resolve.proofs.references.References.follow.Goals.{in-Some, in-None+in_ok-spelled-in-None}

pub returns-in_err-chain-clause-value : goal.returns-in_err-chain-clause-value
returns-in_err-chain-clause-value c p file d there is =
    let of_file : program_of c.self.inside.entries.image.file ≡ Ok p = subst (λ (e : EntriesOf). program_of e.image.file ≡ Ok p) (sym c.self.view_is) file in
    let v = c.in_err-chain.ensures.value p of_file d there is in
    let e = err_from_is_err_and c.from_residual.result c.from_residual.ensures.1 in
    gives_stop (IsTraced p d) c.from_residual.result c.in_err-chain.field-0.0 (at_place c.args.at (followed_of p d)) (e.1 ∙ ap Err e.2) (stops_like c.args.at (chain_of p d) (followed_of p d) (wrong_chain p d) c.in_err-chain.field-0.0 v)

pub returns-in_err-spelled-in-None-clause-value : goal.returns-in_err-spelled-in-None-clause-value
returns-in_err-spelled-in-None-clause-value c p file d there is =
    let of_file : program_of c.self.inside.entries.image.file ≡ Ok p = subst (λ (e : EntriesOf). program_of e.image.file ≡ Ok p) (sym c.self.view_is) file in
    let v = c.in_ok-chain.ensures.value p of_file d there is in
    let g = given_for (IsChain p d) c.in_ok-chain.chain c.args.at (chain_of p d) v in
    let later : program_of c.chain_of.new.entries.image.file ≡ Ok p = subst (λ (e : EntriesOf). program_of e.image.file ≡ Ok p) (sym c.chain_of.ensures.kept) of_file in
    let w = c.in_err-spelled-in-None.ensures.value p later d there is in
    let e = err_from_is_err_and c.from_residual-in_err-spelled-in-None.result c.from_residual-in_err-spelled-in-None.ensures.1 in
    gives_stop (IsTraced p d) c.from_residual-in_err-spelled-in-None.result c.in_err-spelled-in-None.field-0.0 (at_place c.args.at (followed_of p d)) (e.1 ∙ ap Err e.2) (stops_like c.args.at (name_by_signature p d) (followed_of p d) (wrong_signature p d g.0 c.in_ok-chain.chain g.2 g.1 c.in-None.is) c.in_err-spelled-in-None.field-0.0 w)

pub returns-clause-value : goal.returns-clause-value
returns-clause-value c p file d there is =
    let of_file : program_of c.self.inside.entries.image.file ≡ Ok p = subst (λ (e : EntriesOf). program_of e.image.file ≡ Ok p) (sym c.self.view_is) file in
    let v = c.in_ok-chain.ensures.value p of_file d there is in
    let g = given_for (IsChain p d) c.in_ok-chain.chain c.args.at (chain_of p d) v in
    let later : program_of c.chain_of.new.entries.image.file ≡ Ok p = subst (λ (e : EntriesOf). program_of e.image.file ≡ Ok p) (sym c.chain_of.ensures.kept) of_file in
    let spelled : IsSpelled p d g.0 c.match-chain.spelled = elim c.match-chain.branch [
      | in-Some w ↦ of_chain p d g.0 c.in_ok-chain.chain g.2 w.in-Some.name c.match-chain.spelled w.in-Some.is w.spelled-is
      | in-None+in_ok-spelled-in-None w ↦
          let s = given_for IsText w.in_ok-spelled-in-None.spelled c.args.at (name_by_signature p d) (w.in_ok-spelled-in-None.ensures.value p later d there is) in
          of_signature p d g.0 c.in_ok-chain.chain g.2 c.match-chain.spelled w.in-None.is s.0 s.1 (ap text w.spelled-is ∙ s.2)
    ] in
    gives_for (IsTraced p d) _ _ (at_place c.args.at (followed_of p d)) (ap (at_place c.args.at) (whole p d g.0 c.in_ok-chain.chain g.2 g.1 c.match-chain.spelled spelled)) (is_traced p d g.0 c.in_ok-chain.chain g.2 c.match-chain.spelled spelled)
