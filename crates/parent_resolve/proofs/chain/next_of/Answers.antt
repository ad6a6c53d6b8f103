use Rattle.std.proofs.Common.{Option, Some, None, ap, sym, subst}
use Rattle.index_model.specs.declared.shard.Node.{Node}
use Rattle.index_model.specs.Meaning.{at_place}
use Rattle.index_model.specs.Chains.{next_of}
use Rattle.shard_build.specs.Entries.{IsNodeIn, entry_meant}
use Rattle.parent_resolve.specs.Chained.{IsNext}
use Rattle.parent_resolve.proofs.Entries.{home_in}
use Rattle.parent_resolve.proofs.ChainLaws.{next_none, next_some, next_fault, r, is_reference, meant, meant_entry, nothing_meant, gives_for}
use Rattle.parent_resolve.proofs.chain.next_of.Goals as goal

pub returns-in_default-clause-value : goal.returns-in_default-clause-value
returns-in_default-clause-value c p file d there unit is = gives_for (IsNext p) None None (at_place c.args.at (next_of p d)) (ap (at_place c.args.at) (next_none p c.args.next d is c.in_default.is)) tt

pub returns-in-Some-2-clause-value : goal.returns-in-Some-2-clause-value
returns-in-Some-2-clause-value c p file d there unit is =
    let n = c.args.next in
    let q = c.in-Some.reference in
    let ref = r p n d is q c.in-Some.is in
    let v = c.in_ok-target.ensures.value p file d.home (home_in p d there).0 (sym unit) ref (is_reference p n d is q c.in-Some.is) in
    let m = meant p.sections c.in-Some-2.target (entry_meant p d.home ref) (subst (λ (o : Option Node). IsNodeIn p.sections o (entry_meant p d.home ref)) c.in-Some-2.is v) in
    gives_for (IsNext p) (Some c.in-Some-2.target) (Some m.0) (at_place c.args.at (next_of p d)) (ap (at_place c.args.at) (next_some p n d is q c.in-Some.is m.0 m.1)) (m.2, meant_entry p d.home ref m.0 m.1)

pub returns-in-None-clause-value : goal.returns-in-None-clause-value
returns-in-None-clause-value c p file d there unit is =
    let n = c.args.next in
    let q = c.in-Some.reference in
    let ref = r p n d is q c.in-Some.is in
    let v = c.in_ok-target.ensures.value p file d.home (home_in p d there).0 (sym unit) ref (is_reference p n d is q c.in-Some.is) in
    let m = nothing_meant p.sections (entry_meant p d.home ref) (subst (λ (o : Option Node). IsNodeIn p.sections o (entry_meant p d.home ref)) c.in-None.is v) in
    ap (at_place c.args.at) (next_fault p n d is q c.in-Some.is m)
