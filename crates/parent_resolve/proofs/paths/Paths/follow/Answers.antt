use Rattle.std.proofs.Common.{ap, ◌∙◌}
use Rattle.index_model.specs.Faults.{program_of}
use Rattle.shard_build.specs.Entries.{EntriesOf}
use Rattle.parent_resolve.specs.Followed.{followed_of}
use Rattle.parent_resolve.specs.Traced.{IsTraced}
use Rattle.parent_resolve.proofs.Outwards.{gives_ok, ok_here}
use Rattle.parent_resolve.proofs.paths.Paths.follow.Goals as goal

pub returns-in-Some-clause-value : goal.returns-in-Some-clause-value
returns-in-Some-clause-value c p file d there is =
    let n = ok_here (IsTraced p d c.in-Some.traced) (followed_of p d) (c.in-Some.ensures p d there is) in
    gives_ok (IsTraced p d c.in-Some.traced) c.args.at (followed_of p d) n.0 n.1 n.2

pub returns-clause-value : goal.returns-clause-value
returns-clause-value c p file d there is =
    let inside = ap (λ (e : EntriesOf). program_of e.image.file) c.self.view_is ∙ file in
    c.follow.ensures.value p inside d there is
