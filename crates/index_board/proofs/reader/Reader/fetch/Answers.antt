use Rattle.std.proofs.Common.{ap}
use Rattle.stage_core.specs.Outputs.{parts_seen}
use Rattle.index_board.proofs.KeptLaws.{fetched_published, published_is_ready}
use Rattle.index_board.proofs.reader.Reader.fetch.Goals as goal

pub returns-clause-ready : goal.returns-clause-ready
returns-clause-ready g c =
    let turn = c.in_ok-shared.ensures.turn in
    published_is_ready _
    (fetched_published c.self.inside.board.now.subject turn.0 (parts_seen c.self.inside.kept) (parts_seen c.in_ok-shared.field-0) (parts_seen c.fill.new.kept)
    turn.2 turn.3 c.fill.ensures c.share-shared.new.pass.floor (ap (λ p. p.floor) turn.1.pass))
