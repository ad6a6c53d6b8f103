use Rattle.gdbindex_read.specs.Areas.{areas_seen}
use Rattle.gdbindex_read.proofs.Opened.{cut_list, cut_types, lists_whole}
use Rattle.gdbindex_read.proofs.areas.Areas.check_units.Goals as goal

pub returns-then-self-ne0 : goal.returns-then-self-ne0
returns-then-self-ne0 c = rw c.fault.ensures (cut_list (areas_seen c.args.self.now) c.if-self-ne0.true)

pub returns-then-self-ne0-2 : goal.returns-then-self-ne0-2
returns-then-self-ne0-2 c = rw c.fault-then-self-ne0-2.ensures (cut_types (areas_seen c.args.self.now) c.if-self-ne0.false c.if-self-ne0-2.true)

pub returns : goal.returns
returns c = lists_whole (areas_seen c.args.self.now) c.if-self-ne0.false c.if-self-ne0-2.false
