use Rattle.entry_scan.proofs.item.Item.str_at.Goals as goal

pub returns : goal.returns
returns c = rw (← c.self.view_is) c.str_at.ensures
