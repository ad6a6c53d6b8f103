use Rattle.std.proofs.Common.{◌≡◌}
use Rattle.index_model.specs.GdbIndexRead.{reached}
use Rattle.gdbindex_read.specs.Slots.{slots_seen, slot_of}
use Rattle.gdbindex_read.proofs.Loops.{fault_from}
use Rattle.gdbindex_read.proofs.symbols.SymbolTable.check_short_paths.Given as goal

-- the first fault is that of the slots that are left
abbrev pub invariant-loop-place : goal.invariant-loop-place
invariant-loop-place l = fault_from (reached (slots_seen l.self)) (λ k. (k, slot_of l.self k)) l.place l.count ≡ fault_from (reached (slots_seen l.self)) (λ k. (k, slot_of l.self k)) 0 l.count
