use Rattle.std.proofs.Common.{◌≡◌, ◌∙◌, ◌≤◌, ◌+◌, ◌-◌, ℕ, List, length, take, min, length-take, vec_len, arith, refl}
use Rattle.outside.proofs.FileLaws.{same_files-refl, same_files-trans}
use Rattle.command_base.proofs.FileReads.{same_first, same_first_on, nothing_yet}
use Rattle.command_base.proofs.file.read_file.Goals as goal

-- no more than one byte past the limit is asked for
bounded_by : (new old n limit room len : ℕ) (piece : List ℕ) → new ≡ old + n → n ≤ length (take room piece) → room ≡ min 65536 (limit + 1 - len) → len ≡ old → old ≤ limit + 1 → new ≤ limit + 1
bounded_by new old n limit room len piece more within is at before = omega (arith, length-take room piece)

pub loop-bytes-init : goal.loop-bytes-init
loop-bytes-init g c = record {
  first = nothing_yet (g.F.Shelf.files c.args.shelf.now) c.args.name.now c.new-bytes.result.items c.new-bytes.ensures.items;
  kept = same_files-refl (g.F.Shelf.files c.args.shelf.now);
  reads = omega arith;
  stores = refl;
  kept_reads = refl;
  bounded = omega arith;
  room = c.in_ok-piece.ensures;
}

pub loop-bytes-preserved : goal.loop-bytes-preserved
loop-bytes-preserved g c = record {
  first = same_first c.args.name.now c.read_on.new.bytes.items (g.F.Shelf.files c.args.shelf.now) (g.F.Shelf.files c.loop-bytes.shelf) c.loop-bytes.invariant.kept (c.in_ok-read_on.ensures.first (same_first_on c.args.name.now c.loop-bytes.bytes.items (g.F.Shelf.files c.args.shelf.now) (g.F.Shelf.files c.loop-bytes.shelf) c.loop-bytes.invariant.kept c.loop-bytes.invariant.first));
  kept = same_files-trans _ _ _ c.loop-bytes.invariant.kept c.in_ok-read_on.ensures.kept;
  reads = omega (arith, c.loop-bytes.invariant.reads, c.in_ok-read_on.ensures.reads);
  stores = c.in_ok-read_on.ensures.stores ∙ c.loop-bytes.invariant.stores;
  kept_reads = c.in_ok-read_on.ensures.kept_reads ∙ c.loop-bytes.invariant.kept_reads;
  bounded = bounded_by (vec_len c.read_on.new.bytes) (vec_len c.loop-bytes.bytes) c.in_ok-read_on.field-0 c.args.limit c.min-room.result c.len-in-loop-bytes.result c.deref_mut.result.now c.in_ok-read_on.ensures.more c.in_ok-read_on.ensures.within c.min-room.ensures c.len-in-loop-bytes.ensures c.loop-bytes.invariant.bounded;
  room = c.loop-bytes.invariant.room;
}

pub loop-bytes-smaller : goal.loop-bytes-smaller
loop-bytes-smaller g c = omega (arith, c.in_ok-read_on.ensures.more, c.if-branch-eq0.false)
