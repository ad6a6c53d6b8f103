use Rattle.std.proofs.Common.{ℕ, List, ◌++◌, sym, ap, ◌∙◌}
use denote.Ref.{Bor}
use Rattle.common_laws.proofs.Appended.{no_part, more_parts, all_parts, flat_map-map}
use Rattle.index_model.specs.GdbIndex.{vector_bytes}
use Rattle.gdbindex_write.proofs.PartLaws.{no_vector}
use Rattle.gdbindex_write.proofs.vectors.put_vectors.Goals as goal

abbrev bytes : Bor (List ℕ) → List ℕ
bytes v = vector_bytes v.now

pub put_vector-requires : goal.put_vector-requires
put_vector-requires c = c.requires c.loop-vector.vector-index no_vector c.loop-vector-test.true

pub loop-vector-init : goal.loop-vector-init
loop-vector-init c = no_part bytes c.args.vectors.now c.args.out.now.items

pub loop-vector-preserved : goal.loop-vector-preserved
loop-vector-preserved c = more_parts bytes c.args.vectors.now c.loop-vector.vector-index no_vector c.args.out.now.items c.loop-vector-test.true c.loop-vector.invariant c.in_ok-put_vector.ensures

pub returns : goal.returns
returns c = all_parts bytes c.args.vectors.now c.loop-vector.vector-index c.args.out.now.items c.loop-vector-test.false c.loop-vector.invariant ∙ ap (λ (w : List ℕ). c.args.out.now.items ++ w) (sym (flat_map-map vector_bytes (λ (v : Bor (List ℕ)). v.now) c.args.vectors.now))
