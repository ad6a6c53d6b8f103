-- Each shard of a program stands for a run of its units.
use Rattle.std.proofs.Common.{◌≡◌, List, [], ◌∷◌, ◌++◌, refl, sym, ap, subst, ◌∙◌, arith, append_assoc, ⊎_elim}
use Rattle.std.specs.Prelude.{Contains}
use Rattle.std.specs.List.{AllZip}
use Rattle.common_laws.proofs.Members.{contains_cases}
use Rattle.index_model.specs.declared.shard.Shard.{Shard}
use Rattle.index_model.specs.Sections.{Section}
use Rattle.index_model.specs.Program.{Walked, Program}
use Rattle.index_model.specs.Shards.{StandsFor, AreShardsOf, IsRunOf}
use Rattle.index_model.proofs.ShardRoots.{joined}

-- a run of these walks for which the shard stands
record HasRun (ss : List Section) (ws : List Walked) (s : Shard) : Type 0 where
  run : List Walked
  before : List Walked
  after : List Walked
  is : ws ≡ before ++ (run ++ after)
  stands : StandsFor ss s run

has_run : (ss : List Section) (shards : List Shard) (runs : List (List Walked)) → AllZip (StandsFor ss) shards runs → (s : Shard) → Contains shards s → HasRun ss (joined runs) s
has_run ss [] [] z s c = absurd (omega (arith, c.1))
has_run ss [] (run ∷ runs) z s c = absurd z
has_run ss (t ∷ shards) [] z s c = absurd z
has_run ss (t ∷ shards) (run ∷ runs) z s c = ⊎_elim
    (λ (same : t ≡ s). record { run = run; before = []; after = joined runs; is = refl; stands = subst (λ (x : Shard). StandsFor ss x run) same z.0 })
    (λ (later : Contains shards s).
    let h = has_run ss shards runs z.1 s later in
    record { run = h.run; before = run ++ h.before; after = h.after; is = ap (λ (ws : List Walked). run ++ ws) h.is ∙ sym (append_assoc run h.before (h.run ++ h.after)); stands = h.stands })
    (contains_cases t shards s c)

pub shard_run : (p : Program) (shards : List Shard) → AreShardsOf p shards → (s : Shard) → Contains shards s → (run : List Walked) × IsRunOf p run × StandsFor p.sections s run
shard_run p shards h s c =
    let r = has_run p.sections shards h.runs h.stand s c in
    (r.run, record { before = r.before; after = r.after; is = sym h.all ∙ r.is }, r.stands)
