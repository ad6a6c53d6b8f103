-- What holds of a job with what it is given holds of its task.
use Rattle.std.proofs.Common.{◌≡◌, ℕ, List, sym, subst}
use Rattle.file_image.specs.Images.{Image}
use Rattle.index_model.specs.declared.job.Job.TheVariants.{Link, Main, Name}
use Rattle.index_model.specs.declared.shard.Shard.{Shard}
use Rattle.index_model.specs.declared.shard.Linked.{Linked}
use Rattle.index_model.specs.Machine.{Output, Memory, Faulty, Gave}
use Rattle.index_model.specs.Outputs.{Made}
use Rattle.stage_core.specs.Inputs.{ScansOf, LinksOf, Handed}
use Rattle.index_pool.specs.Drawn.{IsDrawn, IsOutputFor}
use Rattle.index_pool.specs.Outputs.{BringsAs}

module _ (image : Image) (task h : Handed) (is : task ≡ h) where
  pub drawn_as : IsDrawn image task → IsDrawn image h
  drawn_as = subst (IsDrawn image) is

  pub output_as : (o : Output Made) → IsOutputFor image h o → IsOutputFor image task o
  output_as o = subst (λ (h : Handed). IsOutputFor image h o) (sym is)

-- what holds of the output that is meant and of want of memory holds of what is brought
pub brought_as : (P : Output Made → Type 0) → P Memory → (meant told : Output Made) → BringsAs meant told → P meant → P told
brought_as P free meant Memory brings holds = free
brought_as P free meant (Faulty f) brings holds = subst P (sym brings) holds
brought_as P free meant (Gave made) brings holds = subst P (sym brings) holds

-- ---- what the jobs are given

abbrev pub to_link : ℕ → List Shard → Handed
to_link k shards = record { job = Link k; given = ScansOf shards }

abbrev pub to_main : List Shard → List Linked → Handed
to_main shards linked = record { job = Main; given = LinksOf shards linked }

abbrev pub to_name : ℕ → List Shard → List Linked → Handed
to_name k shards linked = record { job = Name k; given = LinksOf shards linked }
