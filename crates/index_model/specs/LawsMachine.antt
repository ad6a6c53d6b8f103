-- Each job is drawn and finished once, whatever the jobs make.
use Rattle.std.specs.Prelude.{◌≤◌, Bool, ◌&&◌, nat_eq, List, count_by}
use Rattle.index_model.specs.Machine.{Row, JobPlace, State}
use Rattle.index_model.specs.MachineEvents.{Event, all_drawn, all_finished}

-- whether two jobs stand at one place
abbrev pub same_job : JobPlace → JobPlace → Bool
same_job a b = nat_eq a.kind b.kind && nat_eq a.number b.number

-- from any state on no job is drawn twice, and no job's output is taken twice
abbrev pub EachJobOnce : Type 0 → Type 0 → Type 0
EachJobOnce Made Query = (plan : List Row) (s : State Made) (es : List (Event Made Query)) (j : JobPlace) →
    (count_by (same_job j) (all_drawn plan s es) ≤ 1) × (count_by (same_job j) (all_finished plan s es) ≤ 1)
