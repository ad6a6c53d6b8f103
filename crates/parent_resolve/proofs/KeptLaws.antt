-- Entries whose references are followed have nodes.
use Rattle.std.proofs.Common.{◌≡◌, List, filter, flat_map, sym, ◌∙◌}
use Rattle.common_laws.proofs.Filters.{filter_within}
use Rattle.index_model.specs.Program.{Walked, Program, located}
use Rattle.index_model.specs.Links.{followed}
use Rattle.index_model.specs.ShardParts.{is_kept, kept_in}
use Rattle.index_model.proofs.Followed.{followed_kept, all_followed}
use Rattle.parent_resolve.specs.Runs.{is_followed}

-- the entries of these units whose references are followed are among those that have nodes
pub kept_followed : (p : Program) (ws : List Walked) → flat_map (followed p) ws ≡ filter (is_followed p) (kept_in ws)
kept_followed p ws = all_followed p ws ∙ sym (filter_within (λ d. is_kept d.home d.item) (is_followed p) (flat_map located ws) (λ d _. followed_kept p d))
