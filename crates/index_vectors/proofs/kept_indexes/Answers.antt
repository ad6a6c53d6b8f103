-- Written by tools/gen_vectors.py; not to be changed by hand.
use Rattle.index_vectors.proofs.KeptIndexesHold.{cached_address as cached_address_holds, cached_cut_cache as cached_cut_cache_holds, cached_empty_cache as cached_empty_cache_holds, cached_file_without_id as cached_file_without_id_holds, cached_first_run as cached_first_run_holds, cached_hit_with_a_later_fault as cached_hit_with_a_later_fault_holds, cached_main as cached_main_holds, cached_other_id as cached_other_id_holds, cached_refused_header as cached_refused_header_holds, cached_second_run as cached_second_run_holds, cached_stale_with_a_later_fault as cached_stale_with_a_later_fault_holds}
use Rattle.index_vectors.proofs.kept_indexes.Goals as goal

pub returns : goal.returns
returns c = record {
  cached_address = cached_address_holds;
  cached_cut_cache = cached_cut_cache_holds;
  cached_empty_cache = cached_empty_cache_holds;
  cached_file_without_id = cached_file_without_id_holds;
  cached_first_run = cached_first_run_holds;
  cached_hit_with_a_later_fault = cached_hit_with_a_later_fault_holds;
  cached_main = cached_main_holds;
  cached_other_id = cached_other_id_holds;
  cached_refused_header = cached_refused_header_holds;
  cached_second_run = cached_second_run_holds;
  cached_stale_with_a_later_fault = cached_stale_with_a_later_fault_holds;
}
