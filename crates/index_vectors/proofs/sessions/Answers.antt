-- Written by tools/gen_vectors.py; not to be changed by hand.
use Rattle.index_vectors.proofs.SessionsHold.{serve_all_queries as serve_all_queries_holds, serve_three_lines as serve_three_lines_holds, serve_bad_queries_alone as serve_bad_queries_alone_holds, serve_carriage_return_stays as serve_carriage_return_stays_holds, serve_without_input as serve_without_input_holds, serve_refused_code as serve_refused_code_holds, serve_refused_header as serve_refused_header_holds}
use Rattle.index_vectors.proofs.sessions.Goals as goal

pub returns : goal.returns
returns c = record {
  serve_all_queries = serve_all_queries_holds;
  serve_three_lines = serve_three_lines_holds;
  serve_bad_queries_alone = serve_bad_queries_alone_holds;
  serve_carriage_return_stays = serve_carriage_return_stays_holds;
  serve_without_input = serve_without_input_holds;
  serve_refused_code = serve_refused_code_holds;
  serve_refused_header = serve_refused_header_holds;
}
