use Rattle.std.proofs.Common.{◌≡◌, ℕ, List, Ok, sym, ap, subst, ◌∙◌}
use Rattle.index_model.specs.Gives.{Stop}
use Rattle.index_model.specs.Faults.{Built, built_of}
use Rattle.index_model.specs.Gives.{StopsAs}
use Rattle.line_files.specs.Found.{hits_seen}
use Rattle.files_command.specs.Listings.{found_by}
use Rattle.files_command.proofs.ListingLaws.{wrote_fault, wrote_listing}
use Rattle.files_command.proofs.files.search.Goals as goal

pub returns-in-Ok-clause-wrote : goal.returns-in-Ok-clause-wrote
returns-in-Ok-clause-wrote g c =
    let hits = hits_seen c.deref.result.now in
    let read : (b : Built) → built_of c.args.image.now.file ≡ Ok b → found_by c.args.name.now b ≡ Ok hits =
    λ b is. subst (λ (n : List ℕ). found_by n b ≡ Ok hits) c.as_bytes.ensures.value (c.in-Ok.ensures b is ∙ ap (λ hs. Ok (hits_seen hs)) (sym c.deref.ensures.value)) in
    wrote_listing c.args.image.now.file c.args.name.now c.requires.accepted hits read c.write_hits.result (g.K.Sink.written c.args.out.now) (g.K.Sink.written c.write_hits.new.out) c.write_hits.ensures.wrote

pub returns-in-Err-Cause-clause-wrote : goal.returns-in-Err-Cause-clause-wrote
returns-in-Err-Cause-clause-wrote g c =
    let stops = λ (b : Built) (is : built_of c.args.image.now.file ≡ Ok b). subst (λ (s : Stop). StopsAs s (found_by c.as_bytes.result.now b)) c.in-Err-Cause.field-0-is (c.in-Err-Cause.ensures b is) in
    wrote_fault c.args.image.now.file c.args.name.now c.requires.accepted c.in-Err-Cause.fault (λ b is. ap (λ (n : List ℕ). found_by n b) (sym c.as_bytes.ensures.value) ∙ stops b is) c.refuse_tables.result (g.K.Sink.written c.args.out.now) (g.K.Sink.written c.refuse_tables.new.out) c.refuse_tables.ensures.wrote
