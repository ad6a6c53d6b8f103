use Rattle.index_alike.proofs.NamesFile.{hits_lead_to_entries, info_has_hits}
use Rattle.index_alike.proofs.names.hits_lead_to_entries.Goals as goal

pub returns-clause-leads : goal.returns-clause-leads
returns-clause-leads c = hits_lead_to_entries

pub returns-clause-info : goal.returns-clause-info
returns-clause-info c = info_has_hits
