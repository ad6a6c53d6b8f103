use Rattle.index_model.proofs.TextLaws.{texts_in, attribute_texts_in}
use Rattle.index_model.proofs.laws.inline_texts_stand_in_their_entries.Goals as goal

pub returns-clause-values : goal.returns-clause-values
returns-clause-values c = texts_in

pub returns-clause-attributes : goal.returns-clause-attributes
returns-clause-attributes c = attribute_texts_in
