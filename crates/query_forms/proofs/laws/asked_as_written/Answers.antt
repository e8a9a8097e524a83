use Rattle.query_forms.proofs.QueryLaws.{results_as_written, variants_as_written}
use Rattle.query_forms.proofs.laws.asked_as_written.Goals as goal

pub returns : goal.returns
returns c = record { results = results_as_written; variants = variants_as_written }
