use Rattle.result_forms.proofs.MethodLaws.{results_plain, exonerations_plain}
use Rattle.result_forms.proofs.laws.batches_are_written_plain.Goals as goal

pub returns : goal.returns
returns c = record { results = results_plain; exonerations = exonerations_plain }
