use Rattle.result_forms.proofs.MethodLaws.{shown_results_plain, shown_exonerations_plain}
use Rattle.result_forms.proofs.laws.rows_are_shown_plain.Goals as goal

pub returns : goal.returns
returns c = record { results = shown_results_plain; exonerations = shown_exonerations_plain }
