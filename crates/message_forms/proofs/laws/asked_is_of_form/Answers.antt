use Rattle.message_forms.proofs.FormLaws.{asked_is_of_form}
use Rattle.message_forms.proofs.laws.asked_is_of_form.Goals as goal

pub returns : goal.returns
returns c = asked_is_of_form
