use Rattle.message_forms.proofs.RequestLaws.{one_request_asked}
use Rattle.message_forms.proofs.laws.one_request_asked.Goals as goal

pub returns : goal.returns
returns c = one_request_asked
