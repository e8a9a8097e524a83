use Rattle.text_kinds.proofs.TextLaws.{only_request_ids_are_read}
use Rattle.text_kinds.proofs.laws.only_request_ids_are_read.Goals as goal

pub returns : goal.returns
returns c = only_request_ids_are_read
