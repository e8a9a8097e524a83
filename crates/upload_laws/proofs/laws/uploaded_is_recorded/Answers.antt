use Rattle.upload_laws.proofs.UploadFacts.{uploaded_is_recorded}
use Rattle.upload_laws.proofs.laws.uploaded_is_recorded.Goals as goal

pub returns : goal.returns
returns c = uploaded_is_recorded
