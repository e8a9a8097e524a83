use Rattle.artifact_pages.proofs.PageLaws.{one_page}
use Rattle.artifact_pages.proofs.laws.one_page.Goals as goal

pub returns : goal.returns
returns c = one_page
