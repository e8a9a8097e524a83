use Rattle.artifact_pages.proofs.PageLaws.{a_page_is_there}
use Rattle.artifact_pages.proofs.laws.a_page_is_there.Goals as goal

pub returns : goal.returns
returns c = a_page_is_there
