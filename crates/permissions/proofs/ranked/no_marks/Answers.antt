use Rattle.permissions.proofs.AskLemmas.{none_marked}
use Rattle.permissions.proofs.ranked.no_marks.Goals as goal

pub returns : goal.returns
returns g c = λ q. none_marked _ q
