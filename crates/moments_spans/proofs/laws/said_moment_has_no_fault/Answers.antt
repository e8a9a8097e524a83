use Rattle.moments_spans.proofs.SaidLaws.{said_moment_has_no_fault}
use Rattle.moments_spans.proofs.laws.said_moment_has_no_fault.Goals as goal

pub returns : goal.returns
returns c = said_moment_has_no_fault
