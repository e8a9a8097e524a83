use Rattle.moments_spans.proofs.SaidLaws.{one_moment_fault}
use Rattle.moments_spans.proofs.laws.one_moment_fault.Goals as goal

pub returns : goal.returns
returns c = one_moment_fault
