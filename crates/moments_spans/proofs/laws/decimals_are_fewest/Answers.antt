use Rattle.moments_spans.proofs.SpanLaws.{decimals_are_fewest}
use Rattle.moments_spans.proofs.laws.decimals_are_fewest.Goals as goal

pub returns : goal.returns
returns c = decimals_are_fewest
