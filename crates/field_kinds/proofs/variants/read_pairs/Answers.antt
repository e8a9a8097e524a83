use Rattle.field_kinds.proofs.OrderLaws.{ascending_members}
use Rattle.field_kinds.proofs.variants.read_pairs.Goals as goal

pub returns-clause-ascending : goal.returns-clause-ascending
returns-clause-ascending c = ascending_members c.args.map.now.entries c.len.ensures.ordered
