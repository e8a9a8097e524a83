use Rattle.std.proofs.Common.{rules}
use Rattle.inclusion_graph.proofs.SearchLemmas.{placed_none}
use Rattle.inclusion_graph.proofs.search.Search.new.Goals as goal

pub returns-clause-placed : goal.returns-clause-placed
returns-clause-placed c = placed_none c.new.result.entries c.new-2.result.items (search rules) (search rules)
