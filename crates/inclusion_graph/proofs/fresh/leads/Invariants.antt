use Rattle.inclusion_graph.specs.Links.{IsSought}
use Rattle.inclusion_graph.proofs.fresh.leads.Given as goal

abbrev pub invariant-sources : goal.invariant-sources
invariant-sources l = IsSought l.edges.edges l.from l.to l.next
