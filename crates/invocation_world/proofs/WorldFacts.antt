-- Worlds with the same parts.
use Rattle.std.proofs.Common.{◌≡◌, ℤ, List, ap, ◌∙◌}
use Rattle.inclusion_graph.specs.declared.edge.Edge.{Edge}
use Rattle.invocations.specs.declared.invocation.Invocation.{Invocation}
use Rattle.invocation_world.specs.World.{World}

abbrev made_of : List Invocation → List Edge → ℤ → World
made_of rows edges last = record { invocations = rows; inclusions = edges; last = last }

pub same_world : (v x : World) → v.invocations ≡ x.invocations → v.inclusions ≡ x.inclusions → v.last ≡ x.last → v ≡ x
same_world v x rows edges last =
    ap (λ rs. made_of rs v.inclusions v.last) rows ∙ ap (λ es. made_of x.invocations es v.last) edges
    ∙ ap (λ l. made_of x.invocations x.inclusions l) last
