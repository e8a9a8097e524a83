use Rattle.std.proofs.Common.{◌≡◌, map, take}
use Rattle.request_effects.specs.Shows.{ids_at}
use Rattle.request_effects.proofs.showing.ids_at.Given as goal

abbrev pub invariant-loop-place : goal.invariant-loop-place
invariant-loop-place l =
    map (λ id. id.now) l.ids.items ≡ ids_at l.world.world.invocations (take l.place-index l.places)
