-- Where the invocations and the rows stand that are demanded.
use Rattle.request_rules.specs.RequestDemands.Demands.{Demand}
use Rattle.request_rules.specs.Held.{Held}
use Rattle.request_rules.specs.Locating.{Located, located}
use Rattle.service_effects.specs.Service.{Recorded}

-- the rows that invocations hold, as rules look at them
abbrev pub held_in : Recorded → Held
held_in w = record { results = w.results; artifacts = w.artifacts }

abbrev pub located_in : Recorded → Demand → Located
located_in w d = located w.rows.invocations (held_in w) d
