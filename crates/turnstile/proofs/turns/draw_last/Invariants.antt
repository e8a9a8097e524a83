use Rattle.std.proofs.Common.{◌≡◌, ◌≤◌, ◌^◌, []}
use Rattle.turnstile.specs.Rule.{own_of, idle}
use Rattle.turnstile.proofs.turns.draw_last.Given as goal

abbrev pub invariant-loop : goal.invariant-loop
invariant-loop g l = (l.place.table_id ≡ l.initial.place.table_id)
    × (l.place.me ≡ (idle (record (own_of l.initial.place.me.0) { drawn = (own_of l.place.me.0).drawn }), []))
    × ((own_of l.initial.place.me.0).drawn ≤ (own_of l.place.me.0).drawn)
    × (l.ticket ≤ 2 ^ 63)
