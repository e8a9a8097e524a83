use Rattle.std.proofs.Common.{[]}
use Rattle.door_workers.proofs.tests.a_door_that_fails_ends_the_work.Goals as goal

pub serve_door-tally-requires : goal.serve_door-tally-requires
serve_door-tally-requires g c = (record { asked = 0 }, [], tt)
