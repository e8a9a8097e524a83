use Rattle.std.proofs.Common.{[]}
use Rattle.door_workers.proofs.tests.links_are_served_to_the_end_of_a_door.Goals as goal

pub serve_door-tally-requires : goal.serve_door-tally-requires
serve_door-tally-requires g c = (record { asked = 0 }, [], tt)
