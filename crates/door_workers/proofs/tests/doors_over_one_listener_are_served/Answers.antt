use Rattle.std.proofs.Common.{[]}
use Rattle.door_workers.proofs.tests.doors_over_one_listener_are_served.Goals as goal

pub serve_doors-requires-after_bounds : goal.serve_doors-requires-after_bounds
serve_doors-requires-after_bounds g c κs = λ k d below. (d.teller, [], tt)
