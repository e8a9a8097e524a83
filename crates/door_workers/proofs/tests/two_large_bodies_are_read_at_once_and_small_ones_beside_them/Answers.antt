use Rattle.std.proofs.Common.{[]}
use Rattle.door_workers.proofs.tests.two_large_bodies_are_read_at_once_and_small_ones_beside_them.Goals as goal

pub serve_doors-requires-after_bounds : goal.serve_doors-requires-after_bounds
serve_doors-requires-after_bounds g c κs = λ k d below. (d.teller, [], tt)
