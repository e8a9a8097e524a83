use Rattle.std.proofs.Common.{[]}
use Rattle.door_workers.proofs.tests.workers_work_side_by_side.Goals as goal

pub serve_doors-requires-after_bounds : goal.serve_doors-requires-after_bounds
serve_doors-requires-after_bounds g c κs = λ k d below. (d.teller, [], tt)
