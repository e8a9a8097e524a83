use Rattle.std.proofs.Common.{◌≡◌, ◌-◌, ◌^◌, min, take}
use Rattle.sink_uploads.specs.Requests.{cases_in}
use Rattle.sink_uploads.proofs.plan.count_cases.Given as goal

abbrev pub invariant-loop-batch : goal.invariant-loop-batch
invariant-loop-batch l = l.cases ≡ min (cases_in (take l.batch-index l.batches)) (2 ^ 64 - 1)
