use Rattle.std.proofs.Common.{◌≡◌, map}
use Rattle.sink_uploads.specs.Requests.{batch_text}
use Rattle.sink_uploads.proofs.plan.texts_of.Given as goal

abbrev pub invariant-loop-batch : goal.invariant-loop-batch
invariant-loop-batch l = l.texts.items ≡ map (batch_text l.fn.plan.invocation l.fn.plan.bearer l.fn.plan.update_token) l.yielded
