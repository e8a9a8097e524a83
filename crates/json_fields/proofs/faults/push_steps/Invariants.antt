use Rattle.std.proofs.Common.{◌≡◌, ◌++◌, length, string_bytes}
use Rattle.json_fields.specs.Faults.{steps_text}
use Rattle.json_fields.proofs.faults.push_steps.Given as goal

abbrev pub invariant-loop-step : goal.invariant-loop-step
invariant-loop-step l = string_bytes l.text ++ steps_text l.left ≡ string_bytes l.fn.text ++ steps_text l.fn.steps

abbrev pub decreases-loop-step : goal.decreases-loop-step
decreases-loop-step l = length l.left
