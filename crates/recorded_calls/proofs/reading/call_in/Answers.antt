use Rattle.recorded_calls.proofs.CommandLaws.{never_body}
use Rattle.recorded_calls.proofs.reading.call_in.Goals as goal

pub returns-in_err-body-clause-none : goal.returns-in_err-body-clause-none
returns-in_err-body-clause-none c =
    let found = c.in_ok-name.ensures.some in
    rw (c.from_residual-in_err-body.ensures)
    (never_body c.args.timed.now.rest.now c.in_ok-name.name.content.now c.in_ok-name.name.rest.now found.1 found.0 c.in_err-body.ensures.none)
