use Rattle.request_demands.proofs.CauseLaws.{secret_read, shows_other}
use Rattle.request_demands.proofs.reading.check_shown.Goals as goal

pub returns-else-token_is : goal.returns-else-token_is
returns-else-token_is c = λ request changes.
    shows_other (record { policy = c.args.policy.now }) c.args.asked.now request c.args.id.now c.as_slice.result.now
    _ c.secret.result.now c.token_is.result c.in-Some.is c.as_slice.ensures (secret_read c.args.policy.now c.secret.result.now c.secret.ensures)
    c.token_is.ensures
    c.if-token_is.false changes
