use Rattle.std.proofs.Common.{ap, sym}
use Rattle.std.specs.Prelude.{slice_get}
use Rattle.invocations.specs.declared.invocation.Invocation.{Invocation}
use Rattle.request_rules.proofs.RequestDemands.CauseLaws.{secret_read}
use Rattle.request_effects.proofs.AheadFacts.{token_so}
use Rattle.request_effects.proofs.ahead.Ahead.token.Goals as goal

pub returns : goal.returns
returns c after acts =
    token_so (record { policy = c.args.policy.now }) (slice_get after.invocations c.args.place) c.row-seen.result c.seen.inside.row.now.id
    c.secret.result.now c.update_token.result (c.row-seen.ensures after acts)
    (ap (λ (r : Invocation). r.id) (sym c.seen.view_is)) (secret_read c.args.policy.now c.secret.result.now c.secret.ensures)
    c.update_token.ensures
