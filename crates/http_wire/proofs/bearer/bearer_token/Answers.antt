use Rattle.std.specs.Option.{option_map}
use Rattle.http_wire.proofs.SaysLaws.{bearer_from}
use Rattle.http_wire.proofs.bearer.bearer_token.Goals as goal

pub returns : goal.returns
returns c values x = bearer_from values c.in_ok-value.value.now (option_map (λ t. t.now) c.token_of.result) (c.in_ok-value.ensures values x) c.token_of.ensures
