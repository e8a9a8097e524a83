use Rattle.std.proofs.Common.{◌<◌, length, map, sym, ap, ◌∙◌, arith}
use Rattle.std.proofs.lemmas.List.{length-map}
use Rattle.policy_checks.proofs.PlaceLemmas.{place_of-within}
use Rattle.permissions.proofs.policy.Policy.caller_of.Goals as goal

pub returns-in-Some-clause-there : goal.returns-in-Some-clause-there
returns-in-Some-clause-there c =
    let users = c.self.inside.rights.users in
    let tokens = map (λ u. u.token) users in
    let within : c.in-Some.place < length tokens = place_of-within c.args.token.now tokens c.in-Some.place (sym (c.in-Some.ensures ∙ c.self.invariant.tokens_are c.args.token.now)) in
    omega (arith, within, length-map users (λ u. u.token), c.at.ensures, ap (λ t. length t.users) c.self.view_is)
