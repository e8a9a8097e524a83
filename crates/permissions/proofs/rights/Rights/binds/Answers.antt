use Rattle.std.proofs.Common.{sym, arith, ap, ◌∙◌}
use Rattle.std.proofs.lemmas.List.{length-map}
use Rattle.policy_checks.specs.Checks.{realm_names}
use Rattle.policy_checks.specs.Index.{place_of}
use Rattle.policy_checks.proofs.PlaceLemmas.{place_of-within}
use Rattle.permissions.proofs.RowLemmas.{bound_over_names, not_bound}
use Rattle.permissions.proofs.rights.Rights.binds.Goals as goal

pub binds_from-requires : goal.binds_from-requires
binds_from-requires c =
    let t = c.args.self.now in
    let is = sym (c.in-Some.ensures ∙ ap (λ t. place_of c.args.name.now (realm_names t)) c.self.view_is) in
    omega (arith, length-map t.realms (λ r. r.name), place_of-within c.args.name.now (realm_names t) c.in-Some.place is)

pub returns-in-Some : goal.returns-in-Some
returns-in-Some c =
    let is = sym (c.in-Some.ensures ∙ ap (λ t. place_of c.args.name.now (realm_names t)) c.self.view_is) in
    bound_over_names c.args.self.now c.args.ask.user c.args.ask.permission c.args.name.now c.in-Some.place c.binds_from.result is c.binds_from.ensures

pub returns-in-None : goal.returns-in-None
returns-in-None c =
    let is = c.in-None.ensures ∙ ap (λ t. place_of c.args.name.now (realm_names t)) c.self.view_is in
    not_bound c.args.self.now c.args.ask.user c.args.ask.permission c.args.name.now is
