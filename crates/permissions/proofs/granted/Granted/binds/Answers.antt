use Rattle.std.proofs.Common.{◌≡◌, Some, sym, ap, ◌∙◌, arith}
use Rattle.std.proofs.lemmas.List.{length-map}
use Rattle.policy_checks.specs.Checks.{realm_names}
use Rattle.policy_checks.specs.Index.{place_of}
use Rattle.policy_checks.proofs.PlaceLemmas.{place_of-within}
use Rattle.permissions.proofs.RowLemmas.{bound_over_names, not_bound}
use Rattle.permissions.proofs.granted.Granted.binds.Goals as goal

pub binds_from-requires : goal.binds_from-requires
binds_from-requires c =
    let g = c.args.self.now in
    let is : place_of c.args.name.now (realm_names g.policy) ≡ Some c.in-Some.place =
    sym (c.in-Some.ensures ∙ ap (λ h. place_of c.args.name.now (realm_names h.policy)) c.self.view_is) in
    omega (arith, length-map g.policy.realms (λ r. r.name), place_of-within c.args.name.now (realm_names g.policy) c.in-Some.place is)

pub returns-in-Some : goal.returns-in-Some
returns-in-Some c =
    let g = c.args.self.now in
    let is : place_of c.args.name.now (realm_names g.policy) ≡ Some c.in-Some.place =
    sym (c.in-Some.ensures ∙ ap (λ h. place_of c.args.name.now (realm_names h.policy)) c.self.view_is) in
    bound_over_names g.policy g.caller g.permission c.args.name.now c.in-Some.place c.binds_from.result is c.binds_from.ensures

pub returns-in-None : goal.returns-in-None
returns-in-None c =
    let g = c.args.self.now in
    not_bound g.policy g.caller g.permission c.args.name.now
    (c.in-None.ensures ∙ ap (λ h. place_of c.args.name.now (realm_names h.policy)) c.self.view_is)
