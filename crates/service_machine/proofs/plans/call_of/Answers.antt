use Rattle.std.proofs.Common.{◌≡◌, ℕ, true, List, sym, subst}
use Rattle.policy_checks.specs.Checks.{is_name}
use Rattle.service_replay.specs.RequestDemands.Settings.{Settings}
use Rattle.service_replay.proofs.RequestDemands.PolicyLaws.{name_is, names_of_sound}
use Rattle.service_machine.proofs.plans.call_of.Goals as goal

pub returns-clause-caller : goal.returns-clause-caller
returns-clause-caller c =
    let s : Settings = record { policy = c.args.wanted.now.policy.now } in
    subst (λ (name : List ℕ). is_name name ≡ true) (sym c.name_of.ensures)
    (name_is s c.in-Some.caller (names_of_sound s.policy c.tables.ensures.sound) c.in-Some.ensures.there)
