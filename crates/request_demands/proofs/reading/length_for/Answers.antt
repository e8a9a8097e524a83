use Rattle.std.proofs.Common.{◌≡◌, true, List, ℕ, sym, subst}
use Rattle.policy_checks.specs.Checks.{is_name}
use Rattle.request_demands.specs.Settings.{Settings}
use Rattle.request_demands.proofs.PolicyLaws.{name_is, names_of_sound}
use Rattle.request_demands.proofs.reading.length_for.Goals as goal

pub record_length-requires : goal.record_length-requires
record_length-requires c =
    let s : Settings = record { policy = c.args.policy.now } in
    subst (λ (name : List ℕ). is_name name ≡ true) (sym c.name_of.ensures)
    (name_is s c.args.caller (names_of_sound s.policy c.tables.ensures.sound) c.requires)
