-- What the checks note is the least of what fails.
use Rattle.std.proofs.Common.{◌≡◌, List, [], ◌∷◌, Option, refl, inl, inr}
use Rattle.std.proofs.lemmas.Bool.{cases_Bool}
use Rattle.policy_tables.specs.declared.findings.Finding.{Finding}
use Rattle.policy_tables.specs.declared.tables.PolicyTables.{PolicyTables}
use Rattle.policy_checks.specs.declared.texts.Check.{Check}
use Rattle.policy_tables.specs.Findings.{lesser, least_with}
use Rattle.policy_checks.specs.Checks.{is_faulty}
use Rattle.policy_checks.specs.Spots.{Spot, failing, with_spots}

pub with_spots-failing : (t : PolicyTables) (check : Check) (least : Option Finding) (spots : List Spot) → with_spots t check least spots ≡ least_with least (failing t check spots)
with_spots-failing t check least [] = refl
with_spots-failing t check least (s ∷ ss) = elim (cases_Bool (is_faulty t check s.kind s.found.text)) [
  | inl e ↦ rw e (with_spots-failing t check (lesser least s.found) ss)
  | inr e ↦ rw e (with_spots-failing t check least ss)
]
