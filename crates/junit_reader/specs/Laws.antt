-- A report has exactly one list of cases or exactly one fault.
use Rattle.std.specs.Prelude.{◌≡◌, ◌⊎◌, ℕ, List}
use Rattle.names_realms.specs.declared.states.Case.{Case}
use Rattle.junit_parts.specs.Reports.{HasCases, HasFault}
use Rattle.junit_parts.specs.declared.faults.JunitFault.{JunitFault}

-- at most one list of cases
abbrev pub OneListOfCases : Type 0
OneListOfCases =
    (bytes : List ℕ) (cases other : List Case)
    → HasCases bytes cases → HasCases bytes other → cases ≡ other

-- at most one fault
abbrev pub OneFault : Type 0
OneFault =
    (bytes : List ℕ) (fault other : JunitFault)
    → HasFault bytes fault → HasFault bytes other → fault ≡ other

-- not both
abbrev pub CasesOrFault : Type 0
CasesOrFault =
    (bytes : List ℕ) (cases : List Case) (fault : JunitFault)
    → HasCases bytes cases → ¬ HasFault bytes fault

-- and one of them there is
abbrev pub CasesOrAFault : Type 0
CasesOrAFault =
    (bytes : List ℕ)
    → ((cases : List Case) × HasCases bytes cases) ⊎ ((fault : JunitFault) × HasFault bytes fault)
