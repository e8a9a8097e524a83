-- How a test ended, by name.
use Rattle.std.specs.Prelude.{◌≡◌, ℕ, Bool, false, ◌||◌, ◌==◌, if◌then◌else◌, List, [], ◌∷◌, length, codes, bytes_eq, Option, Some, None}
use Rattle.serde_json.specs.Data.{Data, null, boolean, number, string, array, object}
use Rattle.json_fields.specs.NamesRealms.declared.states.Status.{Status}
use Rattle.json_fields.specs.NamesRealms.declared.states.Status.TheVariants.{Pass, Fail, Crash, Abort, Skip}
use Rattle.json_fields.specs.Faults.{here}
use Rattle.json_fields.specs.declared.faults.FieldFault.{FieldFault}
use Rattle.json_fields.specs.declared.faults.FaultKind.TheVariants.{WrongKind, BadValue}
use Rattle.json_fields.specs.declared.whys.Why.TheVariants.{Unknown}

-- Each name with what it names.
abbrev pub names_of_statuses : List (List ℕ × Status)
names_of_statuses =
    (codes "PASS", Pass) ∷ (codes "FAIL", Fail) ∷ (codes "CRASH", Crash) ∷ (codes "ABORT", Abort)
    ∷ (codes "SKIP", Skip) ∷ []

-- what a table has under a name
abbrev pub looked_up : {A : Type 0} → List ℕ → List (List ℕ × A) → Option A
looked_up text [] = None
looked_up text (row ∷ rows) = if bytes_eq text row.0 then Some row.1 else looked_up text rows

abbrev pub status_of : List ℕ → Option Status
status_of text = looked_up text names_of_statuses

-- a name that the table hasn't is unknown
abbrev pub unless_known : {A : Type 0} → Option A → Option FieldFault
unless_known None = Some (here (BadValue Unknown))
unless_known (Some a) = None

abbrev pub a_status : Data → Option FieldFault
a_status null = Some (here WrongKind)
a_status (boolean b) = Some (here WrongKind)
a_status (number n) = Some (here WrongKind)
a_status (string s) = unless_known (status_of s)
a_status (array ds) = Some (here WrongKind)
a_status (object ms) = Some (here WrongKind)

abbrev pub IsStatus : Data → Status → Type 0
IsStatus null x = ⊥
IsStatus (boolean b) x = ⊥
IsStatus (number n) x = ⊥
IsStatus (string s) x = status_of s ≡ Some x
IsStatus (array ds) x = ⊥
IsStatus (object ms) x = ⊥

-- the unspecified one and the empty text say nothing
abbrev pub no_status : Data → Bool
no_status null = false
no_status (boolean b) = false
no_status (number n) = false
no_status (string s) = length s == 0 || bytes_eq s (codes "STATUS_UNSPECIFIED")
no_status (array ds) = false
no_status (object ms) = false

-- the name of a status
abbrev pub status_name : Status → List ℕ
status_name Pass = codes "PASS"
status_name Fail = codes "FAIL"
status_name Crash = codes "CRASH"
status_name Abort = codes "ABORT"
status_name Skip = codes "SKIP"
