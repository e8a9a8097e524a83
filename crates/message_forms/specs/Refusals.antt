-- The refusals of faults of a request's form.
use Rattle.std.specs.Prelude.{ℕ, List, [], ◌++◌, codes, Option, Some, None}
use Rattle.call_forms.specs.declared.forms.Refusal.{Refusal}
use Rattle.json_fields.specs.Faults.{path_text}
use Rattle.json_fields.specs.Whys.{why_text}
use Rattle.json_fields.specs.declared.names.Step.{Step}
use Rattle.json_fields.specs.declared.whys.Why.{Why}
use Rattle.message_forms.specs.declared.reading.FormFault.{FormFault}
use Rattle.message_forms.specs.declared.reading.FormFault.TheVariants.{NoMethod, NotJson, WrongKind, Missing, BadValue, Memory}

-- the field, a space, and why its value is refused
abbrev pub value_subject : List Step → Why → List ℕ
value_subject field why = path_text field ++ (codes " " ++ why_text why)

-- Rule 1 names the target, rules 4 and 5 name the field, and rule 6 says besides why its value is
-- refused. Want of memory is no refusal.
abbrev pub refusal_of : List ℕ → FormFault → Option Refusal
refusal_of target NoMethod = Some (record { rule = 1; subject = target })
refusal_of target NotJson = Some (record { rule = 3; subject = [] })
refusal_of target (WrongKind field) = Some (record { rule = 4; subject = path_text field })
refusal_of target (Missing field) = Some (record { rule = 5; subject = path_text field })
refusal_of target (BadValue field why) =
    Some (record { rule = 6; subject = value_subject field why })
refusal_of target Memory = None
