-- Laws of what a caller may not see.
use Rattle.std.specs.Prelude.{◌≡◌, ℕ, ℤ, List, Some, codes}
use Rattle.std.specs.List.{AllZip}
use Rattle.call_forms.specs.declared.asked.Asked.{Asked}
use Rattle.call_forms.specs.declared.forms.Answer.{Answer}
use Rattle.call_forms.specs.declared.forms.Told.{Told}
use Rattle.call_forms.specs.declared.forms.Told.TheVariants.{Made}
use Rattle.request_demands.specs.Settings.{Settings, caller_of}
use Rattle.service_effects.specs.Service.{ServiceWorld}
use Rattle.service_laws.specs.ServiceCore.History.{Entry, IsLegal}
use Rattle.service_laws.specs.ServiceCore.Step.{Step}
use Rattle.restricted_fields.specs.Alike.{LookAlike}

-- A caller asks the service that reads, by the caller's bearer token. What is asked may be of no
-- method, or out of form.
pub record AsksReader (s : Settings) (caller : ℕ) (asked : Asked) : Type 0 where
  pub caller_is : caller_of s asked.bearer ≡ Some caller
  pub service_is : asked.service ≡ codes "luci.resultdb.v1.ResultDB"

-- Where two worlds look alike to a caller, the step of one and of the other, at the same moment and
-- for the same request of this caller to the service that reads, have the same answer, and leave
-- worlds that look alike to the caller.
abbrev pub UnseenChangesNoAnswer : Type 0
UnseenChangesNoAnswer =
    (s : Settings) (caller : ℕ) (one other : ServiceWorld) (moment : ℤ) (asked : Asked)
    (after also : ServiceWorld) (answer told : Answer)
    → LookAlike s.policy caller one other → AsksReader s caller asked
    → Step s one moment asked after answer → Step s other moment asked also told
    → (answer ≡ told) × LookAlike s.policy caller after also

-- An answer was told, and no stand-in.
abbrev pub IsMade : Told → Type 0
IsMade told = (answer : Answer) × (told ≡ Made answer)

-- Two calls ask the same of the service that reads, by this caller's token and at the same moment,
-- and both were answered.
pub record AskAlike (s : Settings) (caller : ℕ) (e f : Entry) : Type 0 where
  pub moment : e.moment ≡ f.moment
  pub asked : e.asked ≡ f.asked
  pub reader : AsksReader s caller e.asked
  pub made : IsMade e.told
  pub also_made : IsMade f.told

-- So over whole histories of such calls, from worlds that look alike to the caller: each call was
-- told the same in both, and the worlds at the end look alike.
abbrev pub UnseenChangesNoHistory : Type 0
UnseenChangesNoHistory =
    (s : Settings) (caller : ℕ) (one other : ServiceWorld) (h k : List Entry)
    (end also : ServiceWorld) → LookAlike s.policy caller one other
    → AllZip (AskAlike s caller) h k → IsLegal s one h end → IsLegal s other k also
    → AllZip (λ (e f : Entry). e.told ≡ f.told) h k × LookAlike s.policy caller end also
