-- Which rule a request breaks can be told in every world.
use Rattle.std.proofs.Common.{◌⊎◌, ℕ, ℤ, Option}
use Rattle.kept_replies.specs.declared.reply.KeptReply.{KeptReply}
use Rattle.call_forms.specs.declared.asked.Asked.{Asked}
use Rattle.call_forms.specs.declared.forms.Refusal.{Refusal}
use Rattle.service_core.specs.MessageForms.declared.requests.Request.{Request}
use Rattle.service_core.specs.RequestDemands.Settings.{Settings}
use Rattle.service_core.specs.RequestDemands.Demands.{demand_of}
use Rattle.service_core.specs.RequestRules.Broken.{Case, IsBroken, order}
use Rattle.service_core.proofs.RequestRules.Decided.{broken_told, repeat_or_not}
use Rattle.service_core.proofs.RequestDemands.Judged.{judged_there}
use Rattle.service_effects.specs.Service.{ServiceWorld}
use Rattle.service_core.specs.Step.{IsFresh, IsJudgedAs, IsRepeated, case_in}

pub judged_as : (s : Settings) (w : ServiceWorld) (moment : ℤ) (asked : Asked) (caller : ℕ) (request : Request)
    → (found : Option Refusal) × IsJudgedAs s w moment asked caller request found
judged_as s w moment asked caller request =
    let x : Case = case_in s w moment asked caller in
    judged_there (IsBroken x (demand_of request)) (broken_told x (demand_of request)) order

pub repeated_or_fresh : (s : Settings) (w : ServiceWorld) (moment : ℤ) (asked : Asked) (caller : ℕ) (request : Request)
    → ((reply : KeptReply) × IsRepeated s w moment asked caller request reply) ⊎ IsFresh s w moment asked caller request
repeated_or_fresh s w moment asked caller request = repeat_or_not (case_in s w moment asked caller) (demand_of request)
