-- What a caller wants that breaks no rule for what is demanded is safe.
use Rattle.std.proofs.Common.{◌≡◌, ℕ, ℤ, List, Some, None, sym, subst, rules}
use Rattle.call_forms.specs.declared.asked.Asked.{Asked}
use Rattle.request_effects.specs.MessageForms.declared.requests.Request.{Request}
use Rattle.kept_replies.specs.declared.reply.KeptReply.{KeptReply}
use Rattle.kept_replies.specs.Kept.{IsFree, IsWord}
use Rattle.request_effects.specs.RequestRules.declared.rules.Rule.{Rule}
use Rattle.request_effects.specs.RequestRules.declared.rules.Rule.TheVariants as rule
use Rattle.request_effects.specs.RequestDemands.Settings.{Settings, HasNames, caller_name}
use Rattle.request_effects.specs.RequestDemands.Demands.{demand_of}
use Rattle.request_effects.specs.RequestDemands.Order.{IsUnbroken}
use Rattle.request_effects.specs.RequestRules.Broken.{Denied, IsBroken, NotFound, RequestIdReused, order}
use Rattle.request_effects.proofs.RequestDemands.Judged.{IsAmong, unbroken_each}
use Rattle.request_effects.proofs.RequestDemands.NumberLaws.{number_is_word}
use Rattle.request_effects.proofs.RequestRules.ReuseLaws.{free_number}
use Rattle.request_effects.proofs.RequestDemands.PolicyLaws.{caller_is_there, name_is}
use Rattle.service_effects.specs.Fitting.{ArePlaced, IsTimely, Suits}
use Rattle.request_effects.specs.Places.{held_in}
use Rattle.request_effects.specs.Planned.{IsSafe}
use Rattle.request_effects.proofs.KeepLaws.{kept_is, numbered_is}
use Rattle.request_effects.proofs.SafeLaws.{placed, suits}
use Rattle.service_effects.specs.Service.{ServiceWorld, recorded}
use Rattle.service_core.specs.Step.{IsAccepted, IsJudgedAs, IsNew, case_in, effect_for, keep_for}
use Rattle.request_effects.proofs.MessageForms.FormLaws.{asked_is_of_form}

-- A caller wants this, it is no repeat, and it breaks no rule for what is demanded.
pub record IsCleared (s : Settings) (w : ServiceWorld) (moment : ℤ) (asked : Asked) (caller : ℕ) (request : Request) : Type 0 where
  pub new : IsNew s w moment asked caller request
  pub judged : IsJudgedAs s w moment asked caller request None

unbroken : (s : Settings) (w : ServiceWorld) (moment : ℤ) (asked : Asked) (caller : ℕ) (request : Request)
    → IsCleared s w moment asked caller request → (k : Rule) → IsAmong k order
    → IsUnbroken (IsBroken (case_in s w moment asked caller) (demand_of request) k)
unbroken s w moment asked caller request h k at =
    unbroken_each (IsBroken (case_in s w moment asked caller) (demand_of request)) order h.judged k at

reused_among : IsAmong rule.RequestIdReused order
reused_among = search rules

not_found_among : IsAmong rule.NotFound order
not_found_among = search rules

not_active_among : IsAmong rule.NotActive order
not_active_among = search rules

denied_among : IsAmong rule.Denied order
denied_among = search rules

deadline_among : IsAmong rule.DeadlineRange order
deadline_among = search rules

itself_among : IsAmong rule.Itself order
itself_among = search rules

taken_among : IsAmong rule.Taken order
taken_among = search rules

pub safe : (s : Settings) (w : ServiceWorld) (moment : ℤ) (asked : Asked) (caller : ℕ) (request : Request) → HasNames s
    → IsCleared s w moment asked caller request → IsSafe w.rows moment (caller_name s caller) request
safe s w moment asked caller request names h = record {
  active = unbroken s w moment asked caller request h rule.NotActive not_active_among;
  reach = unbroken s w moment asked caller request h rule.DeadlineRange deadline_among;
  itself = unbroken s w moment asked caller request h rule.Itself itself_among;
  free = unbroken s w moment asked caller request h rule.Taken taken_among;
  forms = asked_is_of_form asked.service asked.method asked.body request h.new.wants.asks;
  name_is = name_is s caller names (caller_is_there s asked.bearer caller h.new.wants.caller_is);
}

-- and so what it does suits the world
pub accepted_suits : (s : Settings) (w : ServiceWorld) (moment : ℤ) (asked : Asked) (caller : ℕ) (request : Request) → HasNames s
    → IsTimely w.rows moment → IsAccepted s w moment asked caller request → Suits w.rows moment (effect_for s w moment caller request)
accepted_suits s w moment asked caller request names timely h =
    suits (recorded w) moment (caller_name s caller) request timely
    (safe s w moment asked caller request names (record { new = h.new; judged = h.judged }))

-- and is placed behind what its holder has
pub effect_placed : (s : Settings) (w : ServiceWorld) (moment : ℤ) (caller : ℕ) (request : Request)
    → ArePlaced w.exonerations (effect_for s w moment caller request)
effect_placed s w moment caller request = placed (recorded w) moment (caller_name s caller) request

-- each invocation that it names is there
pub accepted_found : (s : Settings) (w : ServiceWorld) (moment : ℤ) (asked : Asked) (caller : ℕ) (request : Request)
    → IsAccepted s w moment asked caller request → IsUnbroken (NotFound w.rows.invocations (held_in (recorded w)) (demand_of request))
accepted_found s w moment asked caller request h =
    unbroken s w moment asked caller request (record { new = h.new; judged = h.judged }) rule.NotFound not_found_among

-- the caller has each right that it takes
pub accepted_granted : (s : Settings) (w : ServiceWorld) (moment : ℤ) (asked : Asked) (caller : ℕ) (request : Request)
    → IsAccepted s w moment asked caller request → IsUnbroken (Denied s.policy w.rows.invocations caller (demand_of request))
accepted_granted s w moment asked caller request h =
    unbroken s w moment asked caller request (record { new = h.new; judged = h.judged }) rule.Denied denied_among

-- no other request had its number
pub unused : (s : Settings) (w : ServiceWorld) (moment : ℤ) (asked : Asked) (caller : ℕ) (request : Request)
    → IsCleared s w moment asked caller request → IsUnbroken (RequestIdReused w.kept (caller_name s caller) asked (demand_of request))
unused s w moment asked caller request h = unbroken s w moment asked caller request h rule.RequestIdReused reused_among

-- what is kept of it has a number for which nothing is kept
pub kept_free : (s : Settings) (w : ServiceWorld) (moment : ℤ) (asked : Asked) (caller : ℕ) (request : Request) (reply : KeptReply)
    → IsCleared s w moment asked caller request → keep_for s w moment asked caller request ≡ Some reply
    → IsWord reply.number × IsFree w.kept reply.caller reply.number
kept_free s w moment asked caller request reply h is =
    let name = caller_name s caller in
    let k = kept_is (recorded w) name _ (effect_for s w moment caller request) reply is in
    let at = numbered_is asked (demand_of request) k.n k.numbered_is in
    let form = asked_is_of_form asked.service asked.method asked.body request h.new.wants.asks in
    let reused = unused s w moment asked caller request h in (
      subst IsWord (sym k.number) (number_is_word request k.n.number form at.0),
      subst (λ (c : List ℕ). IsFree w.kept c reply.number) (sym k.caller)
          (subst (IsFree w.kept name) (sym k.number) (free_number w.kept name asked (demand_of request) k.n.number at.0 h.new.fresh reused)),
    )
