-- Each rule that is asked of a request by itself is broken in one way, and one caller wants one thing.
use Rattle.std.proofs.Common.{◌≡◌, ℕ, Some, sym, ap, ◌∙◌}
use Rattle.call_forms.specs.declared.asked.Asked.{Asked}
use Rattle.call_forms.specs.declared.forms.Refusal.{Refusal}
use Rattle.message_forms.specs.declared.requests.Request.{Request}
use Rattle.message_forms.specs.Refusals.{refusal_of}
use Rattle.message_forms.proofs.FaultLaws.{one_fault}
use Rattle.message_forms.proofs.RequestLaws.{one_request_asked}
use Rattle.request_demands.specs.Settings.{Settings}
use Rattle.request_demands.specs.Alone.{Alone, HasBadBody, IsBrokenAlone, IsRefusedAlone, Wants, body_right, caller_known, method_known, order_alone, target_of}
use Rattle.request_demands.proofs.Judged.{IsOne, one_judged}

one_bad_body : (asked : Asked) → IsOne (HasBadBody asked)
one_bad_body asked r p this that =
    let same = one_fault asked.service asked.method asked.body this.fault that.fault this.has that.has in
    let both : Some r ≡ Some p = sym this.refusal_is ∙ (ap (refusal_of (target_of asked)) same ∙ that.refusal_is) in cc

one_alone : (s : Settings) (asked : Asked) (k : Alone) → IsOne (IsBrokenAlone s asked k)
one_alone s asked method_known r p this that = this.1 ∙ sym that.1
one_alone s asked caller_known r p this that = this.1 ∙ sym that.1
one_alone s asked body_right r p this that = one_bad_body asked r p this that

pub one_refused_alone : (s : Settings) (asked : Asked) (r p : Refusal) → IsRefusedAlone s asked r → IsRefusedAlone s asked p → r ≡ p
one_refused_alone s asked r p this that =
    let both : Some r ≡ Some p = one_judged (IsBrokenAlone s asked) (one_alone s asked) order_alone (Some r) (Some p) this that in cc

-- one caller wants one thing
pub one_caller : (s : Settings) (asked : Asked) (c d : ℕ) (p q : Request) → Wants s asked c p → Wants s asked d q → c ≡ d
one_caller s asked c d p q this that = let both : Some c ≡ Some d = sym this.caller_is ∙ that.caller_is in cc

pub one_request : (s : Settings) (asked : Asked) (c d : ℕ) (p q : Request) → Wants s asked c p → Wants s asked d q → p ≡ q
one_request s asked c d p q this that = one_request_asked asked.service asked.method asked.body p q this.asks that.asks
