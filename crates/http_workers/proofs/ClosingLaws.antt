-- How a fault of the wire closes a connection.
use Rattle.std.proofs.Common.{◌≡◌, ◌≢◌, ◌⊎◌, inl, inr, ℕ, Bool, false, Result, Ok, Err, refl, sym, subst}
use Rattle.outside.specs.declared.whole.WriteEnd.{WriteEnd}
use Rattle.outside.specs.declared.whole.WriteEnd.TheVariants as write_ends
use Rattle.outside.specs.Ends.{Outgoing}
use Rattle.outside.specs.Whole.{WritesWhole}
use Rattle.http_wire.specs.Out.{farewell_bytes}
use Rattle.http_wire.specs.declared.message.WireFault.{WireFault}
use Rattle.http_wire.specs.declared.message.WireFault.TheVariants as faults
use Rattle.http_workers.specs.Closing.{Closes, LeavesWire}
use Rattle.http_workers.specs.declared.ended.Cause.{Cause}
use Rattle.http_workers.specs.declared.ended.Cause.TheVariants as causes

pub closes_cut : (fault : WireFault) (have : ℕ) (out : Outgoing) → fault ≡ faults.CutShort have → Closes fault (causes.Wire fault) out out
closes_cut fault have out is =
    subst (λ (f : WireFault). Closes f (causes.Wire f) out out) (sym is) (Ok tt, (refl, (refl, refl)))

pub closes_unread : (fault : WireFault) (out : Outgoing) → fault ≡ faults.ReadFault → Closes fault causes.ReadFault out out
closes_unread fault out is =
    subst (λ (f : WireFault). Closes f causes.ReadFault out out) (sym is) (Ok tt, (refl, (refl, refl)))

-- each other fault is told
pub closes_told : (fault : WireFault) (result : Result (Unit {0}) WriteEnd) (before after : Outgoing) → ((have : ℕ) → fault ≡ faults.CutShort have → ⊥)
    → (fault ≡ faults.ReadFault → ⊥) → (fault ≡ faults.Memory → ⊥) → WritesWhole before (farewell_bytes fault) result after
    → Closes fault (causes.Wire fault) before after
closes_told (faults.CutShort have) result before after no_cut no_read no_memory writes = absurd (no_cut have refl)
closes_told faults.ReadFault result before after no_cut no_read no_memory writes = absurd (no_read refl)
closes_told faults.Memory result before after no_cut no_read no_memory writes = absurd (no_memory refl)
closes_told fault result before after no_cut no_read no_memory writes = (result, (refl, writes))

-- the cause that a fault came to leaves the wire closed
pub leaves_wire : (fault : WireFault) (cause : Cause) (before after : Outgoing) (is_open : Bool) → Closes fault cause before after → is_open ≡ false
    → LeavesWire cause is_open
leaves_wire (faults.CutShort have) cause before after is_open how shut = subst (λ (k : Cause). LeavesWire k is_open) (sym how.1.0) shut
leaves_wire faults.ReadFault cause before after is_open how shut = subst (λ (k : Cause). LeavesWire k is_open) (sym how.1.0) shut
leaves_wire faults.Memory cause before after is_open how shut = by_memory cause how.0 is_open how.1.1 shut
  where
    by_memory : (cause : Cause) (result : Result (Unit {0}) WriteEnd) (is_open : Bool)
        → ((cause ≡ causes.Memory) × (result ≢ Err write_ends.SinkTakesNothing)) ⊎ ((cause ≡ causes.SinkTakesNothing) × (result ≡ Err write_ends.SinkTakesNothing))
        → is_open ≡ false → LeavesWire cause is_open
    by_memory cause result is_open (inl memory) shut = subst (λ (k : Cause). LeavesWire k is_open) (sym memory.0) shut
    by_memory cause result is_open (inr stall) shut = subst (λ (k : Cause). LeavesWire k is_open) (sym stall.0) tt
leaves_wire fault cause before after is_open how shut = subst (λ (k : Cause). LeavesWire k is_open) (sym how.1.0) shut
