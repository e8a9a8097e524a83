-- What the exit status of a connection says.
use Rattle.std.proofs.Common.{◌≡◌, ◌≢◌, ℕ, ◌⊎◌, inl, inr, List, Some, Result, Ok, Err, refl, sym, ◌∙◌, subst, arith}
use Rattle.outside.specs.Ends.{Ends}
use Rattle.outside.specs.Whole.{CountsFault, CountsEnd}
use Rattle.outside.specs.declared.whole.WriteEnd.{WriteEnd}
use Rattle.outside.specs.declared.whole.WriteEnd.TheVariants as write_ends
use Rattle.fault_counts.specs.Causes.{Rose}
use Rattle.tellers.specs.Exchange.{Exchange}
use Rattle.http_wire.specs.Stream.{Framed}
use Rattle.http_wire.specs.declared.message.End.{End}
use Rattle.http_wire.specs.declared.message.End.TheVariants as stream_ends
use Rattle.http_wire.specs.declared.message.Message.{Message}
use Rattle.http_wire.specs.declared.message.WireFault.{WireFault}
use Rattle.http_wire.proofs.StreamLaws.{framed_once}
use Rattle.http_workers.specs.Turns.{messages_of}
use Rattle.http_workers.specs.Causes.{IsLastWrite, CountsReads}
use Rattle.http_workers.specs.Connection.{Connection}
use Rattle.http_workers.specs.Framing.{Served}
use Rattle.rdb_program.specs.Causes.{row_of}
use Rattle.rdb_program.specs.Statuses.{IsDone, IsBroken, EndsFailed}
use Rattle.http_workers.specs.declared.ended.Cause.{Cause}
use Rattle.http_workers.specs.declared.ended.Cause.TheVariants as causes

-- ---- the counts of what was written

pub faults_of : (asked : List Exchange → Type 0) (before : Ends) (calls : ℕ) (cause : Cause) (after : Ends) (c : Connection asked before calls cause after)
    → CountsFault before.outgoing.faults c.result after.outgoing.faults
faults_of asked before calls cause after c =
    subst (λ (n : ℕ). CountsFault n c.result after.outgoing.faults) c.sent.faults c.sent.writes.faults

pub stalls_of : (asked : List Exchange → Type 0) (before : Ends) (calls : ℕ) (cause : Cause) (after : Ends) (c : Connection asked before calls cause after)
    → CountsEnd before.outgoing.stalls c.result after.outgoing.stalls
stalls_of asked before calls cause after c =
    subst (λ (n : ℕ). CountsEnd n c.result after.outgoing.stalls) c.sent.stalls c.sent.writes.stalls

pub no_fault : (a b : ℕ) (result : Result (Unit {0}) WriteEnd) → CountsFault a result b → result ≢ Err write_ends.WriteFault → b ≡ a
no_fault a b (Ok done) counts other = counts
no_fault a b (Err write_ends.WriteFault) counts other = absurd (other refl)
no_fault a b (Err write_ends.SinkTakesNothing) counts other = counts

pub no_stall : (a b : ℕ) (result : Result (Unit {0}) WriteEnd) → CountsEnd a result b → result ≢ Err write_ends.SinkTakesNothing → b ≡ a
no_stall a b (Ok done) counts other = counts
no_stall a b (Err write_ends.WriteFault) counts other = counts
no_stall a b (Err write_ends.SinkTakesNothing) counts other = absurd (other refl)

pub fault_there : (a b : ℕ) (result : Result (Unit {0}) WriteEnd) → CountsFault a result b → result ≡ Err write_ends.WriteFault → Rose a b
fault_there a b result counts is = (subst (λ (r : Result (Unit {0}) WriteEnd). CountsFault a r b) is counts).1

pub stall_there : (a b : ℕ) (result : Result (Unit {0}) WriteEnd) → CountsEnd a result b → result ≡ Err write_ends.SinkTakesNothing → Rose a b
stall_there a b result counts is = (subst (λ (r : Result (Unit {0}) WriteEnd). CountsEnd a r b) is counts).1

-- an end that is well is no other
well_no_fault : (result : Result (Unit {0}) WriteEnd) → result ≡ Ok tt → result ≢ Err write_ends.WriteFault
well_no_fault result well fault = let both : Ok tt ≡ Err write_ends.WriteFault = sym well ∙ fault in cc

well_no_stall : (result : Result (Unit {0}) WriteEnd) → result ≡ Ok tt → result ≢ Err write_ends.SinkTakesNothing
well_no_stall result well stall = let both : Ok tt ≡ Err write_ends.SinkTakesNothing = sym well ∙ stall in cc

stall_no_fault : (result : Result (Unit {0}) WriteEnd) → result ≡ Err write_ends.SinkTakesNothing → result ≢ Err write_ends.WriteFault
stall_no_fault result stall fault = let both : ◌≡◌ {A = Result (Unit {0}) WriteEnd} (Err write_ends.SinkTakesNothing) (Err write_ends.WriteFault) = sym stall ∙ fault in cc

fault_no_stall : (result : Result (Unit {0}) WriteEnd) → result ≡ Err write_ends.WriteFault → result ≢ Err write_ends.SinkTakesNothing
fault_no_stall result fault stall = stall_no_fault result stall fault

-- ---- the statuses of causes

abbrev pub status_at : Cause → ℕ
status_at cause = (row_of cause).status

pub not_one : (cause : Cause) → status_at cause ≢ 1
not_one causes.End e = omega (arith, e)
not_one causes.Closed e = omega (arith, e)
not_one (causes.Wire fault) e = omega (arith, e)
not_one causes.ReadFault e = omega (arith, e)
not_one causes.WriteFault e = omega (arith, e)
not_one causes.SinkTakesNothing e = omega (arith, e)
not_one causes.Memory e = omega (arith, e)

pub not_two : (cause : Cause) → status_at cause ≢ 2
not_two causes.End e = omega (arith, e)
not_two causes.Closed e = omega (arith, e)
not_two (causes.Wire fault) e = omega (arith, e)
not_two causes.ReadFault e = omega (arith, e)
not_two causes.WriteFault e = omega (arith, e)
not_two causes.SinkTakesNothing e = omega (arith, e)
not_two causes.Memory e = omega (arith, e)

pub not_three : (cause : Cause) → status_at cause ≢ 3
not_three causes.End e = omega (arith, e)
not_three causes.Closed e = omega (arith, e)
not_three (causes.Wire fault) e = omega (arith, e)
not_three causes.ReadFault e = omega (arith, e)
not_three causes.WriteFault e = omega (arith, e)
not_three causes.SinkTakesNothing e = omega (arith, e)
not_three causes.Memory e = omega (arith, e)

pub done_at : (asked : List Exchange → Type 0) (before : Ends) (calls : ℕ) (cause : Cause) (after : Ends) → Served asked before calls cause after → status_at cause ≡ 0
    → IsDone before after
done_at asked before calls causes.End after s e = inl (s.connection.rest_is.1, λ stream told. (messages_of s.connection.turns, s.framed stream told))
done_at asked before calls causes.Closed after s e = inr (λ stream told. (messages_of s.connection.turns, s.framed stream told))
done_at asked before calls (causes.Wire fault) after s e = absurd (omega (arith, e))
done_at asked before calls causes.ReadFault after s e = absurd (omega (arith, e))
done_at asked before calls causes.WriteFault after s e = absurd (omega (arith, e))
done_at asked before calls causes.SinkTakesNothing after s e = absurd (omega (arith, e))
done_at asked before calls causes.Memory after s e = absurd (omega (arith, e))

pub broken_at : (asked : List Exchange → Type 0) (before : Ends) (calls : ℕ) (cause : Cause) (after : Ends) → Served asked before calls cause after → status_at cause ≡ 8
    → IsBroken before
broken_at asked before calls (causes.Wire fault) after s e = λ stream told. (messages_of s.connection.turns, fault, s.framed stream told)
broken_at asked before calls causes.End after s e = absurd (omega (arith, e))
broken_at asked before calls causes.Closed after s e = absurd (omega (arith, e))
broken_at asked before calls causes.ReadFault after s e = absurd (omega (arith, e))
broken_at asked before calls causes.WriteFault after s e = absurd (omega (arith, e))
broken_at asked before calls causes.SinkTakesNothing after s e = absurd (omega (arith, e))
broken_at asked before calls causes.Memory after s e = absurd (omega (arith, e))

pub failed_at : (asked : List Exchange → Type 0) (before : Ends) (calls : ℕ) (cause : Cause) (after : Ends) → Connection asked before calls cause after → status_at cause ≡ 4
    → EndsFailed before after
failed_at asked before calls causes.ReadFault after c e = inl c.reads.1
failed_at asked before calls causes.WriteFault after c e =
    inr (fault_there before.outgoing.faults after.outgoing.faults c.result (faults_of asked before calls causes.WriteFault after c) c.last_write)
failed_at asked before calls causes.End after c e = absurd (omega (arith, e))
failed_at asked before calls causes.Closed after c e = absurd (omega (arith, e))
failed_at asked before calls (causes.Wire fault) after c e = absurd (omega (arith, e))
failed_at asked before calls causes.SinkTakesNothing after c e = absurd (omega (arith, e))
failed_at asked before calls causes.Memory after c e = absurd (omega (arith, e))

pub stalled_at : (asked : List Exchange → Type 0) (before : Ends) (calls : ℕ) (cause : Cause) (after : Ends) → Connection asked before calls cause after → status_at cause ≡ 9
    → Rose before.outgoing.stalls after.outgoing.stalls
stalled_at asked before calls causes.SinkTakesNothing after c e =
    stall_there before.outgoing.stalls after.outgoing.stalls c.result (stalls_of asked before calls causes.SinkTakesNothing after c) c.last_write
stalled_at asked before calls causes.End after c e = absurd (omega (arith, e))
stalled_at asked before calls causes.Closed after c e = absurd (omega (arith, e))
stalled_at asked before calls (causes.Wire fault) after c e = absurd (omega (arith, e))
stalled_at asked before calls causes.ReadFault after c e = absurd (omega (arith, e))
stalled_at asked before calls causes.WriteFault after c e = absurd (omega (arith, e))
stalled_at asked before calls causes.Memory after c e = absurd (omega (arith, e))

pub no_read_fault_at : (cause : Cause) (a b : ℕ) → CountsReads cause a b → status_at cause ≢ 4 → b ≡ a
no_read_fault_at causes.End a b counts isnt = counts
no_read_fault_at causes.Closed a b counts isnt = counts
no_read_fault_at (causes.Wire fault) a b counts isnt = counts
no_read_fault_at causes.ReadFault a b counts isnt = absurd (isnt refl)
no_read_fault_at causes.WriteFault a b counts isnt = counts
no_read_fault_at causes.SinkTakesNothing a b counts isnt = counts
no_read_fault_at causes.Memory a b counts isnt = counts

pub not_fault_at : (cause : Cause) (result : Result (Unit {0}) WriteEnd) → IsLastWrite cause result → status_at cause ≢ 4 → status_at cause ≢ 7
    → status_at cause ≢ 8 → result ≢ Err write_ends.WriteFault
not_fault_at causes.End result is n4 n7 n8 = well_no_fault result is
not_fault_at causes.Closed result is n4 n7 n8 = well_no_fault result is
not_fault_at (causes.Wire fault) result is n4 n7 n8 = absurd (n8 refl)
not_fault_at causes.ReadFault result is n4 n7 n8 = absurd (n4 refl)
not_fault_at causes.WriteFault result is n4 n7 n8 = absurd (n4 refl)
not_fault_at causes.SinkTakesNothing result is n4 n7 n8 = stall_no_fault result is
not_fault_at causes.Memory result is n4 n7 n8 = absurd (n7 refl)

pub not_stall_at : (cause : Cause) (result : Result (Unit {0}) WriteEnd) → IsLastWrite cause result → status_at cause ≢ 8 → status_at cause ≢ 9
    → result ≢ Err write_ends.SinkTakesNothing
not_stall_at causes.End result is n8 n9 = well_no_stall result is
not_stall_at causes.Closed result is n8 n9 = well_no_stall result is
not_stall_at (causes.Wire fault) result is n8 n9 = absurd (n8 refl)
not_stall_at causes.ReadFault result is n8 n9 = well_no_stall result is
not_stall_at causes.WriteFault result is n8 n9 = fault_no_stall result is
not_stall_at causes.SinkTakesNothing result is n8 n9 = absurd (n9 refl)
not_stall_at causes.Memory result is n8 n9 = is

-- ---- which status a stream ends in

pub ends_at : (asked : List Exchange → Type 0) (before : Ends) (calls : ℕ) (cause : Cause) (after : Ends) → Served asked before calls cause after
    → (stream : List ℕ) (ms : List Message) (end : End) (status : ℕ) → before.incoming.left ≡ Some stream → Framed stream ms end
    → ¬ EndsFailed before after → ¬ Rose before.outgoing.stalls after.outgoing.stalls
    → (end ≡ stream_ends.Finished → status ≡ 0) → (end ≡ stream_ends.Closed → status ≡ 0) → ((fault : WireFault) → end ≡ stream_ends.Fault fault → status ≡ 8)
    → (status_at cause ≡ status) ⊎ (status_at cause ≡ 7)
ends_at asked before calls causes.End after s stream ms end status told framed fine takes whole closed broken =
    inl (sym (whole (sym (framed_once (messages_of s.connection.turns) ms 0 stream stream_ends.Finished end (s.framed stream told) framed).1)))
ends_at asked before calls (causes.Wire fault) after s stream ms end status told framed fine takes whole closed broken =
    inl (sym (broken fault (sym (framed_once (messages_of s.connection.turns) ms 0 stream (stream_ends.Fault fault) end (s.framed stream told) framed).1)))
ends_at asked before calls causes.Closed after s stream ms end status told framed fine takes whole closed broken =
    inl (sym (closed (sym (framed_once (messages_of s.connection.turns) ms 0 stream stream_ends.Closed end (s.framed stream told) framed).1)))
ends_at asked before calls causes.ReadFault after s stream ms end status told framed fine takes whole closed broken =
    absurd (fine (failed_at asked before calls causes.ReadFault after s.connection refl))
ends_at asked before calls causes.WriteFault after s stream ms end status told framed fine takes whole closed broken =
    absurd (fine (failed_at asked before calls causes.WriteFault after s.connection refl))
ends_at asked before calls causes.SinkTakesNothing after s stream ms end status told framed fine takes whole closed broken =
    absurd (takes (stalled_at asked before calls causes.SinkTakesNothing after s.connection refl))
ends_at asked before calls causes.Memory after s stream ms end status told framed fine takes whole closed broken = inr refl
